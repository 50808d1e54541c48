-- What is wrong is of one kind.
use Rattle.std.proofs.Common.{◌≡◌, inl, inr, ℕ, ◌+◌, List, length, Some, None, if◌then◌else◌, sym, refl, ◌∙◌}
use Rattle.std.proofs.{Math.Dec.ltb, lemmas.Bool.lt-ltb, lemmas.Bool.le-ltb}
use Rattle.kmip_ttlv_types.specs.{declared.typ.TtlvType.TtlvType, ItemTypes.fixed_length, Places.length_at, Places.size}
use Rattle.kmip_ttlv_items.specs.declared.found.FaultKind.{FaultKind}
use Rattle.kmip_ttlv_items.specs.declared.found.FaultKind.TheVariants.{Cut, NoStructure, UnknownType, PartialHeader, WrongLength, Overlong, InvalidValue}
use Rattle.kmip_ttlv_items.specs.ItemWalks.{type_at, has_length, own_size, HasType, Misfits, RootMisfits, HasOneName}

module _ (w : List ℕ) (p e : ℕ) where
  -- the kind of what is wrong, by tests in the order of the kinds, if the type is known
  abbrev kind_of : TtlvType → FaultKind
  kind_of t = if has_length (fixed_length t) (length_at w p)
      then (if ltb e (p + size t (length_at w p)) then Overlong else (if ltb (length w) (p + own_size t (length_at w p)) then Cut else InvalidValue))
      else WrongLength

  abbrev kind_at : FaultKind
  kind_at = if ltb e (p + 8) then PartialHeader
      else (if ltb (length w) (p + 8) then Cut else elim (type_at w p) [ None ↦ UnknownType | Some t ↦ kind_of t ])

  kind_typed : (t : TtlvType) → HasType w p e t → kind_at ≡ kind_of t
  kind_typed t h = rw (le-ltb e (p + 8) h.there, le-ltb (length w) (p + 8) h.read, h.typ) refl

  is_kind : (k : FaultKind) → Misfits w p e k → kind_at ≡ k
  is_kind PartialHeader a = rw (lt-ltb e (p + 8) a) refl
  is_kind Cut (inl a) = rw (le-ltb e (p + 8) a.0, lt-ltb (length w) (p + 8) a.1) refl
  is_kind Cut (inr a) = kind_typed a.typ a.has
      ∙ rw (a.long, le-ltb e (p + size a.typ (length_at w p)) a.fits, lt-ltb (length w) (p + own_size a.typ (length_at w p)) a.cut) refl
  is_kind UnknownType a = rw (le-ltb e (p + 8) a.0, le-ltb (length w) (p + 8) a.1, a.2) refl
  is_kind WrongLength a = kind_typed a.0 a.1 ∙ rw a.2 refl
  is_kind Overlong a = kind_typed a.0 a.1 ∙ rw (a.2, lt-ltb e (p + size a.0 (length_at w p)) a.3) refl
  is_kind InvalidValue a = kind_typed a.0 a.1
      ∙ rw (a.2, le-ltb e (p + size a.0 (length_at w p)) a.3, le-ltb (length w) (p + own_size a.0 (length_at w p)) a.4) refl
  is_kind _ a = absurd a

  pub one_name : HasOneName (Misfits w p e)
  one_name k m a b = sym (is_kind k a) ∙ is_kind m b

-- the same for a root
module _ (w : List ℕ) where
  abbrev root_kind : FaultKind
  root_kind = if ltb (length w) 8 then Cut else elim (type_at w 0) [ None ↦ UnknownType | Some t ↦ NoStructure ]

  is_root : (k : FaultKind) → RootMisfits w k → root_kind ≡ k
  is_root Cut a = rw (lt-ltb (length w) 8 a) refl
  is_root UnknownType a = rw (le-ltb (length w) 8 a.0, a.1) refl
  is_root NoStructure a = rw (le-ltb (length w) 8 a.1.there, a.1.typ) refl
  is_root _ a = absurd a

  pub one_root_name : HasOneName (RootMisfits w)
  one_root_name k m a b = sym (is_root k a) ∙ is_root m b
