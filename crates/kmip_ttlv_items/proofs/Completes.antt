-- Every walk ends.
use Rattle.std.proofs.Common.{◌≡◌, ◌≢◌, ◌⊎◌, inl, inr, ℕ, suc, zero, ◌+◌, ◌-◌, ◌*◌, ◌<◌, ◌≤◌, Bool, true, false, List, [], ◌∷◌, ◌++◌, length, get_or, Option}
use Rattle.std.proofs.Common.{Some, None, ap, sym, refl, subst, ◌∙◌, arith, append-nil, append_assoc}
use Rattle.std.proofs.lemmas.Bool.{cases_lt, cases_eq}
use Rattle.kmip_ttlv_types.specs.{declared.typ.TtlvType.TtlvType, declared.typ.TtlvType.TheVariants.Structure, ItemTypes.fixed_length, Leaves.is_valid}
use Rattle.kmip_ttlv_types.specs.Places.{tag_at, length_at, size}
use Rattle.kmip_ttlv_items.specs.{declared.found.FoundItem.FoundItem, declared.found.Fault.Fault, declared.found.FaultKind.FaultKind, FoundItems.item}
use Rattle.kmip_ttlv_items.specs.declared.found.FaultKind.TheVariants.{Cut, NoStructure, UnknownType, PartialHeader, WrongLength, Overlong, InvalidValue}
use Rattle.kmip_ttlv_items.specs.declared.found.FaultKind.TheVariants.{Surplus}
use Rattle.kmip_ttlv_items.specs.ItemWalks.{type_at, content_at, own_size, has_length, HasType, IsWhole, Misfits, RootMisfits, WalksTo, enters_root, enters}
use Rattle.kmip_ttlv_items.specs.ItemWalks.{passes, leaves, Meets, at_first, on_the_way, Ended, Ends}
use Rattle.kmip_ttlv_items.proofs.Spans.{size_least, own_least, own_leaf}
use Rattle.kmip_ttlv_items.proofs.Walks.{walked, ended_whole, ended_at_root, ended_inside, ended_behind}

-- a type is Structure, or it isn't
node_or_leaf : (t : TtlvType) → (t ≡ Structure) ⊎ (t ≢ Structure)
node_or_leaf Structure = inl refl
node_or_leaf _ = inr (λ e. cc)

-- an item is whole, or something is wrong with it
abbrev Judged : List ℕ → ℕ → ℕ → ℕ → Type 0
Judged w p e depth = ((i : FoundItem) × IsWhole w p e depth i) ⊎ ((kind : FaultKind) × Misfits w p e kind)

module _ (w : List ℕ) (p e depth : ℕ) where
  whole_item : (t : TtlvType) → type_at w p ≡ Some t → p + size t (length_at w p) ≤ e → p + own_size t (length_at w p) ≤ length w
      → (t ≢ Structure → is_valid t (content_at w p) ≡ true) → Judged w p e depth
  whole_item t is fits there valid =
      let i = item p depth (tag_at w p) t (length_at w p) in
      let whole : IsWhole w p e depth i =
      record { offset = refl; deep = refl; tag = refl; typ = is; len = refl; fits = fits; there = there; valid = valid } in
      inl (i, whole)

  judged_content : (t : TtlvType) → HasType w p e t → has_length (fixed_length t) (length_at w p) ≡ true → p + size t (length_at w p) ≤ e
      → p + own_size t (length_at w p) ≤ length w → t ≢ Structure → (b : Bool) → is_valid t (content_at w p) ≡ b → Judged w p e depth
  judged_content t has long fits there leaf true valid = whole_item t has.typ fits there (λ _. valid)
  judged_content t has long fits there leaf false valid = inr (InvalidValue, (t, has, long, fits, there, leaf, valid))

  judged_there : (t : TtlvType) → HasType w p e t → has_length (fixed_length t) (length_at w p) ≡ true → p + size t (length_at w p) ≤ e → Judged w p e depth
  judged_there t has long fits = elim (cases_lt (length w) (p + own_size t (length_at w p))) [
    | inl cut ↦ inr (Cut, inr (record { typ = t; has = has; long = long; fits = fits; cut = cut }))
    | inr there ↦ elim (node_or_leaf t) [
      | inl node ↦ whole_item t has.typ fits there (λ leaf. absurd (leaf node))
      | inr leaf ↦ judged_content t has long fits there leaf (is_valid t (content_at w p)) refl
    ]
  ]

  judged_length : (t : TtlvType) → HasType w p e t → (b : Bool) → has_length (fixed_length t) (length_at w p) ≡ b → Judged w p e depth
  judged_length t has false wrong = inr (WrongLength, (t, has, wrong))
  judged_length t has true long =
      elim (cases_lt e (p + size t (length_at w p))) [ inl past ↦ inr (Overlong, (t, has, long, past)) | inr fits ↦ judged_there t has long fits ]

  judged_type : p + 8 ≤ e → p + 8 ≤ length w → (t : Option TtlvType) → type_at w p ≡ t → Judged w p e depth
  judged_type there read None none = inr (UnknownType, (there, read, none))
  judged_type there read (Some t) is = judged_length t (record { there = there; read = read; typ = is }) (has_length (fixed_length t) (length_at w p)) refl

  judged : Judged w p e depth
  judged = elim (cases_lt e (p + 8)) [
    | inl short ↦ inr (PartialHeader, short)
    | inr there ↦ elim (cases_lt (length w) (p + 8)) [ inl cut ↦ inr (Cut, inl (there, cut)) | inr read ↦ judged_type there read (type_at w p) refl ]
  ]

-- a root is whole and a structure, or something is wrong with it
abbrev RootJudged : List ℕ → Type 0
RootJudged w = ((kind : FaultKind) × RootMisfits w kind) ⊎ ((i : FoundItem) × IsWhole w 0 (size i.typ i.length) 0 i × (i.typ ≡ Structure))

module _ (w : List ℕ) where
  root_structure : HasType w 0 (length w) Structure → RootJudged w
  root_structure has =
      let i = item 0 0 (tag_at w 0) Structure (length_at w 0) in
      let valid : Structure ≢ Structure → is_valid Structure (content_at w 0) ≡ true = λ leaf. absurd (leaf refl) in
      let whole : IsWhole w 0 (size Structure (length_at w 0)) 0 i =
      record { offset = refl; deep = refl; tag = refl; typ = has.typ; len = refl; fits = omega arith; there = has.read; valid = valid } in
      inr (i, whole, refl)

  root_type : 8 ≤ length w → (t : Option TtlvType) → type_at w 0 ≡ t → RootJudged w
  root_type there None none = inl (UnknownType, (there, none))
  root_type there (Some t) is = elim (node_or_leaf t) [
    | inl node ↦ root_structure (record { there = there; read = there; typ = is ∙ ap (λ (u : TtlvType). Some u) node })
    | inr leaf ↦ inl (NoStructure, (t, record { there = there; read = there; typ = is }, leaf))
  ]

  root_judged : RootJudged w
  root_judged = elim (cases_lt (length w) 8) [ inl short ↦ inl (Cut, short) | inr there ↦ root_type there (type_at w 0) refl ]

module _ (w : List ℕ) where
  at_end : (xs : List FoundItem) (fault : Option Fault) → Ended w xs fault → Ends w xs
  at_end xs fault h = record { more = []; fault = fault; ended = subst (λ (s : List FoundItem). Ended w s fault) (sym (append-nil xs)) h }

  one_on : (xs : List FoundItem) (i : FoundItem) → Ends w (xs ++ (i ∷ [])) → Ends w xs
  one_on xs i h =
      record { more = i ∷ h.more; fault = h.fault; ended = subst (λ (s : List FoundItem). Ended w s h.fault) (append_assoc xs (i ∷ []) h.more) h.ended }

  -- what decreases: the bytes that are left, and the open structures
  abbrev left : ℕ → List ℕ → ℕ
  left p es = 2 * (length w - p) + length es

  -- if an item is next, and every walk with less left ends, so does this one
  ends_inside : (p e : ℕ) (es : List ℕ) (xs : List FoundItem) → WalksTo w p (e ∷ es) xs → p ≢ e
      → ((q : ℕ) (fs : List ℕ) (ys : List FoundItem) → left q fs < left p (e ∷ es) → WalksTo w q fs ys → Ends w ys) → Ends w xs
  ends_inside p e es xs walks ne further = by (judged w p e (length (e ∷ es)))
    where
      met : (i : FoundItem) → IsWhole w p e (length (e ∷ es)) i → Ends w (xs ++ (i ∷ []))
      met i whole = elim (node_or_leaf i.typ) [
        | inl node ↦ further (p + 8) ((p + size i.typ i.length) ∷ e ∷ es) (xs ++ (i ∷ [])) (omega (arith, whole.there, own_least i.typ i.length))
            (enters p (p + 8) e (p + size i.typ i.length) es xs i walks whole node refl refl)
        | inr leaf ↦ further (p + size i.typ i.length) (e ∷ es) (xs ++ (i ∷ []))
            (omega (arith, whole.there, own_leaf i.typ i.length leaf, size_least i.typ i.length))
            (passes p (p + size i.typ i.length) e es xs i walks whole leaf refl)
      ]

      by : Judged w p e (length (e ∷ es)) → Ends w xs
      by (inr wrong) =
          let lt : p < e = omega (arith, (walked w p (e ∷ es) xs walks).nested.0) in
          at_end xs (Some record { offset = p; kind = wrong.0 }) (ended_inside wrong.0 walks lt wrong.1)
      by (inl whole) = one_on xs whole.0 (met whole.0 whole.1)

  module _ (plain : (k : ℕ) → get_or w k 0 < 256) where
    -- by induction on what is left
    ends_by : (n : ℕ) (p : ℕ) (es : List ℕ) (xs : List FoundItem) → left p es ≤ n → WalksTo w p es xs → Ends w xs
    ends_by n p [] xs few walks = elim (cases_lt p (length w)) [
      | inl lt ↦ at_end xs (Some record { offset = p; kind = Surplus }) (ended_behind walks lt)
      | inr le ↦ at_end xs None (ended_whole w plain p xs walks le)
    ]
    ends_by zero p (e ∷ es) xs few walks = absurd (omega (arith, few))
    ends_by (suc n) p (e ∷ es) xs few walks = elim (cases_eq p e) [
      | inl at ↦ ends_by n p es xs (omega (arith, few)) (leaves p e es xs walks at)
      | inr ne ↦ ends_inside p e es xs walks ne (λ q fs ys less further. ends_by n q fs ys (omega (arith, few, less)) further)
    ]

    -- every walk ends
    pub ends : (p : ℕ) (es : List ℕ) (xs : List FoundItem) → Meets w p es xs → Ends w xs
    ends p es xs (on_the_way walks) = ends_by (left p es) p es xs (omega arith) walks
    ends p es xs (at_first _ _ empty) = subst (Ends w) (sym empty) first
      where
        first : Ends w []
        first = elim (root_judged w) [
          | inl wrong ↦ at_end [] (Some record { offset = 0; kind = wrong.0 }) (ended_at_root w wrong.0 wrong.1)
          | inr root ↦ let e = size root.0.typ root.0.length in
              one_on [] root.0 (ends_by (left 8 (e ∷ [])) 8 (e ∷ []) (root.0 ∷ []) (omega arith) (enters_root 8 e root.0 root.1 root.2 refl refl))
        ]
