-- Given items that are right: what can be wrong with their places.
use Rattle.std.proofs.Common.{◌≡◌, ◌≢◌, ℕ, true, false, List, [], ◌∷◌, drop, Some, None, zero, suc, refl, sym, ap, subst, ◌∙◌, arith}
use Rattle.std.specs.List.{AllByRecursion}
use Rattle.kmip_ttlv_types.specs.declared.typ.TtlvType.{TtlvType}
use Rattle.kmip_ttlv_types.specs.declared.typ.TtlvType.TheVariants.{Structure}
use Rattle.kmip_ttlv_types.specs.ItemTypes.{type_of, fixed_length}
use Rattle.kmip_ttlv_items.specs.ItemWalks.{has_length}
use Rattle.kmip_ttlv_items.proofs.Spans.{valid_length}
use Rattle.kmip_ttlv_write.specs.declared.given.GivenItem.{GivenItem}
use Rattle.kmip_ttlv_write.specs.declared.given.BadItem.{BadItem}
use Rattle.kmip_ttlv_write.specs.declared.given.BadKind.{BadKind}
use Rattle.kmip_ttlv_write.specs.declared.given.BadKind.TheVariants.{NotInside, LongTag, UnknownType, WrongLength, Outside, InvalidValue, TooLong}
use Rattle.kmip_ttlv_write.specs.declared.judge.Reach.{Reach}
use Rattle.kmip_ttlv_write.specs.GivenItems.{given_content}
use Rattle.kmip_ttlv_write.specs.FlatWrites.{HasValue, Misfits, HasNone}
use Rattle.kmip_ttlv_write.proofs.Stands.{content_len}
use Rattle.kmip_ttlv_xml.specs.GivenElements.{IsGood, AreUnwritten, refused_as, refused}

at_of : (lent : List ℕ) (xs : List GivenItem) (n : ℕ) (x : GivenItem) (rest : List GivenItem) → AllByRecursion (IsGood lent) xs → drop n xs ≡ x ∷ rest
    → IsGood lent x
at_of lent [] zero x rest h e = absurd cc
at_of lent [] (suc n) x rest h e = absurd cc
at_of lent (y ∷ ys) zero x rest h e = let same : y ≡ x = cc in subst (IsGood lent) same h.0
at_of lent (y ∷ ys) (suc n) x rest h e = at_of lent ys n x rest h.1 e

value_of : (lent : List ℕ) (x : GivenItem) (typ : TtlvType) → IsGood lent x → type_of x.typ ≡ Some typ → typ ≢ Structure → HasValue lent typ x
value_of lent x typ g e ne =
    let same : g.typ ≡ typ = let both : Some g.typ ≡ Some typ = sym g.typed ∙ e in cc in
    let not : g.typ ≢ Structure = λ is. ne (sym same ∙ is) in
    subst (λ (t : TtlvType). HasValue lent t x) same (g.value not)

has_right_length : (lent : List ℕ) (x : GivenItem) (typ : TtlvType) → HasValue lent typ x → has_length (fixed_length typ) x.length ≡ true
has_right_length lent x typ v = ap (has_length (fixed_length typ)) (sym (content_len lent x v.inside)) ∙ valid_length typ (given_content lent x) v.valid

true_not_false : true ≡ false → ⊥
true_not_false e = cc

never : (lent : List ℕ) (r : Reach) (x : GivenItem) (kind : BadKind) → IsGood lent x → kind ≢ NotInside → kind ≢ TooLong → Misfits lent r x kind → ⊥
never lent r x NotInside g a b m = a refl
never lent r x LongTag g a b m = omega (arith, m.1, g.tag)
never lent r x UnknownType g a b m = let e : Some g.typ ≡ None = sym g.typed ∙ m.2 in cc
never lent r x WrongLength g a b m =
    true_not_false (sym (has_right_length lent x m.0 (value_of lent x m.0 g m.1.typed m.2)) ∙ m.3)
never lent r x Outside g a b m = let v = value_of lent x m.0 g m.1.typed m.2 in omega (arith, v.inside, m.3.1)
never lent r x InvalidValue g a b m = true_not_false (sym (value_of lent x m.0 g m.1.typed m.2).valid ∙ m.3.2)
never lent r x TooLong g a b m = b refl

not_first : (items : List GivenItem) (lent : List ℕ) (bad : BadItem) → AllByRecursion (IsGood lent) items → bad.kind ≢ NotInside → bad.kind ≢ TooLong
    → HasNone items lent bad → ⊥
not_first items lent bad good a b h =
    never lent _ h.first.item bad.kind (at_of lent items bad.index h.first.item h.first.rest good h.first.there) a b h.first.wrong

abbrev bad_of : ℕ → BadKind → BadItem
bad_of index kind = record { index = index; kind = kind }

unwritten_as : (items : List GivenItem) (lent : List ℕ) (kind : BadKind) (index : ℕ) → AllByRecursion (IsGood lent) items
    → HasNone items lent (bad_of index kind)
    → AreUnwritten items lent (refused_as kind index)
unwritten_as items lent NotInside index good h = h
unwritten_as items lent LongTag index good h = absurd (not_first items lent (bad_of index LongTag) good (λ e. cc) (λ e. cc) h)
unwritten_as items lent UnknownType index good h = absurd (not_first items lent (bad_of index UnknownType) good (λ e. cc) (λ e. cc) h)
unwritten_as items lent WrongLength index good h = absurd (not_first items lent (bad_of index WrongLength) good (λ e. cc) (λ e. cc) h)
unwritten_as items lent Outside index good h = absurd (not_first items lent (bad_of index Outside) good (λ e. cc) (λ e. cc) h)
unwritten_as items lent InvalidValue index good h = absurd (not_first items lent (bad_of index InvalidValue) good (λ e. cc) (λ e. cc) h)
unwritten_as items lent TooLong index good h = h

pub unwritten : (items : List GivenItem) (lent : List ℕ) (bad : BadItem) → AllByRecursion (IsGood lent) items → HasNone items lent bad
    → AreUnwritten items lent (refused bad)
unwritten items lent bad good h = unwritten_as items lent bad.kind bad.index good h
