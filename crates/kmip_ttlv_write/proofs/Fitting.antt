-- Items that fit, one after the other.
use Rattle.std.proofs.Common.{◌≡◌, ◌≢◌, inl, inr, ℕ, ◌≤◌, true, false, List, [], ◌∷◌, ◌++◌, take, Some, None, refl, ap, sym, subst, ◌∙◌, arith}
use Rattle.std.proofs.lemmas.List.{take-append-drop}
use Rattle.kmip_ttlv_types.specs.{declared.typ.TtlvType.TtlvType, declared.typ.TtlvType.TheVariants.Structure, ItemTypes.type_of, ItemTypes.fixed_length}
use Rattle.kmip_ttlv_items.specs.ItemWalks.{has_length}
use Rattle.kmip_ttlv_items.proofs.Spans.{valid_length}
use Rattle.kmip_ttlv_write.specs.declared.{given.GivenItem.GivenItem, given.BadItem.BadItem, given.BadKind.BadKind, judge.Reach.Reach}
use Rattle.kmip_ttlv_write.specs.declared.given.BadKind.TheVariants.{NotInside, LongTag, UnknownType, WrongLength, Outside, InvalidValue, TooLong}
use Rattle.kmip_ttlv_write.specs.GivenItems.{given_content}
use Rattle.kmip_ttlv_write.specs.FlatWrites.{start, advanced, typ_of, after, after_all, HasValue, HasRoom, Fits, AllFit, Misfits, IsTooLong, IsFirstBad}
use Rattle.kmip_ttlv_write.proofs.Stands.{content_len}

-- one after others
pub after_append : (r : Reach) (xs ys : List GivenItem) → after_all r (xs ++ ys) ≡ after_all (after_all r xs) ys
after_append r [] ys = refl
after_append r (x ∷ xs) ys = after_append (after r x) xs ys

pub fit_append : (lent : List ℕ) (r : Reach) (xs ys : List GivenItem) → AllFit lent r xs → AllFit lent (after_all r xs) ys → AllFit lent r (xs ++ ys)
fit_append lent r [] ys h k = k
fit_append lent r (x ∷ xs) ys h k = (h.0, fit_append lent (after r x) xs ys h.1 k)

fit_behind : (lent : List ℕ) (r : Reach) (xs ys : List GivenItem) → AllFit lent r (xs ++ ys) → AllFit lent (after_all r xs) ys
fit_behind lent r [] ys h = h
fit_behind lent r (x ∷ xs) ys h = fit_behind lent (after r x) xs ys h.1

-- each open structure took eight bytes
few_by : (r : Reach) (typ : TtlvType) (i : GivenItem) → i.depth ≤ r.depth → r.depth ≤ r.size → (advanced r typ i).depth ≤ (advanced r typ i).size
few_by r Structure i le few = omega arith
few_by r typ i le few = omega arith

pub few_more : (lent : List ℕ) (r : Reach) (i : GivenItem) → Fits lent r i → r.depth ≤ r.size → (after r i).depth ≤ (after r i).size
few_more lent r i f few = few_by r (typ_of i) i f.depth few

-- further items only add bytes
pub size_grows : (r : Reach) (xs : List GivenItem) → r.size ≤ (after_all r xs).size
size_grows r [] = omega arith
size_grows r (x ∷ xs) = omega (arith, size_grows (after r x) xs)

-- an item that has room is not too long
no_room : (r : Reach) (typ : TtlvType) (i : GivenItem) → HasRoom r typ i → IsTooLong r typ i TooLong → ⊥
no_room r typ i room (inl long) = omega (arith, room.content, long)
no_room r typ i room (inr long) = omega (arith, room.total, long)

pub same_type : (n : ℕ) (a b : TtlvType) → type_of n ≡ Some a → type_of n ≡ Some b → a ≡ b
same_type n a b e f = let k : Some a ≡ Some b = sym e ∙ f in cc

value_of : (lent : List ℕ) (r : Reach) (i : GivenItem) → (f : Fits lent r i) → (typ : TtlvType) → type_of i.typ ≡ Some typ → typ ≢ Structure
    → HasValue lent typ i
value_of lent r i f typ e ne =
    let k : f.typ ≡ typ = same_type i.typ f.typ typ f.typed e in
    subst (λ (t : TtlvType). HasValue lent t i) k (f.value (λ is. ne (sym k ∙ is)))

room_of : (lent : List ℕ) (r : Reach) (i : GivenItem) → (f : Fits lent r i) → (typ : TtlvType) → type_of i.typ ≡ Some typ → HasRoom r typ i
room_of lent r i f typ e = subst (λ (t : TtlvType). HasRoom r t i) (same_type i.typ f.typ typ f.typed e) f.room

right_length : (lent : List ℕ) (typ : TtlvType) (i : GivenItem) → HasValue lent typ i → has_length (fixed_length typ) i.length ≡ true
right_length lent typ i v = ap (has_length (fixed_length typ)) (sym (content_len lent i v.inside)) ∙ valid_length typ (given_content lent i) v.valid

not_both : (lent : List ℕ) (r : Reach) (i : GivenItem) (kind : BadKind) → Fits lent r i → Misfits lent r i kind → ⊥
not_both lent r i NotInside f m = omega (arith, f.depth, m)
not_both lent r i LongTag f m = omega (arith, f.tag, m.1)
not_both lent r i UnknownType f m = let k : Some f.typ ≡ None = sym f.typed ∙ m.2 in absurd cc
not_both lent r i WrongLength f m = let v = value_of lent r i f m.0 m.1.typed m.2 in let k : true ≡ false = sym (right_length lent m.0 i v) ∙ m.3 in absurd cc
not_both lent r i Outside f m = let v = value_of lent r i f m.0 m.1.typed m.2 in omega (arith, v.inside, m.3.1)
not_both lent r i InvalidValue f m = let v = value_of lent r i f m.0 m.1.typed m.2 in let k : true ≡ false = sym v.valid ∙ m.3.2 in absurd cc
not_both lent r i TooLong f m = no_room r m.0 i (room_of lent r i f m.0 m.1.typed) m.3

-- if there is a first bad item, not all fit
pub not_all : (lent : List ℕ) (xs : List GivenItem) (bad : BadItem) → IsFirstBad xs lent bad → AllFit lent start xs → ⊥
not_all lent xs bad b h =
    let parts : xs ≡ take bad.index xs ++ (b.item ∷ b.rest) = sym (take-append-drop bad.index xs)
    ∙ ap (λ (s : List GivenItem). take bad.index xs ++ s) b.there in
    let k = fit_behind lent start (take bad.index xs) (b.item ∷ b.rest) (subst (AllFit lent start) parts h) in
    not_both lent (after_all start (take bad.index xs)) b.item bad.kind k.0 b.wrong
