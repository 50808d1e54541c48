-- Items that are written one after the other.
use Rattle.std.proofs.Common.{◌≡◌, ◌≢◌, ℕ, ◌+◌, ◌-◌, ◌<◌, ◌≤◌, List, [], ◌∷◌, ◌++◌, length, map, get_or, take, drop, replicate, ap, sym, subst, ◌∙◌, arith}
use Rattle.std.proofs.Common.{append_assoc}
use Rattle.std.proofs.lemmas.List.{take_all, drop_all, length-map, get_or-map, drop_more, take_more}
use Rattle.kmip_ttlv_types.specs.{declared.typ.TtlvType.TtlvType, declared.typ.TtlvType.TheVariants.Structure, ItemTypes.pad_len, Items.header, Places.size}
use Rattle.kmip_ttlv_types.specs.{Trees.leaf_bytes, Trees.no_trees}
use Rattle.kmip_ttlv_write.specs.declared.{given.GivenItem.GivenItem, judge.Reach.Reach, emit.Place.Place}
use Rattle.kmip_ttlv_write.specs.GivenItems.{IsWritten, given_content}
use Rattle.kmip_ttlv_write.specs.FlatWrites.{taken, typ_of, start, after, after_all, HasValue, AllFit}
use Rattle.kmip_ttlv_write.specs.OpenStructures.{Opened, outside, depth_of, spine, leave, entered, Small, Holds, CanPut, CanTake}
use Rattle.kmip_ttlv_write.proofs.Opens.{closes_by, leaf_len, padding_is}
use Rattle.kmip_ttlv_write.proofs.Stands.{Stand, stand_first, stand_step, stand_written, small, typ_is, content_len}
use Rattle.kmip_ttlv_write.proofs.Holding.{place, holds_length, holds_none}
use Rattle.kmip_ttlv_write.proofs.Fitting.{size_grows}

-- items up to an index are written, and there is room for the others
pub record Standing (lent : List ℕ) (xs : List GivenItem) (k : ℕ) (b : List ℕ) (p : Place) : Type 0 where
  pub opened : Opened
  pub reach : Reach
  pub stand : Stand lent (take k xs) opened reach
  pub holds : Holds opened b p
  pub fit : AllFit lent reach (drop k xs)
  pub room : (after_all reach (drop k xs)).size ≡ length b

pub standing_first : (lent : List ℕ) (xs : List GivenItem) (b : List ℕ) → AllFit lent start xs → (after_all start xs).size ≡ length b
    → Standing lent xs 0 b (place 0 0 0)
standing_first lent xs b fit room = record { opened = outside no_trees; reach = start; stand = stand_first lent; holds = holds_none b; fit = fit; room = room }

module _ {lent : List ℕ} {xs : List GivenItem} {k : ℕ} {b : List ℕ} {p : Place} (s : Standing lent xs k b p) {x : GivenItem}
    (at : drop k xs ≡ x ∷ drop (k + 1) xs) where
  fits : AllFit lent s.reach (x ∷ drop (k + 1) xs)
  fits = subst (AllFit lent s.reach) at s.fit

  sized : (after_all (after s.reach x) (drop (k + 1) xs)).size ≡ length b
  sized = ap (λ (ys : List GivenItem). (after_all s.reach ys).size) (sym at) ∙ s.room

  -- the next item can be written
  pub can_put : CanPut lent x b p
  can_put =
      let f = fits.0 in
      let t : (after s.reach x).size ≡ s.reach.size + taken f.typ x.length = ap (λ (u : TtlvType). s.reach.size + taken u x.length) (typ_is x f.typ f.typed) in
      record {
        opened = s.opened;
        holds = s.holds;
        typ = f.typ;
        typed = f.typed;
        value = f.value;
        small = small s.stand f;
        room = omega (arith, holds_length s.holds, s.stand.size, t, size_grows (after s.reach x) (drop (k + 1) xs), sized);
      }

  pub small_put : Small (taken (typ_of x) x.length) (leave x.depth s.opened)
  small_put = subst (λ (u : TtlvType). Small (taken u x.length) (leave x.depth s.opened)) (sym (typ_is x fits.0.typ fits.0.typed))
      (small s.stand fits.0)

  -- and was written
  pub standing_more : {c : List ℕ} {q : Place} → length c ≡ length b → take (k + 1) xs ≡ take k xs ++ x ∷ [] → Holds (entered lent x s.opened) c q
      → Standing lent xs (k + 1) c q
  standing_more len more emitted = record {
    opened = entered lent x s.opened;
    reach = after s.reach x;
    stand = subst (λ (ys : List GivenItem). Stand lent ys (entered lent x s.opened) (after s.reach x)) (sym more) (stand_step s.stand fits.0);
    holds = emitted;
    fit = fits.1;
    room = sized ∙ sym len;
  }

-- all are written
pub standing_all : {lent : List ℕ} (xs : List GivenItem) (k : ℕ) {b c : List ℕ} {p q : Place} → length xs ≤ k → length c ≡ length b
    → (s : Standing lent xs k b p) → Holds (leave 0 s.opened) c q → IsWritten xs lent c
standing_all {lent} xs k {b} {c} {q = q} le len s emitted =
    let o = s.opened in
    let size : s.reach.size ≡ length b = ap (λ (ys : List GivenItem). (after_all s.reach ys).size) (sym (drop_all k xs le)) ∙ s.room in
    let n : q.at ≡ length c = omega (arith, holds_length emitted, (closes_by (depth_of o - 0) o).long, s.stand.size, size, len) in
    let text : spine (leave 0 o) ≡ c = sym emitted.front ∙ take_all q.at c (omega (arith, n)) in
    subst (λ (ys : List GivenItem). IsWritten ys lent c) (take_all k xs le) (subst (IsWritten (take k xs) lent) text (stand_written s.stand))

-- an item of a list, in its form
module _ {T : Type 0} (f : T → GivenItem) (ts : List T) (k : ℕ) {t : T} {x : GivenItem} (lt : k < length ts) (is : t ≡ get_or ts k t) (given : x ≡ f t) where
  long : k < length (map f ts)
  long = omega (arith, length-map ts f)

  here : get_or (map f ts) k x ≡ x
  here = get_or-map f ts k t x lt ∙ ap f (sym is) ∙ sym given

  pub at_item : drop k (map f ts) ≡ x ∷ drop (k + 1) (map f ts)
  at_item = drop_more (map f ts) k x long ∙ ap (λ (y : GivenItem). y ∷ drop (k + 1) (map f ts)) here

  pub more_item : take (k + 1) (map f ts) ≡ take k (map f ts) ++ x ∷ []
  more_item = take_more (map f ts) k x long ∙ ap (λ (y : GivenItem). take k (map f ts) ++ y ∷ []) here

-- a leaf's pieces, one after the other
pub leaf_put : (tag : ℕ) (typ : TtlvType) (content a b c d : List ℕ) (n : ℕ) → b ≡ a ++ header tag typ (length content) → c ≡ b ++ content
    → d ≡ c ++ replicate n 0 → n ≡ pad_len (length content) → d ≡ a ++ leaf_bytes tag typ content
unfolding leaf_bytes
leaf_put tag typ content a b c d n first second third is = rw (third, is, second, first) (simp append_assoc)

pub leaf_size : (lent : List ℕ) (typ : TtlvType) (i : GivenItem) → typ ≢ Structure → HasValue lent typ i
    → size typ i.length ≡ length (leaf_bytes i.tag typ (given_content lent i))
leaf_size lent typ i ne v =
    let n = content_len lent i v.inside in
    omega (arith, leaf_len i.tag typ (given_content lent i), padding_is typ i.length ne, ap pad_len n, n)

-- what follows the structures that ended
pub can_take : {lent : List ℕ} {i : GivenItem} {b c : List ℕ} {p q : Place} {typ : TtlvType} → (h : CanPut lent i b p) → h.typ ≡ typ → length c ≡ length b
    → Holds (leave i.depth h.opened) c q → CanTake (taken typ i.length) c q
can_take {i = i} {c = c} {q = q} h is len emitted = subst (λ (t : TtlvType). CanTake (taken t i.length) c q) is record {
  opened = leave i.depth h.opened;
  holds = emitted;
  small = h.small;
  room = omega (arith, h.room, len, holds_length h.holds, holds_length emitted, (closes_by (depth_of h.opened - i.depth) h.opened).long);
}
