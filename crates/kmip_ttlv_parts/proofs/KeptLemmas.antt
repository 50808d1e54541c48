-- Items that are kept: what is read of them is encoded as their bytes, and read of these again.
use Rattle.std.proofs.Common.{◌≡◌, ◌==◌, ◌-◌, ◌<◌, ◌≤◌, ℕ, zero, suc, Bool, true, false, ◌&&◌, List, [], ◌∷◌, length, map, take, drop, Option}
use Rattle.std.proofs.Common.{Some, nat_lt, refl, ap, sym, subst, ◌∙◌, arith}
use Rattle.std.specs.{Cmp.Lexicographic.pointwise, List.list_all, Str.bytes_eq}
use Rattle.std.proofs.lemmas.{Bool.and_parts, Bool.lt-ltb, Bool.ltb-true, List.append-nil, List.take-append-drop, Slice.Eq.bytes_eq-Decides}
use Rattle.kmip_ttlv_types.specs.{Items.Raw, Items.Splits, Places.ItemsAt, Trees.Tree, Trees.bytes_all, Trees.raw_of}
use Rattle.kmip_ttlv_types.proofs.PlaceLemmas.{items_at_splits, splits_items_at}
use Rattle.kmip_ttlv_base.specs.Values.{Values, bytes_value, no_values, seq_value}
use Rattle.kmip_ttlv_ser.specs.{EncodeResults.IsWrittenAs, Sizes.FitsAfter, WrittenItems.items_in, declared.pending.PendingTag.TheVariants.Nothing}
use Rattle.kmip_ttlv_reader.specs.{Outcomes.each_outcome, ReadLaws.AreBytes, Reads.most_levels}
use Rattle.kmip_ttlv_reader.specs.Steps.{Outcome, gives, ends_early, fails}
use Rattle.kmip_ttlv_reader.proofs.{Founding.items_there, Giving.each_given, Giving.in_order}
use Rattle.kmip_ttlv_parts.specs.Agreements.{AreItems, Head}
use Rattle.kmip_ttlv_parts.specs.KeptItems.{first_tag}
use Rattle.kmip_ttlv_parts.specs.Kept.{bytes_of_trees, given_values, is_given, is_kept, items_outcome, kept_values}
use Rattle.kmip_ttlv_parts.proofs.AnyItems.{bytes_left, bytes_right, first_head, items_back}
use Rattle.kmip_ttlv_parts.proofs.{Agreeing.items_are_read, Contents.all_split, Equal.bytes_equal, TagNumbers.is_first, TagNumbers.is_tagged}
use Rattle.kmip_ttlv_parts.proofs.Made.{AllMade, Any, any_texts_in, items_in_made}

-- ---- bytes

-- those of a part of bytes
part_bytes : (b : List ℕ) (p n : ℕ) → AreBytes b → AreBytes (take n (drop p b))
part_bytes b p n all =
    let back : AreBytes (drop p b) = bytes_right (take p b) (drop p b) (subst AreBytes (sym (take-append-drop p b)) all) in
    bytes_left (take n (drop p b)) (drop n (drop p b)) (subst AreBytes (sym (take-append-drop n (drop p b))) back)

all_small : (b : List ℕ) → AreBytes b → list_all (λ n. nat_lt n 256) b ≡ true
all_small [] all = refl
all_small (x ∷ xs) all = rw (lt-ltb x 256 (all 0)) (all_small xs (λ i. all (suc i)))

small_all : (b : List ℕ) → list_all (λ n. nat_lt n 256) b ≡ true → AreBytes b
small_all [] e i = omega arith
small_all (x ∷ xs) e zero = ltb-true x 256 (and_parts (nat_lt x 256) (list_all (λ n. nat_lt n 256) xs) e).0
small_all (x ∷ xs) e (suc i) = small_all xs (and_parts (nat_lt x 256) (list_all (λ n. nat_lt n 256) xs) e).1 i

-- ---- items of a message

-- they are whole, and what is read of them agrees with itself
agree_there : (b : List ℕ) (p e : ℕ) (vs : Values) → AreBytes b → p ≤ e → p ≤ length b → items_outcome b p e ≡ gives vs
    → (xs : List Raw) × ItemsAt b p e xs × AreItems most_levels vs (first_head xs)
agree_there b p e vs bytes le in_bytes is =
    let there = items_there most_levels b p e vs bytes le in_bytes is in
    (there.0, there.1, items_back (take (e - p) (drop p b)) (splits_items_at b p e there.0 in_bytes there.1) (part_bytes b p (e - p) bytes) there.2)

pub items_agree : (b : List ℕ) (p e : ℕ) (vs : Values) → AreBytes b → p ≤ e → p ≤ length b → items_outcome b p e ≡ gives vs
    → (y : Option Head) × AreItems most_levels vs y
items_agree b p e vs bytes le in_bytes is = let there = agree_there b p e vs bytes le in_bytes is in (first_head there.0, there.2)

-- where bytes are items, the first of these has the tag that they begin with
head_there : (b : List ℕ) (xs : List Raw) → ItemsAt b 0 (length b) xs → (u : ℕ) → is_first u (first_tag b) ≡ false → is_tagged u (first_head xs) ≡ false
head_there b [] items u e = refl
head_there [] (x ∷ xs) items u e = let none : ⊥ = omega (arith, items.0.there) in absurd none
head_there (n ∷ b) (x ∷ xs) items u e = rw items.0.tag e

-- and a header of its own
long_there : (b : List ℕ) (xs : List Raw) → ItemsAt b 0 (length b) xs → (length b == 0) ≡ false → 3 ≤ length b
long_there [] xs items some = absurd cc
long_there (n ∷ b) [] items some = omega (arith, items)
long_there (n ∷ b) (x ∷ xs) items some = omega (arith, items.0.there)

-- ---- what is written of them

some_trees : (ts us : List Tree) → Some ts ≡ Some us → ts ≡ us
some_trees ts us e = cc

-- is read as the same
pub written_read : (vs : Values) (y : Option Head) (bytes : List ℕ) → AreItems most_levels vs y → IsWrittenAs (seq_value vs) 0 bytes
    → (items_outcome bytes 0 (length bytes) ≡ gives vs) × (bytes_of_trees (items_in vs Nothing) ≡ bytes)
written_read vs y bytes agree w =
    let r = items_are_read agree in
    let same : w.trees ≡ r.trees = some_trees w.trees r.trees (sym w.are ∙ r.are) in
    let fit : FitsAfter 0 r.trees = subst (FitsAfter 0) same w.fit in
    let parts : bytes ≡ bytes_all r.trees = w.bytes_are ∙ ap bytes_all same in
    let made : AllMade Any r.trees = items_in_made Any vs Nothing r.trees (any_texts_in vs) tt r.are in
    let splits : Splits (map raw_of r.trees) bytes = subst (Splits (map raw_of r.trees)) (sym parts) (all_split r.trees made fit.each) in
    let items : ItemsAt bytes 0 (length bytes) (map raw_of r.trees) =
    items_at_splits bytes 0 (length bytes) (map raw_of r.trees) [] bytes (omega arith) (sym (append-nil bytes)) (omega arith) splits in (
      each_given (r.reads fit.each) (suc (length bytes)) bytes 0 (length bytes)
          (omega (arith, in_order bytes 0 (length bytes) (map raw_of r.trees) items)) items,
      ap bytes_of_trees r.are ∙ sym parts,
    )

-- ---- kept bytes

all_three : (a b c : Bool) → a ≡ true → b ≡ true → c ≡ true → (a && (b && c)) ≡ true
all_three a b c ha hb hc = rw (ha, hb, hc) refl

-- such bytes are kept, with these values
pub made_kept : (bytes : List ℕ) (vs : Values) → items_outcome bytes 0 (length bytes) ≡ gives vs → bytes_of_trees (items_in vs Nothing) ≡ bytes → AreBytes bytes
    → (is_kept bytes ≡ true) × (kept_values bytes ≡ vs)
unfolding is_kept kept_values
made_kept bytes vs read canonical all = (
  all_three _ _ _ (ap is_given read)
      ((bytes_eq-Decides (bytes_of_trees (items_in (given_values (items_outcome bytes 0 (length bytes))) Nothing)) bytes).1
      (ap (λ o. bytes_of_trees (items_in (given_values o) Nothing)) read ∙ canonical))
      (all_small bytes all),
  ap given_values read,
)

pub given_is : (o : Outcome Values) → is_given o ≡ true → o ≡ gives (given_values o)
given_is (gives vs) e = refl
given_is ends_early e = absurd cc
given_is (fails x) e = absurd cc

-- kept bytes: what they are read as, their canonical bytes, and that they are bytes
record IsKept (b : List ℕ) : Type 0 where
  read : items_outcome b 0 (length b) ≡ gives (kept_values b)
  canonical : bytes_of_trees (items_in (kept_values b) Nothing) ≡ b
  all : AreBytes b

kept_is : (b : List ℕ) → is_kept b ≡ true → IsKept b
unfolding is_kept kept_values
kept_is b kept =
    let o = items_outcome b 0 (length b) in
    let same = bytes_eq (bytes_of_trees (items_in (given_values o) Nothing)) b in
    let first = and_parts (is_given o) (same && list_all (λ n. nat_lt n 256) b) kept in
    let second = and_parts same (list_all (λ n. nat_lt n 256) b) first.1 in
    record {
      read = given_is o first.0;
      canonical = (bytes_eq-Decides (bytes_of_trees (items_in (given_values o) Nothing)) b).0 second.0;
      all = small_all b second.1;
    }

pub kept_read : (b : List ℕ) → is_kept b ≡ true → items_outcome b 0 (length b) ≡ gives (kept_values b)
kept_read b kept = (kept_is b kept).read

-- the items that they are, which agree with themselves
kept_there : (b : List ℕ) → is_kept b ≡ true → (xs : List Raw) × ItemsAt b 0 (length b) xs × AreItems most_levels (kept_values b) (first_head xs)
kept_there b kept = let k = kept_is b kept in agree_there b 0 (length b) (kept_values b) k.all (omega arith) (omega arith) k.read

-- they agree with themselves, and the first has the tag that they begin with
pub kept_agree : (b : List ℕ) → is_kept b ≡ true
    → (y : Option Head) × AreItems most_levels (kept_values b) y × ((u : ℕ) → is_first u (first_tag b) ≡ false → is_tagged u y ≡ false)
kept_agree b kept = let there = kept_there b kept in (first_head there.0, there.2, head_there b there.0 there.1)

-- where there are any bytes, there are those of a tag
pub kept_long : (b : List ℕ) → is_kept b ≡ true → (length b == 0) ≡ false → 3 ≤ length b
kept_long b kept some = let there = kept_there b kept in long_there b there.0 there.1 some

-- no bytes are no items
pub empty_is_kept : is_kept [] ≡ true
unfolding is_kept kept_values each_outcome
empty_is_kept = refl

pub empty_values : kept_values [] ≡ no_values
unfolding kept_values each_outcome
empty_values = refl

-- equal values are those of equal bytes
pub kept_same : (a b : List ℕ) → is_kept a ≡ true → is_kept b ≡ true → kept_values a ≡ kept_values b → a ≡ b
kept_same a b ka kb e = sym (kept_is a ka).canonical ∙ ap (λ vs. bytes_of_trees (items_in vs Nothing)) e ∙ (kept_is b kb).canonical

-- equal bytes are so by `==`
pub equal_bytes : {a b : List ℕ} → a ≡ b → pointwise (λ x y. x == y) a b ≡ true
equal_bytes {a} {b} e = bytes_equal a b (ap bytes_value e)
