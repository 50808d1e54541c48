-- What JSON is read as is a whole message.
use Rattle.std.proofs.Common.{◌≡◌, ℕ, ◌/◌, ◌%◌, ◌<◌, ◌^◌, ◌==◌, Bool, true, false, List, [], ◌∷◌, length, if◌then◌else◌, Option, Some, None, option_map}
use Rattle.std.proofs.Common.{option_and_then, Result, Ok, Err, refl, ap, sym, subst, arith}
use Rattle.std.specs.{Option.ok_or, Result.result_ok, Int.w32, Int.from_be_bytes}
use Rattle.std.proofs.lemmas.Bool.{eqb-true}
use Rattle.hex.specs.declared.error.FromHexError.{FromHexError, TheVariants.OddLength, TheVariants.InvalidStringLength}
use Rattle.hex.specs.Hex.{decode_pairs, decode_sized, IsBytes}
use Rattle.hex.proofs.HexLemmas.{decode_pairs-ok}
use Rattle.serde_json.specs.Data.{Data, array, object, Items, no_items, item, no_members, member}
use Rattle.serde_json.specs.Find.{as_str}
use Rattle.kmip_ttlv_types.specs.{declared.typ.TtlvType.TtlvType, Leaves.is_valid, declared.typ.TtlvType.TheVariants.Structure}
use Rattle.kmip_ttlv_types.specs.Trees.{Tree, Trees, leaf, node, no_trees, tree, bytes, IsTreeText, Fits, FitsBelow}
use Rattle.kmip_ttlv_items.proofs.Spans.{leaf_not}
use Rattle.kmip_words.proofs.Back.{word_small}
use Rattle.kmip_ttlv_write.proofs.Opens.{AllTexts, leaf_text, node_text}
use Rattle.kmip_ttlv_json.specs.declared.failure.BadMember.{BadMember, TheVariants.Members as BadMembers, TheVariants.Value}
use Rattle.kmip_ttlv_json.specs.JsonTrees.{behind_0x, tag_or_word, tag_of_text, tag_in, type_in, content_in}
use Rattle.kmip_ttlv_json.specs.JsonTrees.{valid_in, leaf_in, node_of, typed_in, tagged_in, both}
use Rattle.kmip_ttlv_json.specs.JsonTrees.{are_named, are_two_named, tree_of, below_of, trees_of}

-- ---- tags

-- what a choice that succeeded was made of
chosen : (odd sized : Bool) (r : Result (List ℕ) FromHexError) (s : List ℕ) → (if odd then Err OddLength else if sized then r else Err InvalidStringLength)
    ≡ Ok s → (sized ≡ true) × (r ≡ Ok s)
chosen false true r s h = (refl, h)
chosen odd sized r s h = absurd (cc)

three_small : (s : List ℕ) → length s ≡ 3 → IsBytes s → from_be_bytes w32 (0 ∷ s) < 2 ^ 24
three_small (a ∷ b ∷ c ∷ []) len small = omega (arith, small 0, small 1, small 2)
three_small s len small = absurd (omega (arith, len))

abbrev number_in : Option ℕ → ℕ
number_in None = 0
number_in (Some n) = n

sized_small : (digits : List ℕ) (r : Result (List ℕ) FromHexError) (n : ℕ) → decode_sized digits 3 ≡ r
    → option_map (λ s. from_be_bytes w32 (0 ∷ s)) (result_ok r) ≡ Some n → n < 2 ^ 24
sized_small digits (Err e) n is h = absurd (cc)
sized_small digits (Ok s) n is h =
    let k = chosen (length digits % 2 == 1) (length digits / 2 == 3) (decode_pairs 0 digits) s is in
    let all = decode_pairs-ok 0 digits s k.1 in
    subst (λ m. m < 2 ^ 24) (ap number_in h) (three_small s (omega (arith, eqb-true (length digits / 2) 3 k.0, all.1)) all.2)

pub text_small : (s : List ℕ) (o : Option (List ℕ)) (n : ℕ) → tag_or_word s o ≡ Some n → n < 2 ^ 24
text_small s None n h = word_small s n h
text_small s (Some digits) n h = sized_small digits (decode_sized digits 3) n refl h

some_small : (o : Option (List ℕ)) (n : ℕ) → tag_of_text o ≡ Some n → n < 2 ^ 24
some_small None n h = absurd (cc)
some_small (Some s) n h = text_small s (behind_0x s) n h

tag_small : (d : Data) (n : ℕ) → tag_in d ≡ Some n → n < 2 ^ 24
tag_small d n h = some_small (as_str d) n h

-- ---- leaves

abbrev tree_in : Result Tree BadMember → Tree
tree_in (Ok t) = t
tree_in (Err bad) = leaf 0 Structure []

module _ (tag : ℕ) (typ : TtlvType) (small : tag < 2 ^ 24) where
  valid_sound : (content : List ℕ) (good : Bool) (t : Tree) → is_valid typ content ≡ good
      → ok_or (option_map (leaf tag typ) (if good then Some content else None)) Value ≡ Ok t → Fits t → IsTreeText t (bytes t)
  valid_sound content false t is h fits = absurd (cc)
  valid_sound content true t is h fits =
      let e : leaf tag typ content ≡ t = ap tree_in h in
      subst (λ u. IsTreeText u (bytes u)) e (leaf_text tag typ content small (leaf_not typ content is) (subst Fits (sym e) fits) is)

  content_sound : (o : Option (List ℕ)) (t : Tree) → ok_or (option_map (leaf tag typ) (option_and_then (valid_in typ) o)) Value ≡ Ok t → Fits t
      → IsTreeText t (bytes t)
  content_sound None t h fits = absurd (cc)
  content_sound (Some content) t h fits = valid_sound content (is_valid typ content) t refl h fits

  leaf_sound : (v : Data) (t : Tree) → leaf_in tag typ v ≡ Ok t → Fits t → IsTreeText t (bytes t)
  leaf_sound v t h fits = content_sound (content_in tag typ v) t h fits

-- ---- structures

-- trees have encodings, if they fit
abbrev AreSound : Result Trees BadMember → Type 0
AreSound r = (ts : Trees) → r ≡ Ok ts → FitsBelow ts → AllTexts ts

node_sound : (tag : ℕ) (r : Result Trees BadMember) (t : Tree) → tag < 2 ^ 24 → AreSound r → node_of tag r ≡ Ok t → Fits t → IsTreeText t (bytes t)
node_sound tag (Err bad) t small below h fits = absurd (cc)
node_sound tag (Ok ts) t small below h fits =
    let e : node tag ts ≡ t = ap tree_in h in
    let all : Fits (node tag ts) = subst Fits (sym e) fits in
    subst (λ u. IsTreeText u (bytes u)) e (node_text tag ts small all.0 (below ts refl all.1))

typed_sound : (tag : ℕ) (o : Option TtlvType) (v : Data) (r : Result Trees BadMember) (t : Tree) → tag < 2 ^ 24 → AreSound r → typed_in tag o v r ≡ Ok t
    → Fits t → IsTreeText t (bytes t)
typed_sound tag None v r t small below h fits = absurd (cc)
typed_sound tag (Some Structure) v r t small below h fits = node_sound tag r t small below h fits
typed_sound tag (Some typ) v r t small below h fits = leaf_sound tag typ small v t h fits

tagged_sound : (d : Data) (o : Option ℕ) (typ : Option TtlvType) (v : Data) (r : Result Trees BadMember) (t : Tree) → tag_in d ≡ o → AreSound r
    → tagged_in o typ v r ≡ Ok t → Fits t → IsTreeText t (bytes t)
tagged_sound d None typ v r t is below h fits = absurd (cc)
tagged_sound d (Some tag) typ v r t is below h fits = typed_sound tag typ v r t (tag_small d tag is) below h fits

named_sound : (named : Bool) (tag : Data) (typ : Option TtlvType) (v : Data) (r : Result Trees BadMember) (t : Tree) → AreSound r
    → (if named then tagged_in (tag_in tag) typ v r else Err BadMembers) ≡ Ok t → Fits t → IsTreeText t (bytes t)
named_sound false tag typ v r t below h fits = absurd (cc)
named_sound true tag typ v r t below h fits = tagged_sound tag (tag_in tag) typ v r t refl below h fits

-- a tree and others
record Both (one : Result Tree BadMember) (more : Result Trees BadMember) (ts : Trees) : Type 0 where
  t : Tree
  rest : Trees
  first : one ≡ Ok t
  others : more ≡ Ok rest
  is : tree t rest ≡ ts

abbrev trees_in : Result Trees BadMember → Trees
trees_in (Ok ts) = ts
trees_in (Err bad) = no_trees

both_ok : (one : Result Tree BadMember) (more : Result Trees BadMember) (ts : Trees) → both one more ≡ Ok ts → Both one more ts
both_ok (Ok t) (Ok rest) ts h = record { t = t; rest = rest; first = refl; others = refl; is = ap trees_in h }
both_ok one more ts h = absurd (cc)

mutual
  pub sound : (d : Data) (t : Tree) → tree_of d ≡ Ok t → Fits t → IsTreeText t (bytes t)
  sound (object (member a tag (member b typ (member c v no_members)))) t h fits =
      named_sound (are_named a b c) tag (type_in typ) v (below_of v) t (below_sound v) h fits
  sound (object (member a tag (member c v no_members))) t h fits = named_sound (are_two_named a c) tag (Some Structure) v (below_of v) t (below_sound v) h fits
  sound d t h fits = absurd (cc)

  below_sound : (d : Data) → AreSound (below_of d)
  below_sound (array ds) ts h fits = all_sound ds ts h fits
  below_sound d ts h fits = absurd (cc)

  all_sound : (ds : Items) → AreSound (trees_of ds)
  all_sound no_items ts h fits = subst AllTexts (ap trees_in h) tt
  all_sound (item d ds) ts h fits =
      let k = both_ok (tree_of d) (trees_of ds) ts h in
      let all = subst FitsBelow (sym k.is) fits in
      subst AllTexts k.is (sound d k.t k.first all.0, all_sound ds k.rest k.others all.1)
