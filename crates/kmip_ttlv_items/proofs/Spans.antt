-- The lengths of encoded trees, and the codes of types.
use Rattle.std.proofs.Common.{◌≡◌, ◌≢◌, ℕ, zero, suc, ◌+◌, ◌<◌, ◌≤◌, Bool, true, false, List, length, Some, None, ap, sym, refl, ◌∙◌, arith, length-append}
use Rattle.std.proofs.Common.{◌==◌, if◌then◌else◌}
use Rattle.std.proofs.lemmas.Bool.{ne_eqb}
use Rattle.kmip_ttlv_types.specs.{declared.typ.TtlvType.TtlvType, Leaves.is_valid, Places.size}
use Rattle.kmip_ttlv_types.specs.declared.typ.TtlvType.TheVariants.{Structure, BigInteger, Boolean, TextString, ByteString}
use Rattle.kmip_ttlv_types.specs.ItemTypes.{code, type_of, fixed_length}
use Rattle.kmip_ttlv_types.specs.Trees.{Tree, Trees, leaf, node, no_trees, tree, IsTreeText, AreTreeTexts}
use Rattle.kmip_ttlv_types.proofs.PlaceLemmas.{raw_with, text_length}
use Rattle.kmip_ttlv_items.specs.{FoundItems.span, FoundItems.span_all, ItemWalks.has_length, ItemWalks.own_size}

mutual
  -- an encoding is as long as its tree's span
  pub text_span : (t : Tree) (text : List ℕ) → IsTreeText t text → length text ≡ span t
  text_span (leaf tag typ content) text h = text_length (raw_with tag typ content) text h.1
  text_span (node tag below) text h = omega (arith, text_length (raw_with tag Structure h.0) text h.1, texts_span below h.0 h.2)

  -- so are those of several trees
  pub texts_span : (ts : Trees) (text : List ℕ) → AreTreeTexts ts text → length text ≡ span_all ts
  texts_span no_trees text h = ap length h
  texts_span (tree t ts) text h = omega (arith, ap length h.2, length-append h.0 h.1, text_span t h.0 h.3, texts_span ts h.1 h.4)

-- a tree takes at least a header
pub span_least : (t : Tree) → 8 ≤ span t
span_least (leaf tag typ content) = omega arith
span_least (node tag below) = omega arith

no_type : (n : ℕ) → 10 < n → type_of n ≡ None
no_type n lt =
    rw (ne_eqb n 1 (omega arith), ne_eqb n 2 (omega arith), ne_eqb n 3 (omega arith), ne_eqb n 4 (omega arith), ne_eqb n 5 (omega arith))
    (rw (ne_eqb n 6 (omega arith), ne_eqb n 7 (omega arith), ne_eqb n 8 (omega arith), ne_eqb n 9 (omega arith), ne_eqb n 10 (omega arith)) refl)

code_same : (t u : TtlvType) → Some t ≡ Some u → code u ≡ code t
code_same t u e = let k : u ≡ t = cc in ap code k

-- the code of a type is the code that it was read from
pub code_is : (n : ℕ) (t : TtlvType) → type_of n ≡ Some t → code t ≡ n
code_is zero t e = absurd cc
code_is (suc (suc (suc (suc (suc (suc (suc (suc (suc (suc (suc n))))))))))) t e =
    let k = no_type (suc (suc (suc (suc (suc (suc (suc (suc (suc (suc (suc n))))))))))) (omega arith) in absurd cc
code_is _ t e = code_same _ t e

-- a valid value has a length that its type allows
pub valid_length : (t : TtlvType) (content : List ℕ) → is_valid t content ≡ true → has_length (fixed_length t) (length content) ≡ true
valid_length Structure content h = refl
valid_length BigInteger content h = refl
valid_length TextString content h = refl
valid_length ByteString content h = refl
valid_length Boolean content h = eight (length content == 8) _ h
  where
    eight : (a b : Bool) → (if a then b else false) ≡ true → a ≡ true
    eight true b h = refl
    eight false b h = absurd cc
valid_length _ content h = h

-- an item takes at least its header
pub size_least : (t : TtlvType) (n : ℕ) → 8 + n ≤ size t n
size_least t n = omega arith

-- so do an item's own bytes, which are no more than its size; of a leaf they are all of it
pub own_least : (t : TtlvType) (n : ℕ) → 8 ≤ own_size t n
own_least Structure n = omega arith
own_least _ n = omega arith

pub own_leaf : (t : TtlvType) (n : ℕ) → t ≢ Structure → own_size t n ≡ size t n
own_leaf Structure n ne = absurd (ne refl)
own_leaf _ n ne = refl

pub own_structure : (t : TtlvType) (n : ℕ) → t ≡ Structure → own_size t n ≡ 8
own_structure t n is = ap (λ (u : TtlvType). own_size u n) is

pub size_structure : (t : TtlvType) (n : ℕ) → t ≡ Structure → size t n ≡ 8 + n
size_structure t n is = ap (λ (u : TtlvType). size u n) is ∙ omega arith

pub own_most : (t : TtlvType) (n : ℕ) → own_size t n ≤ size t n
own_most Structure n = omega arith
own_most _ n = omega arith

-- a type with valid content is not Structure
pub leaf_not : (typ : TtlvType) (content : List ℕ) → is_valid typ content ≡ true → typ ≢ Structure
leaf_not typ content valid h = let k : is_valid Structure content ≡ true = ap (λ (u : TtlvType). is_valid u content) (sym h) ∙ valid in cc
