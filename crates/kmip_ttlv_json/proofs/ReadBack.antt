-- A message's JSON is read back from its text.
use Rattle.std.proofs.Common.{◌≡◌, ◌∙◌, ℕ, suc, ◌^◌, ◌≤◌, ℤ, pos, negsuc, Bool, true, false, List, [], Option, Some, None, if◌then◌else◌, option_map}
use Rattle.std.proofs.Common.{option_and_then, refl, ap, ap₂, sym, arith}
use Rattle.std.proofs.Common.{append-nil}
use Rattle.std.specs.Prelude.{max, codes, unsigned_abs, nat_le}
use Rattle.std.specs.Int.{w32, w64, from_be_bytes, cast_signed}
use Rattle.std.proofs.lemmas.Bool.{leb-true}
use Rattle.json.proofs.Printed.Decimals.{IsNumber-decimal, IsNumber-signed_decimal}
use Rattle.serde_json.proofs.Numbers.{number_of-decimal, number_of-negative}
use Rattle.json.specs.{Token.Token, Lex.tokens}
use Rattle.json.specs.Tree.{json_tokens, HasNumbers, ItemsHaveNumbers}
use Rattle.json.proofs.Printed.{Tokens.tokens-print, Trees.value-json_tokens, Trees.ArePrintable-json_tokens}
use Rattle.serde_json.specs.Data.{Data, null, number, string, array, object, Items, item, no_members, member, put, depth, items_depth}
use Rattle.serde_json.specs.Read.{read, max_depth, of_json, of_items}
use Rattle.serde_json.specs.Written.{outline, items_outline}
use Rattle.kmip_ttlv_json.specs.Spellings.{data_text}
use Rattle.kmip_ttlv_json.proofs.Lexing.{HasNumerals, HaveNumerals, same_tokens}
use Rattle.serde_json.proofs.{OnLiterals.serde_json_on_literals, Texts.print-outline}
use Rattle.kmip_ttlv_types.specs.declared.typ.TtlvType.{TtlvType, TheVariants.Structure, TheVariants.Boolean, TheVariants.Integer, TheVariants.LongInteger}
use Rattle.kmip_ttlv_types.specs.declared.typ.TtlvType.{TheVariants.Interval}
use Rattle.kmip_ttlv_types.specs.Trees.{Tree, Trees, leaf, node, no_trees}
use Rattle.kmip_ttlv_json.specs.declared.print.Shown.{Shown}
use Rattle.kmip_ttlv_json.specs.declared.print.Style.{Style}
use Rattle.kmip_ttlv_json.specs.declared.print.Style.TheVariants.{Digits, Names}
use Rattle.kmip_ttlv_json.specs.Jsons.{type_word, is_hidden, words_for, num_of, exact_num, has_words, number_for, plain_json, worded_json, value_json, tag_text}
use Rattle.kmip_ttlv_json.specs.Jsons.{item_json, within, tree_json, trees_json}
use Rattle.json.specs.Json as json
use Rattle.json.specs.Tree as tree
use Rattle.kmip_ttlv_types.specs.Trees as trees

-- what its text needs to be read back as it
pub record Back (d : Data) : Type 0 where
  pub numbers : HasNumbers (outline d)
  pub shallow : tree.depth (outline d) ≡ depth d
  pub same : of_json (outline d) ≡ Some d
  pub numerals : HasNumerals d

record AllBack (ds : Items) : Type 0 where
  numbers : ItemsHaveNumbers (items_outline ds)
  shallow : tree.items_depth (items_outline ds) ≡ items_depth ds
  same : of_items (items_outline ds) ≡ Some ds
  numerals : HaveNumerals ds

plain_back : (typ : TtlvType) (content : List ℕ) → Back (plain_json typ content)
plain_back Boolean content = record { numbers = tt; shallow = refl; same = refl; numerals = tt }
plain_back typ content = record { numbers = tt; shallow = refl; same = refl; numerals = tt }

-- numbers that are written as such are small
num_back : (z : ℤ) → unsigned_abs z ≤ 2 ^ 52 → Back (number (num_of z))
num_back (pos n) small =
    let is = IsNumber-decimal n (omega (arith, small)) in
    record { numbers = is; shallow = refl; same = ap (option_map number) (number_of-decimal n (omega (arith, small))); numerals = is }
num_back (negsuc n) small =
    let is = IsNumber-signed_decimal (negsuc n) (omega (arith, small)) in
    record { numbers = is; shallow = refl; same = ap (option_map number) (number_of-negative n (omega (arith, small))); numerals = is }

exact_back : (z : ℤ) (typ : TtlvType) (content : List ℕ) → Back (worded_json None (exact_num z) typ content)
exact_back z typ content = by (nat_le (unsigned_abs z) (2 ^ 52)) (leb-true (unsigned_abs z) (2 ^ 52))
  where
    by : (b : Bool) → (b ≡ true → unsigned_abs z ≤ 2 ^ 52) → Back (worded_json None (if b then Some (num_of z) else None) typ content)
    by true small = num_back z (small refl)
    by false small = plain_back typ content

number_back : (style : Style) (tag : ℕ) (typ : TtlvType) (content : List ℕ) → Back (worded_json None (number_for style tag typ content) typ content)
number_back Digits tag typ content = plain_back typ content
number_back Names tag Integer content = by (has_words tag)
  where
    by : (b : Bool) → Back (worded_json None (if b then None else exact_num (cast_signed w32 (from_be_bytes w32 content))) Integer content)
    by true = plain_back Integer content
    by false = exact_back (cast_signed w32 (from_be_bytes w32 content)) Integer content
number_back Names tag LongInteger content = exact_back (cast_signed w64 (from_be_bytes w64 content)) LongInteger content
number_back Names tag Interval content = exact_back (pos (from_be_bytes w32 content)) Interval content
number_back Names tag typ content = plain_back typ content

worded_back : (style : Style) (tag : ℕ) (o : Option (List ℕ)) (typ : TtlvType) (content : List ℕ)
    → Back (worded_json o (number_for style tag typ content) typ content)
worded_back style tag (Some words) typ content = record { numbers = tt; shallow = refl; same = refl; numerals = tt }
worded_back style tag None typ content = number_back style tag typ content

value_back : (style : Style) (shown : Shown) (tag : ℕ) (typ : TtlvType) (content : List ℕ) → Back (value_json style shown tag typ content)
value_back style shown tag typ content = by (is_hidden shown typ)
  where
    by : (b : Bool) → Back (if b then null else worded_json (words_for style tag typ content) (number_for style tag typ content) typ content)
    by true = record { numbers = tt; shallow = refl; same = refl; numerals = tt }
    by false = worded_back style tag (words_for style tag typ content) typ content

-- the members stand in the order of their keys
put_all : (a b v : Data) → put (codes "value") v (put (codes "type") b (put (codes "tag") a no_members)) ≡ member (codes "tag") a
    (member (codes "type") b (member (codes "value") v no_members))
unfolding serde_json_on_literals
put_all a b v = refl

put_two : (a v : Data) → put (codes "value") v (put (codes "tag") a no_members) ≡ member (codes "tag") a (member (codes "value") v no_members)
unfolding serde_json_on_literals
put_two a v = refl

three_back : (a : List ℕ) (b : List ℕ) (v : Data) → Back v
    → Back (object (member (codes "tag") (string a) (member (codes "type") (string b) (member (codes "value") v no_members))))
three_back a b v back = record {
  numbers = (tt, (tt, (back.numbers, tt)));
  shallow = ap (λ (n : ℕ). suc (max 0 (max 0 (max n 0)))) back.shallow;
  same =
      ap (λ o. option_map object (option_and_then (λ d. Some (put (codes "value") d (put (codes "type") (string b)
      (put (codes "tag") (string a) no_members)))) o)) back.same
      ∙ ap (λ ms. Some (object ms)) (put_all (string a) (string b) v);
  numerals = (tt, (tt, (back.numerals, tt)));
}

two_back : (a : List ℕ) (v : Data) → Back v → Back (object (member (codes "tag") (string a) (member (codes "value") v no_members)))
two_back a v back = record {
  numbers = (tt, (back.numbers, tt));
  shallow = ap (λ (n : ℕ). suc (max 0 (max n 0))) back.shallow;
  same =
      ap (λ o. option_map object (option_and_then (λ d. Some (put (codes "value") d (put (codes "tag") (string a) no_members))) o)) back.same
      ∙ ap (λ ms. Some (object ms)) (put_two (string a) v);
  numerals = (tt, (back.numerals, tt));
}

item_back : (style : Style) (tag : ℕ) (typ : TtlvType) (v : Data) → Back v → Back (item_json style tag typ v)
item_back Names tag Structure v back = two_back (tag_text Names tag) v back
item_back Digits tag typ v back = three_back (tag_text Digits tag) (type_word typ) v back
item_back Names tag typ v back = three_back (tag_text Names tag) (type_word typ) v back

mutual
  pub tree_back : (style : Style) (secrets : ℕ → Bool) (shown : Shown) (t : Tree) → Back (tree_json style secrets shown t)
  tree_back style secrets shown (leaf tag typ content) = item_back style tag typ _ (value_back style (within shown (secrets tag)) tag typ content)
  tree_back style secrets shown (node tag below) =
      let all = trees_back style secrets (within shown (secrets tag)) below in
      item_back style tag Structure _ (record {
        numbers = all.numbers;
        shallow = ap suc all.shallow;
        same = ap (option_map array) all.same;
        numerals = all.numerals;
      })

  trees_back : (style : Style) (secrets : ℕ → Bool) (shown : Shown) (ts : Trees) → AllBack (trees_json style secrets shown ts)
  trees_back style secrets shown no_trees = record { numbers = tt; shallow = refl; same = refl; numerals = tt }
  trees_back style secrets shown (trees.tree t ts) =
      let one = tree_back style secrets shown t in
      let more = trees_back style secrets shown ts in
      record {
        numbers = (one.numbers, more.numbers);
        shallow = ap₂ max one.shallow more.shallow;
        same = ap₂ (λ o p. option_and_then (λ d. option_map (item d) p) o) one.same more.same;
        numerals = (one.numerals, more.numerals);
      }

-- the data of a whole text
abbrev whole : Option (json.Json × List Token) → Option Data
whole o = option_and_then of_json (option_and_then (λ p. json.if_last p.0 p.1) o)

pub tokens_are : (d : Data) → Back d → tokens (data_text d) ≡ json_tokens (outline d)
tokens_are d back =
    same_tokens d back.numerals ∙ ap tokens (sym (print-outline d))
    ∙ tokens-print (json_tokens (outline d)) (ArePrintable-json_tokens (outline d) back.numbers)

pub text_back : (d : Data) → Back d → depth d ≤ max_depth → read (data_text d) ≡ Some d
text_back d back le =
    let j = outline d in
    ap whole (ap (json.value max_depth) (tokens_are d back ∙ sym (append-nil (json_tokens j)))
    ∙ value-json_tokens j max_depth [] (omega (arith, back.shallow, le))) ∙ back.same
