-- The JSON of a message, where nothing is hidden, is that of no other one.
use Rattle.std.proofs.Common.{◌≡◌, ◌∙◌, ℕ, List, [], ◌∷◌, Option, Some, None, Result, Ok, Err, sym, ap, arith, append-nil}
use Rattle.std.specs.Prelude.{max}
use Rattle.std.proofs.lemmas.{List.append_cancel_right}
use Rattle.json.specs.{Token.Token, Lex.tokens, Tree.json_tokens}
use Rattle.json.proofs.Printed.Trees.{value-json_tokens}
use Rattle.serde_json.specs.Data.{Data, null}
use Rattle.serde_json.specs.{Read.of_json, Written.outline}
use Rattle.kmip_ttlv_json.specs.Spellings.{data_text}
use Rattle.kmip_ttlv_types.specs.Trees.{Tree}
use Rattle.kmip_ttlv_items.specs.{declared.found.FoundItem.FoundItem, FoundItems.Lists}
use Rattle.kmip_ttlv_json.specs.declared.failure.BadMember.{BadMember}
use Rattle.kmip_ttlv_json.specs.declared.print.Style.{Style}
use Rattle.kmip_ttlv_json.specs.declared.print.Shown.TheVariants.{All}
use Rattle.kmip_ttlv_json.specs.{Jsons.json_line, JsonTrees.tree_of, Laws.no_secrets}
use Rattle.kmip_ttlv_json.proofs.{Found.tree_plain, Returning.tree_returns, TreeTexts.ArePlain}
use Rattle.kmip_ttlv_json.proofs.ReadBack.{Back, tree_back, tokens_are}
use Rattle.json.specs.Json as json
use Rattle.json.specs.Tree as tree

-- ---- one text is that of one value

abbrev value_in : Option (json.Json × List Token) → json.Json
value_in None = json.null
value_in (Some p) = p.0

abbrev data_in : Option Data → Data
data_in None = null
data_in (Some d) = d

text_one : (d e : Data) → Back d → Back e → data_text d ≡ data_text e → d ≡ e
text_one d e p q same =
    let j = outline d in
    let k = outline e in
    let n = max (tree.depth j) (tree.depth k) in
    let both = append-nil (json_tokens j) ∙ sym (tokens_are d p) ∙ ap tokens same ∙ tokens_are e q ∙ sym (append-nil (json_tokens k)) in
    let values = sym (value-json_tokens j n [] (omega arith)) ∙ ap (json.value n) both ∙ value-json_tokens k n [] (omega arith) in
    ap data_in (sym p.same ∙ ap of_json (ap value_in values) ∙ q.same)

-- ---- one value is that of one tree, as it is read as it

abbrev tree_in : Tree → Result Tree BadMember → Tree
tree_in t (Ok u) = u
tree_in t (Err bad) = t

pub determines_all : (style other : Style) (a b : List ℕ) (xs ys : List FoundItem) → ArePlain a → ArePlain b → (h : Lists a xs) (k : Lists b ys)
    → json_line style no_secrets All h.message ≡ json_line other no_secrets All k.message → h.message ≡ k.message
determines_all style other m w xs ys plain also h k e =
    let same = text_one _ _ (tree_back style no_secrets All h.message) (tree_back other no_secrets All k.message) (append_cancel_right _ _ (10 ∷ []) e) in
    ap (tree_in h.message) (sym (tree_returns style 0 h.message m h.text (tree_plain m plain xs h)) ∙ ap tree_of same
    ∙ tree_returns other 0 k.message w k.text (tree_plain w also ys k))
