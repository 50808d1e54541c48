-- The tags of words, one by one.
use Rattle.std.specs.Borrow.{Bor}
use Rattle.std.proofs.Common.{◌≡◌, ◌∙◌, ℕ, ◌+◌, ◌<◌, List, [], ◌∷◌, ◌++◌, length, take, get_or, map, Option, Some, None, ap, ap₂, sym}
use Rattle.std.proofs.lemmas.{Grind.take_at_read, List.map-append}
use Rattle.ttlv_run.specs.Tags.{tag_asked, AreTags, IsNoTag}

module _ (table : List ℕ) (words : List (Bor (List ℕ))) (k : ℕ) (d : Bor (List ℕ)) (lt : k < length words) (tags : List ℕ)
    (are : AreTags table (take k words) tags) where
  abbrev asked : Bor (List ℕ) → Option ℕ
  asked word = tag_asked table word.now

  abbrev some : ℕ → Option ℕ
  some tag = Some tag

  -- one more word is a tag
  pub tags_more : (tag : ℕ) → tag_asked table (get_or words k d).now ≡ Some tag → AreTags table (take (k + 1) words) (tags ++ tag ∷ [])
  tags_more tag is =
      ap (map asked) (take_at_read words k d lt).1
      ∙ map-append asked (take k words) (get_or words k d ∷ [])
      ∙ ap₂ (λ (xs ys : List (Option ℕ)). xs ++ ys) are (ap (λ (o : Option ℕ). o ∷ []) is)
      ∙ sym (map-append some tags (tag ∷ []))

  -- or it is none
  pub first_unknown : tag_asked table (get_or words k d).now ≡ None → IsNoTag table words (get_or words k d)
  first_unknown none = record {
    count = k;
    tags = tags;
    within = lt;
    before = are;
    is = (take_at_read words k d lt).1;
    none = none;
  }
