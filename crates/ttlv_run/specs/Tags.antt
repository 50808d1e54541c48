-- The tags that words ask for, by a table of names.
use Rattle.std.specs.Borrow.{Bor}
use Rattle.std.specs.Prelude.{◌≡◌, ℕ, ◌+◌, ◌<◌, List, [], ◌∷◌, ◌++◌, length, take, map, Option, Some, None}
use Rattle.std.specs.Option.{option_or}
use Rattle.kmip_ttlv_types.specs.Names.{tag_of}
use Rattle.kmip_ttlv_names.specs.NameTables.{tag_named}
use Rattle.ttlv_run.specs.declared.tags.TagError.{TagError}
use Rattle.ttlv_run.specs.declared.tags.TagError.TheVariants.{NoTag, OutOfMemory}
use Rattle.ttlv_run.specs.Spellings.{tag_written}

-- the tag that a word asks for: that of a name in a table, or of its digits, or of a name in another spelling; none where it is no tag
abbrev pub tag_asked : List ℕ → List ℕ → Option ℕ
tag_asked table word = option_or (option_or (tag_named word table) (tag_of word)) (tag_written word table)

-- each word asks for a tag, and these are the tags
abbrev pub AreTags : List ℕ → List (Bor (List ℕ)) → List ℕ → Type 0
AreTags table words tags = map (λ word. tag_asked table word.now) words ≡ map (λ tag. Some tag) tags

-- a word is the first that is no tag
pub record IsNoTag (table : List ℕ) (words : List (Bor (List ℕ))) (word : Bor (List ℕ)) : Type 0 where
  pub count : ℕ
  pub tags : List ℕ
  pub within : count < length words
  pub before : AreTags table (take count words) tags
  pub is : take (count + 1) words ≡ take count words ++ word ∷ []
  pub none : tag_asked table word.now ≡ None

-- why words are not all tags: one is none, or memory ran out
abbrev pub IsWhyNot : List ℕ → List (Bor (List ℕ)) → TagError → Type 0
IsWhyNot table words (NoTag word) = IsNoTag table words word
IsWhyNot table words OutOfMemory = Unit {0}
