-- Names of tags that are given by their numbers.
use Rattle.std.specs.Prelude.{ℕ, List, ◌++◌, codes}
use Rattle.kmip_ttlv_types.specs.Digits.{tag_text}

-- the name of the wrapper that puts this tag on the item in it
abbrev pub wrapper_name : ℕ → List ℕ
wrapper_name tag = codes "Transparent:" ++ tag_text tag
