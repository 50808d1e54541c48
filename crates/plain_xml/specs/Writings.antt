-- The text that is written for an element: no white space but one blank in front of each attribute, values in double quotes.
use Rattle.std.specs.Prelude.{◌≡◌, ℕ, ◌==◌, Bool, true, false, List, [], ◌∷◌, ◌++◌, if◌then◌else◌}
use Rattle.std.specs.List.{AllByRecursion}
use Rattle.std.specs.Str.{chars, IsUtf8}
use Rattle.plain_xml.specs.Characters.{is_character}
use Rattle.plain_xml.specs.Elements.{Pair, Tree, Trees, element, no_trees, tree}
use Rattle.plain_xml.specs.Forms.{Spelling, itself, reference, spelled, IsNameText, MayFollow, end_of}

-- how a character of a value is written: &amp; &lt; &quot; &#9; &#10; &#13; or itself
unfoldable pub spelling_of : ℕ → Spelling
spelling_of c =
    if c == 38 then reference (97 ∷ 109 ∷ 112 ∷ []) else
    if c == 60 then reference (108 ∷ 116 ∷ []) else
    if c == 34 then reference (113 ∷ 117 ∷ 111 ∷ 116 ∷ []) else
    if c == 9 then reference (35 ∷ 57 ∷ []) else
    if c == 10 then reference (35 ∷ 49 ∷ 48 ∷ []) else
    if c == 13 then reference (35 ∷ 49 ∷ 51 ∷ []) else itself c

abbrev pub escaped : List ℕ → List ℕ
escaped [] = []
escaped (c ∷ cs) = spelled (spelling_of c) ++ escaped cs

-- an attribute, and attributes
abbrev pub attribute_text : Pair → List ℕ
attribute_text a = 32 ∷ (chars a.0 ++ (61 ∷ (34 ∷ (escaped (chars a.1) ++ 34 ∷ []))))

abbrev pub attributes_text : List Pair → List ℕ
attributes_text [] = []
attributes_text (a ∷ others) = attribute_text a ++ attributes_text others

-- a start tag, which may be the end tag too, and an end tag
abbrev pub opening_text : List ℕ → List Pair → Bool → List ℕ
opening_text name attributes empty = 60 ∷ (chars name ++ (attributes_text attributes ++ end_of empty))

abbrev pub ending_text : List ℕ → List ℕ
ending_text name = 60 ∷ 47 ∷ (chars name ++ 62 ∷ [])

-- an element
abbrev mutual
  pub text_of : Tree → List ℕ
  text_of (element name attributes no_trees) = opening_text name attributes true
  text_of (element name attributes (tree t ts)) = opening_text name attributes false ++ (texts_of (tree t ts) ++ ending_text name)

  pub texts_of : Trees → List ℕ
  texts_of no_trees = []
  texts_of (tree t ts) = text_of t ++ texts_of ts

-- a name, and an attribute that XML can hold
abbrev pub IsWritableName : List ℕ → Type 0
IsWritableName name = IsUtf8 name × IsNameText (chars name)

abbrev pub IsWritableAttribute : Pair → Type 0
IsWritableAttribute a = IsWritableName a.0 × IsUtf8 a.1 × AllByRecursion (λ c. is_character c ≡ true) (chars a.1)

-- an element that XML can hold
abbrev mutual
  pub IsWritable : Tree → Type 0
  IsWritable (element name attributes below) =
      IsWritableName name × AllByRecursion IsWritableAttribute attributes × MayFollow [] attributes × AreWritable below

  pub AreWritable : Trees → Type 0
  AreWritable no_trees = Unit {0}
  AreWritable (tree t ts) = IsWritable t × AreWritable ts
