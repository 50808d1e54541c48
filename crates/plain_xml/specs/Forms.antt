-- The grammar: which texts are well-formed forms of an element (XML 1.0, 2.1). A text is a list of characters.
use Rattle.std.specs.Prelude.{◌≡◌, ◌⊎◌, ℕ, ◌==◌, ◌&&◌, ◌||◌, nat_le, Bool, true, false, not, List, [], ◌∷◌, ◌++◌, length, Some, if◌then◌else◌, encode_utf8, encode_utf8_all}
use Rattle.std.specs.List.{AllByRecursion}
use Rattle.plain_xml.specs.Characters.{is_space, is_character, is_name_start, is_name_part}
use Rattle.plain_xml.specs.Values.{is_other, referenced}
use Rattle.plain_xml.specs.Elements.{Pair, Tree, Trees, element, no_trees, tree, Flat, flat}
use Rattle.plain_xml.specs.Tags.{has_name}

-- white space, or nothing
abbrev pub AreSpaces : List ℕ → Type 0
AreSpaces text = AllByRecursion (λ c. is_space c ≡ true) text

-- a name in characters; in this subset it is ASCII
abbrev pub IsNameText : List ℕ → Type 0
IsNameText [] = ⊥
IsNameText (c ∷ cs) = (is_name_start c ≡ true) × AllByRecursion (λ d. is_name_part d ≡ true) cs

-- a name, in bytes
abbrev pub IsName : List ℕ → List ℕ → Type 0
IsName text name = IsNameText text × (name ≡ encode_utf8_all text)

-- how a character of a value is written: as it is, or as a reference with this between its & and its semicolon
pub data Spelling : Type 0 where
  itself : (c : ℕ) → Spelling
  reference : (name : List ℕ) → Spelling

abbrev pub spelled : Spelling → List ℕ
spelled (itself c) = c ∷ []
spelled (reference name) = 38 ∷ (name ++ 59 ∷ [])

-- a character of a value in the text stands for itself; a tab and a line feed stand for a blank
abbrev pub meant : ℕ → ℕ
meant c = if c == 9 || c == 10 then 32 else c

-- neither &, < nor a carriage return
abbrev pub is_plain : ℕ → Bool
is_plain c = not (c == 38) && not (c == 60 || c == 13)

-- a character of a value between such quotes is written so
abbrev pub IsSpelled : ℕ → Spelling → ℕ → Type 0
IsSpelled quote (itself c) d = ((c == quote) ≡ false) × (is_plain c ≡ true) × (d ≡ meant c)
IsSpelled quote (reference name) d = AllByRecursion (λ c. is_other 59 c ≡ true) name × (referenced name ≡ Some d)

-- characters, each as it is written
abbrev pub AreSpelled : ℕ → List (Spelling × ℕ) → Type 0
AreSpelled quote ps = AllByRecursion (λ p. IsSpelled quote p.0 p.1) ps

abbrev pub text_of_all : List (Spelling × ℕ) → List ℕ
text_of_all [] = []
text_of_all (p ∷ ps) = spelled p.0 ++ text_of_all ps

-- the bytes that they stand for
abbrev pub bytes_of_all : List (Spelling × ℕ) → List ℕ
bytes_of_all [] = []
bytes_of_all (p ∷ ps) = encode_utf8 p.1 ++ bytes_of_all ps

-- a value in quotes of either kind
pub record IsValue (text value : List ℕ) : Type 0 where
  pub quote : ℕ
  pub either : ((quote == 34) || (quote == 39)) ≡ true
  pub all : List (Spelling × ℕ)
  pub are : AreSpelled quote all
  pub text_is : text ≡ quote ∷ (text_of_all all ++ quote ∷ [])
  pub value_is : value ≡ bytes_of_all all

-- an attribute, with the white space in front of it
pub record IsAttribute (text : List ℕ) (a : Pair) : Type 0 where
  pub first : ℕ
  pub gap : List ℕ
  pub name : List ℕ
  pub before : List ℕ
  pub after : List ℕ
  pub value : List ℕ
  pub are : AreSpaces (first ∷ gap) × AreSpaces before × AreSpaces after
  pub named : IsName name a.0
  pub valued : IsValue value a.1
  pub text_is : text ≡ (first ∷ gap) ++ (name ++ (before ++ (61 ∷ (after ++ value))))

-- attributes, one behind the other
abbrev pub AreAttributes : List Pair → List ℕ → Type 0
AreAttributes [] text = text ≡ []
AreAttributes (a ∷ others) text =
    (front : List ℕ) × (rest : List ℕ) × (text ≡ front ++ rest) × IsAttribute front a × AreAttributes others rest

-- each of them may follow these and those before it: there are fewer than 64, and none has its name
abbrev pub MayFollow : List Pair → List Pair → Type 0
MayFollow before [] = Unit {0}
MayFollow before (a ∷ others) =
    (nat_le 64 (length before) ≡ false) × (has_name before a.0 ≡ false) × MayFollow (before ++ a ∷ []) others

-- a start tag behind its <; it may be the end tag too
abbrev pub end_of : Bool → List ℕ
end_of empty = if empty then 47 ∷ 62 ∷ [] else 62 ∷ []

pub record IsOpening (text name : List ℕ) (attributes : List Pair) (empty : Bool) : Type 0 where
  pub name_text : List ℕ
  pub inner : List ℕ
  pub gap : List ℕ
  pub named : IsName name_text name
  pub are : AreAttributes attributes inner
  pub fit : MayFollow [] attributes
  pub spaces : AreSpaces gap
  pub text_is : text ≡ name_text ++ (inner ++ (gap ++ end_of empty))

-- an end tag behind its </
pub record IsEnding (text name : List ℕ) : Type 0 where
  pub name_text : List ℕ
  pub gap : List ℕ
  pub named : IsName name_text name
  pub spaces : AreSpaces gap
  pub text_is : text ≡ name_text ++ (gap ++ 62 ∷ [])

-- two such characters stand nowhere side by side
abbrev pub NotBeside : ℕ → ℕ → List ℕ → Type 0
NotBeside a b [] = Unit {0}
NotBeside a b (c ∷ []) = Unit {0}
NotBeside a b (c ∷ d ∷ cs) = ((c == a && d == b) ≡ false) × NotBeside a b (d ∷ cs)

-- a comment behind its <!--
pub record IsComment (text : List ℕ) : Type 0 where
  pub body : List ℕ
  pub clean : NotBeside 45 45 (body ++ 45 ∷ [])
  pub text_is : text ≡ body ++ 45 ∷ 45 ∷ 62 ∷ []

-- a processing instruction behind its <?; what it says is not looked at
pub record IsInstruction (text : List ℕ) : Type 0 where
  pub body : List ℕ
  pub clean : NotBeside 63 62 (body ++ 63 ∷ [])
  pub text_is : text ≡ body ++ 63 ∷ 62 ∷ []

-- what may stand between tags
pub data IsPassed (text : List ℕ) : Type 0 where
  space : (c : ℕ) → is_space c ≡ true → text ≡ c ∷ [] → IsPassed text
  comment : (behind : List ℕ) → IsComment behind → text ≡ 60 ∷ 33 ∷ 45 ∷ 45 ∷ behind → IsPassed text
  instruction : (behind : List ℕ) → IsInstruction behind → text ≡ 60 ∷ 63 ∷ behind → IsPassed text

-- any number of that
abbrev pub joined : List (List ℕ) → List ℕ
joined [] = []
joined (s ∷ ss) = s ++ joined ss

pub record ArePassed (text : List ℕ) : Type 0 where
  pub parts : List (List ℕ)
  pub are : AllByRecursion IsPassed parts
  pub text_is : text ≡ joined parts

-- a start tag and an end tag
pub record IsOpened (text name : List ℕ) (attributes : List Pair) (empty : Bool) : Type 0 where
  pub behind : List ℕ
  pub opens : IsOpening behind name attributes empty
  pub text_is : text ≡ 60 ∷ behind

pub record IsEnded (text name : List ℕ) : Type 0 where
  pub behind : List ℕ
  pub ends : IsEnding behind name
  pub text_is : text ≡ 60 ∷ 47 ∷ behind

-- an element, and elements with what may stand between them
abbrev mutual
  pub IsElement : Tree → List ℕ → Type 0
  IsElement (element name attributes below) text =
      ((below ≡ no_trees) × IsOpened text name attributes true)
      ⊎ ((front : List ℕ) × (inner : List ℕ) × (last : List ℕ) × (text ≡ front ++ (inner ++ last))
      × IsOpened front name attributes false × AreElements below inner × IsEnded last name)

  pub AreElements : Trees → List ℕ → Type 0
  AreElements no_trees text = ArePassed text
  AreElements (tree t ts) text =
      (gap : List ℕ) × (front : List ℕ) × (rest : List ℕ) × (text ≡ gap ++ (front ++ rest))
      × ArePassed gap × IsElement t front × AreElements ts rest

-- all of a text
pub record IsXmlOf (text : List ℕ) (root : Tree) : Type 0 where
  pub before : List ℕ
  pub front : List ℕ
  pub after : List ℕ
  pub are : ArePassed before × ArePassed after
  pub is : IsElement root front
  pub text_is : text ≡ before ++ (front ++ after)
  pub held : AllByRecursion (λ c. is_character c ≡ true) text

-- these are the elements of a text
pub record AreElementsOf (text : List ℕ) (elements : List Flat) : Type 0 where
  pub root : Tree
  pub flat_is : elements ≡ flat 0 root
  pub is : IsXmlOf text root
