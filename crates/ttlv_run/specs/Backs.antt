-- Lines of diagnostics: which are whole, and the first that is not.
use Rattle.std.specs.Prelude.{◌≡◌, ◌≢◌, ◌⊎◌, ℕ, ◌+◌, ◌<◌, ◌≤◌, Bool, true, false, List, [], ◌∷◌, ◌++◌, length, take, drop, Option}
use Rattle.std.specs.Prelude.{Some, None, slice_index, codes}
use Rattle.std.specs.Fmt.{decimal}
use Rattle.std.specs.Str.{trim_end, IsUtf8}
use Rattle.kmip_ttlv_names.specs.NameTables.{lines_of}
use Rattle.kmip_ttlv_util.specs.ReadBack.{Part, IsPartAt, StandAll}
use Rattle.ttlv_run.specs.declared.back.BackFault.{BackFault}
use Rattle.ttlv_run.specs.declared.back.BackFaultKind.{BackFaultKind}
use Rattle.ttlv_run.specs.declared.back.BackFaultKind.TheVariants.{NoPart, LeftOpen}
use Rattle.ttlv_run.specs.declared.back.BackReached.{BackReached}
use Rattle.ttlv_run.specs.declared.back.BackReached.TheVariants.{Behind, NoText}
use Rattle.ttlv_run.specs.Columns.{mark_length, body}
use Rattle.ttlv_run.specs.Escapes.{escape}
use Rattle.ttlv_run.specs.Texts.{text_back}

-- a text is diagnostics from its first character to its last, but for white space at its end: its parts stand one
-- behind the other, nothing is left, and each structure is closed
abbrev pub IsWholeText : List ℕ → List ℕ → Type 0
IsWholeText prefix s = (parts : List Part) × StandAll prefix 0 (trim_end s) parts 0 []

-- so is a line, behind its mark
abbrev pub IsWholeLine : List ℕ → List ℕ → Type 0
IsWholeLine prefix line = IsWholeText prefix (body line)

-- what is wrong so deep, where so many bytes are left: some are, or none is and a structure is open
abbrev pub IsWrong : BackFaultKind → ℕ → ℕ → Type 0
IsWrong NoPart deep left = 0 < left
IsWrong LeftOpen deep left = (left ≡ 0) × (0 < deep)

-- what is wrong at an offset, if anything is
abbrev pub Stopped : ℕ → ℕ → ℕ → Option BackFault → Type 0
Stopped offset deep left None = (left ≡ 0) × (deep ≡ 0)
Stopped offset deep left (Some fault) = (fault.offset ≡ offset) × IsWrong fault.kind deep left

-- parts stand in front of a text up to a place, and no part stands there
pub record Stops (prefix s : List ℕ) (place : ℕ) (kind : BackFaultKind) : Type 0 where
  pub parts : List Part
  pub deep : ℕ
  pub within : place ≤ length (trim_end s)
  pub stand : StandAll prefix 0 (trim_end s) parts deep (drop place (trim_end s))
  pub no_more : (p : Part) (more : List ℕ) → IsPartAt prefix deep (drop place (trim_end s)) p more → ⊥
  pub wrong : IsWrong kind deep (length (drop place (trim_end s)))

-- the text that begins at an offset is not whole, and this is where and why
pub record BreaksText (prefix : List ℕ) (at : ℕ) (s : List ℕ) (fault : BackFault) : Type 0 where
  pub place : ℕ
  pub stops : Stops prefix s place fault.kind
  pub offset : fault.offset ≡ at + place

-- whether it is whole, and if not, where and why
abbrev pub TriesText : List ℕ → ℕ → List ℕ → Option BackFault → Type 0
TriesText prefix at s None = IsWholeText prefix s
TriesText prefix at s (Some fault) = BreaksText prefix at s fault

-- the same of a line, whose text is behind its mark
abbrev pub Breaks : List ℕ → ℕ → List ℕ → BackFault → Type 0
Breaks prefix at line fault = BreaksText prefix (at + mark_length line) (body line) fault

abbrev pub Tries : List ℕ → ℕ → List ℕ → Option BackFault → Type 0
Tries prefix at line fault = TriesText prefix (at + mark_length line) (body line) fault

-- the first of some lines that is not whole, the first of which begins at an offset; none where all are whole
pub data FirstBreak (prefix : List ℕ) : ℕ → List (List ℕ) → Option BackFault → Type 0 where
  all_whole : (at : ℕ) → FirstBreak prefix at [] None
  breaks_here :
      (at : ℕ) (line : List ℕ) (more : List (List ℕ)) (fault : BackFault)
      → Breaks prefix at line fault
      → FirstBreak prefix at (line ∷ more) (Some fault)
  whole_here :
      (at next : ℕ) (line : List ℕ) (more : List (List ℕ)) (first : Option BackFault)
      → IsWholeLine prefix line
      → next ≡ at + length line + 1
      → FirstBreak prefix next more first
      → FirstBreak prefix at (line ∷ more) first

-- no line feed stands in a text
abbrev pub IsOneLine : List ℕ → Type 0
IsOneLine s = (k : ℕ) → k < length s → slice_index s k ≢ 10

-- a line begins at a place, and its line feed stands behind it
pub record IsLineAt (s : List ℕ) (at : ℕ) (line : List ℕ) : Type 0 where
  pub within : at + length line < length s
  pub is : line ≡ take (length line) (drop at s)
  pub one_line : IsOneLine line
  pub ends : slice_index s (at + length line) ≡ 10

-- a text is lines, each with its line feed: they stay the same, whatever stands behind them
pub record AreLines (s : List ℕ) : Type 0 where
  pub lines : List (List ℕ)
  pub are : (more : List ℕ) → lines_of (s ++ more) ≡ lines ++ lines_of more

-- the first line that is not whole: the one that was found, or else the first of the lines that begin at an offset
abbrev pub FirstFrom : List ℕ → ℕ → List ℕ → Option BackFault → Option BackFault → Type 0
FirstFrom prefix at more (Some found) first = first ≡ Some found
FirstFrom prefix at more None first = FirstBreak prefix at (lines_of more) first

-- it was looked for in lines that begin at an offset, whatever stands behind them
abbrev pub Finds : List ℕ → ℕ → List ℕ → Option BackFault → Type 0
Finds prefix at s found =
    (more : List ℕ) (first : Option BackFault) → FirstFrom prefix (at + length s) more found first
    → FirstBreak prefix at (lines_of (s ++ more)) first

-- the bytes up to a place are lines of text, and this is what they are read back as
pub record ReadsLines
    (tags : ℕ → Option (List ℕ)) (prefix bytes : List ℕ) (place : ℕ) (text : List ℕ) : Type 0 where
  pub within : place ≤ length bytes
  pub lines : AreLines (take place bytes)
  pub is_text : IsUtf8 (take place bytes)
  pub is : text ≡ text_back tags prefix (take place bytes)

-- the first line of some bytes, which are the last or not, is no text, whatever stands behind them
pub record BeginsNoText (bytes : List ℕ) (last : Bool) : Type 0 where
  pub line : List ℕ
  pub no_text : IsUtf8 line → ⊥
  pub first :
      (more : List ℕ) → (last ≡ true → more ≡ [])
      → (others : List (List ℕ)) × (lines_of (bytes ++ more) ≡ line ∷ others)

-- the lines of bytes that begin at an offset were read back as a text, up to one that is no text; or up to the last line
-- feed; or all of them, where the bytes are the last
abbrev pub ReadsBack :
    (ℕ → Option (List ℕ)) → List ℕ → ℕ → List ℕ → Bool → BackReached → List ℕ → Type 0
ReadsBack tags prefix base bytes last NoText text =
    (place : ℕ) × ReadsLines tags prefix bytes place text × BeginsNoText (drop place bytes) last
ReadsBack tags prefix base bytes false (Behind count found) text =
    ReadsLines tags prefix bytes count text × Finds prefix base (take count bytes) found × IsOneLine (drop count bytes)
ReadsBack tags prefix base bytes true (Behind count found) text =
    (count ≡ length bytes) × IsUtf8 bytes × (text ≡ text_back tags prefix bytes)
    × FirstBreak prefix base (lines_of bytes) found

-- a front of bytes, of whole lines or of all where they are the last, is text, and this is what it is read back as
pub record ReadsFront
    (tags : ℕ → Option (List ℕ)) (prefix bytes : List ℕ) (last : Bool) (text : List ℕ) : Type 0 where
  pub count : ℕ
  pub within : count ≤ length bytes
  pub ends : AreLines (take count bytes) ⊎ ((last ≡ true) × (count ≡ length bytes))
  pub is_text : IsUtf8 (take count bytes)
  pub is : text ≡ text_back tags prefix (take count bytes)

-- what is wrong, in words
abbrev pub back_words : BackFaultKind → List ℕ
back_words NoPart = codes "no whole part of a diagnostic"
back_words LeftOpen = codes "a structure is not closed"

-- the line on standard error: what the input is called, the offset in it and what is wrong
abbrev pub back_line : List ℕ → BackFault → List ℕ
back_line name fault =
    escape name ++ codes ": byte " ++ decimal fault.offset ++ codes ": " ++ back_words fault.kind ++ codes "\n"
