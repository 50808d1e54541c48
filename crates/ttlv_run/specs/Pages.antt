-- A page of HTML with lines of items: each structure folds with what is in it.
use Rattle.std.specs.Prelude.{ℕ, suc, zero, ◌+◌, ◌-◌, Bool, ◌||◌, ◌&&◌, ◌==◌, nat_eq, nat_lt, List, [], ◌∷◌, ◌++◌, length, if◌then◌else◌, codes}
use Rattle.std.specs.List.{flat_map, filter, list_any, starts_with, ends_with}
use Rattle.kmip_ttlv_names.specs.NameTables.{lines_of}
use Rattle.ttlv_run.specs.declared.page.Row.{Row}
use Rattle.ttlv_run.specs.declared.page.Row.TheVariants.{Blank, Heading, Structure, Leaf}
use Rattle.ttlv_run.specs.declared.page.TheConstants.{HEAD, FOOT}

-- a tab, with which a column of a line ends
abbrev pub is_tab : ℕ → Bool
is_tab b = b == 9

-- the text of a line, behind its columns
unfoldable pub text_of : List ℕ → List ℕ
text_of [] = []
text_of (b ∷ line) = if list_any is_tab (b ∷ line) then text_of line else b ∷ line

-- how many spaces a text begins with
unfoldable pub spaces : List ℕ → ℕ
spaces [] = 0
spaces (b ∷ text) = if b == 32 then spaces text + 1 else 0

-- how far an item is indented
abbrev pub indent : List ℕ → ℕ
indent line = spaces (text_of line)

-- how far the first of some lines is indented
abbrev pub first_indent : List (List ℕ) → ℕ
first_indent [] = 0
first_indent (line ∷ lines) = indent line

-- what stands in a page for a line, of which the next one is indented so far: a line that tells when a message was sent is a heading,
-- and a structure has items if they are indented further
abbrev pub row_of : List ℕ → ℕ → Row
row_of [] next = Blank
row_of (b ∷ line) next =
    if starts_with nat_eq (b ∷ line) (codes "At ") then Heading
    else if ends_with nat_eq (b ∷ line) (codes ", Data:") && nat_lt (indent (b ∷ line)) next then Structure
    else Leaf

-- a byte of a line in a page
abbrev pub page_byte : ℕ → List ℕ
page_byte b =
    if is_tab b then codes "</span><span>"
    else if b == 38 then codes "&amp;"
    else if b == 60 then codes "&lt;"
    else if b == 62 then codes "&gt;"
    else if b == 34 then codes "&quot;"
    else b ∷ []

-- a text in a page
unfoldable pub page_text : List ℕ → List ℕ
page_text text = flat_map page_byte text

-- a byte with which elements and their attributes are written
abbrev pub is_markup : ℕ → Bool
is_markup b = b == 60 || b == 62 || b == 34

-- the marks around a line
abbrev pub row_begins : Row → List ℕ
row_begins Blank = []
row_begins Heading = codes "<h2><span>"
row_begins Structure = codes "<details open><summary><span>"
row_begins Leaf = codes "<div><span>"

abbrev pub row_ends : Row → List ℕ
row_ends Blank = []
row_ends Heading = codes "</span></h2>\n"
row_ends Structure = codes "</span></summary>\n"
row_ends Leaf = codes "</span></div>\n"

-- the ends of so many structures
abbrev pub closings : ℕ → List ℕ
closings zero = []
closings (suc n) = codes "</details>\n" ++ closings n

-- those of some structures that an item is in, which are indented less far
abbrev pub around : ℕ → List ℕ → List ℕ
around far outer = filter (λ other. nat_lt other far) outer

-- some structures, and one more that is indented so far, if this is one
abbrev pub with_own : Row → ℕ → List ℕ → List ℕ
with_own Structure far outer = outer ++ far ∷ []
with_own _ far outer = outer

-- a line in a page, where structures are open that are indented so far, and of which the next one is: it ends the structures that it
-- isn't in
unfoldable pub row_in : List ℕ → List ℕ → ℕ → List ℕ
row_in outer line next =
    closings (length outer - length (around (indent line) outer))
    ++ (row_begins (row_of line next) ++ (page_text line ++ row_ends (row_of line next)))

-- the structures that are open behind it
unfoldable pub open_after : List ℕ → List ℕ → ℕ → List ℕ
open_after outer line next = with_own (row_of line next) (indent line) (around (indent line) outer)

-- lines in a page, where structures are open that are indented so far
abbrev pub rows : List ℕ → List (List ℕ) → List ℕ
rows outer [] = closings (length outer)
rows outer (line ∷ lines) = row_in outer line (first_indent lines) ++ rows (open_after outer line (first_indent lines)) lines

-- what a page begins with, and what it ends with
unfoldable pub head : List ℕ
head = HEAD.now

unfoldable pub foot : List ℕ
foot = FOOT.now

-- a page with the lines of a text
unfoldable pub page : List ℕ → List ℕ
page text = head ++ (rows [] (lines_of text) ++ foot)
