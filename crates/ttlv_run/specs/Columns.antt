-- Which bytes of a text are digits of messages, byte by byte, and which part of a line each stands in.
use Rattle.std.specs.Prelude.{◌≡◌, ℕ, Bool, true, false, not, ◌==◌, ◌||◌, ◌&&◌, List, [], ◌∷◌, ◌++◌}
use Rattle.std.specs.Prelude.{slice_index, nat_lt, drop, if◌then◌else◌}
use Rattle.ttlv_run.specs.declared.form.Form.{Form}
use Rattle.ttlv_run.specs.declared.form.Form.TheVariants.{HexadecimalText, Base64Text, Base64UrlText, ArmouredText, DumpText, PacketText}
use Rattle.ttlv_run.specs.declared.form.LinePart.{LinePart}
use Rattle.ttlv_run.specs.declared.form.LinePart.TheVariants.{Begin, Indent, Mark, Offset, Colon, Group, Gap, Between, Half, Whole, Aside, Free}
use Rattle.ttlv_run.specs.declared.form.Step.{Step}
use Rattle.ttlv_run.specs.declared.form.Step.TheVariants.{Counts, Skips, Wrong}

-- white space, but for a line feed
abbrev pub is_blank : ℕ → Bool
is_blank b = b == 32 || b == 9 || (nat_lt 10 b && nat_lt b 14)

-- white space, quotes, commas and colons
abbrev pub is_between : ℕ → Bool
is_between b = (nat_lt 8 b && nat_lt b 14) || b == 32 || b == 34 || b == 39 || b == 44 || b == 58

-- a byte from one to another
abbrev pub in_range : ℕ → ℕ → ℕ → Bool
in_range least most b = not (nat_lt b least) && not (nat_lt most b)

abbrev pub is_hex_digit : ℕ → Bool
is_hex_digit b = in_range 48 57 b || in_range 65 70 b || in_range 97 102 b

abbrev pub is_alphanumeric : ℕ → Bool
is_alphanumeric b = in_range 48 57 b || in_range 65 90 b || in_range 97 122 b

-- a digit of base64 (with `+` and `/`), or padding
abbrev pub is_base64_digit : ℕ → Bool
is_base64_digit b = is_alphanumeric b || b == 43 || b == 47 || b == 61

-- a digit of base64url (with `-` and `_`), or padding
abbrev pub is_url_digit : ℕ → Bool
is_url_digit b = is_alphanumeric b || b == 45 || b == 95 || b == 61

-- `|` and `>`, with which the text column of hexdump and of od begins
abbrev pub is_edge : ℕ → Bool
is_edge b = b == 124 || b == 62

-- a byte and the next one are `0x` or `\x`, with a small or a large x
abbrev pub is_mark : ℕ → ℕ → Bool
is_mark b next = (b == 48 || b == 92) && (next == 120 || next == 88)

-- the part of a line in which a text begins
abbrev pub first_part : Form → LinePart
first_part HexadecimalText = Free
first_part Base64Text = Free
first_part Base64UrlText = Free
first_part ArmouredText = Begin
first_part DumpText = Begin
first_part PacketText = Begin

-- where digits stand freely, a digit counts, and what may stand between digits is skipped
abbrev pub freely : Bool → Bool → Step
freely digit other = if digit then Counts Free else if other then Skips Free else Wrong

-- which part of a line it is
abbrev pub is_in_mark : LinePart → Bool
is_in_mark Mark = true
is_in_mark _ = false

abbrev pub is_at_begin : LinePart → Bool
is_at_begin Begin = true
is_at_begin _ = false

abbrev pub is_in_indent : LinePart → Bool
is_in_indent Indent = true
is_in_indent _ = false

abbrev pub is_in_aside : LinePart → Bool
is_in_aside Aside = true
is_in_aside _ = false

-- in hexadecimal marks are skipped, and dashes may stand between digits too
abbrev pub in_hex : LinePart → ℕ → ℕ → Step
in_hex part b next =
    if is_in_mark part then Skips Free
    else if is_mark b next then Skips Mark
    else freely (is_hex_digit b) (is_between b || b == 45)

-- in armour a line that begins with a dash is skipped, and any other is of digits
abbrev pub in_armour : LinePart → ℕ → Step
in_armour part b =
    if b == 10 then Skips Begin
    else if is_in_aside part || (is_at_begin part && b == 45) then Skips Aside
    else freely (is_base64_digit b) (is_blank b)

-- a dump's line begins with its offset, maybe behind blanks
abbrev pub at_begin : ℕ → Step
at_begin b = if is_hex_digit b then Skips Offset else if b == 10 || is_blank b then Skips Begin else Wrong

-- the digits of an offset don't count; a colon or a blank ends it
abbrev pub in_offset : ℕ → Step
in_offset b =
    if is_hex_digit b then Skips Offset
    else if b == 58 then Skips Colon
    else if is_blank b then Skips Between
    else if b == 10 then Skips Begin
    else Wrong

-- behind an offset with a colon digits count, and a blank leads to another part
abbrev pub in_group : LinePart → ℕ → Step
in_group blank b =
    if is_hex_digit b then Counts Group
    else if is_blank b then Skips blank
    else if b == 10 then Skips Begin
    else Wrong

-- behind an offset without a colon a byte begins with a digit, and `|` or `>` ends the bytes
abbrev pub between : ℕ → Step
between b =
    if is_hex_digit b then Counts Half
    else if is_blank b then Skips Between
    else if b == 10 then Skips Begin
    else if is_edge b then Skips Aside
    else Wrong

-- a byte there has two digits, behind which there is no third
abbrev pub in_byte : Bool → ℕ → Step
in_byte whole b =
    if not whole && is_hex_digit b then Counts Whole
    else if whole && not (is_hex_digit b) then between b
    else Wrong

-- what is no part of the messages is skipped up to the end of its line
abbrev pub aside : ℕ → Step
aside b = if b == 10 then Skips Begin else Skips Aside

-- a line of xxd, of hexdump -C or of od -t x1: behind a colon two blanks end the digits
abbrev pub in_dump : LinePart → ℕ → Step
in_dump Begin b = at_begin b
in_dump Offset b = in_offset b
in_dump Colon b = in_group Colon b
in_dump Group b = in_group Gap b
in_dump Gap b = in_group Aside b
in_dump Between b = between b
in_dump Half b = in_byte false b
in_dump Whole b = in_byte true b
in_dump Aside b = aside b
in_dump Indent b = Wrong
in_dump Mark b = Wrong
in_dump Free b = Wrong

-- a line of tcpdump that is indented and begins with a mark has an offset behind that; any other line is skipped
abbrev pub at_indent : LinePart → ℕ → ℕ → Step
at_indent part b next =
    if is_blank b then Skips Indent
    else if is_in_indent part && is_mark b next then Skips Mark
    else aside b

abbrev pub in_packet : LinePart → ℕ → ℕ → Step
in_packet Begin b next = at_indent Begin b next
in_packet Indent b next = at_indent Indent b next
in_packet Mark b next = Skips Offset
in_packet Offset b next = in_dump Offset b
in_packet Colon b next = in_dump Colon b
in_packet Group b next = in_dump Group b
in_packet Gap b next = in_dump Gap b
in_packet Between b next = in_dump Between b
in_packet Half b next = in_dump Half b
in_packet Whole b next = in_dump Whole b
in_packet Aside b next = in_dump Aside b
in_packet Free b next = in_dump Free b

-- what a byte of a text is, in front of the next one
abbrev pub step : Form → LinePart → ℕ → ℕ → Step
step HexadecimalText part b next = in_hex part b next
step Base64Text part b next = freely (is_base64_digit b) (is_between b)
step Base64UrlText part b next = freely (is_url_digit b) (is_between b)
step ArmouredText part b next = in_armour part b
step DumpText part b next = in_dump part b
step PacketText part b next = in_packet part b next

-- a digit and no padding, in a text whose digits stand freely
abbrev pub is_plain : Form → ℕ → Bool
is_plain HexadecimalText b = is_hex_digit b
is_plain Base64Text b = is_base64_digit b && not (b == 61)
is_plain ArmouredText b = is_base64_digit b && not (b == 61)
is_plain Base64UrlText b = is_url_digit b && not (b == 61)
is_plain DumpText b = false
is_plain PacketText b = false

-- a text is read from a part of a line on: these of its bytes are digits, in this part stands what follows, and this is left
pub data Reads (form : Form) (first : LinePart) (s : List ℕ) : List ℕ → LinePart → List ℕ → Type 0 where
  begins : Reads form first s [] first s
  counts :
      (digits more : List ℕ) (part then_ : LinePart) (b : ℕ) (rest : List ℕ)
      → Reads form first s digits part (b ∷ rest)
      → step form part b (slice_index rest 0) ≡ Counts then_
      → more ≡ digits ++ b ∷ []
      → Reads form first s more then_ rest
  skips :
      (digits : List ℕ) (part then_ : LinePart) (b : ℕ) (rest : List ℕ)
      → Reads form first s digits part (b ∷ rest)
      → step form part b (slice_index rest 0) ≡ Skips then_
      → Reads form first s digits then_ rest

-- how long the mark is that a text of UTF-8 may begin with
abbrev pub mark_length : List ℕ → ℕ
mark_length s = if slice_index s 0 == 239 && (slice_index s 1 == 187 && slice_index s 2 == 191) then 3 else 0

-- a text without it
abbrev pub body : List ℕ → List ℕ
body s = drop (mark_length s) s

-- the digits of a text up to a rest, and the part in which that stands
abbrev pub ReadsText : Form → List ℕ → List ℕ → LinePart → List ℕ → Type 0
ReadsText form s digits part rest = Reads form (first_part form) (body s) digits part rest

-- the first byte of a text that is no digit and can't stand where it does, and its place
pub record Stops (form : Form) (s : List ℕ) (place b : ℕ) : Type 0 where
  pub digits : List ℕ
  pub part : LinePart
  pub rest : List ℕ
  pub reads : ReadsText form s digits part (b ∷ rest)
  pub is : b ∷ rest ≡ drop place s
  pub wrong : step form part b (slice_index rest 0) ≡ Wrong
