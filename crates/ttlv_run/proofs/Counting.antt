-- A byte of a text that counts is a digit of it, and so a byte.
use Rattle.std.proofs.Common.{◌≡◌, ℕ, zero, suc, ◌<◌, Bool, true, false, not, ◌&&◌, ◌||◌, if◌then◌else◌, List, [], ◌∷◌, ◌++◌, sym, refl, subst, ◌∙◌, arith}
use Rattle.std.specs.Prelude.{slice_index, ◌==◌}
use Rattle.std.proofs.lemmas.Bool.Decides.{nat_tests}
use Rattle.base64.specs.GeneralPurpose.{IsBytes}
use Rattle.ttlv_run.specs.declared.form.{Form.Form, LinePart.LinePart, Step.Step}
use Rattle.ttlv_run.specs.declared.form.Form.TheVariants.{HexadecimalText, Base64Text, Base64UrlText, ArmouredText, DumpText, PacketText}
use Rattle.ttlv_run.specs.declared.form.LinePart.TheVariants.{Begin, Indent, Mark, Offset, Colon, Group, Gap, Between, Half, Whole, Aside, Free}
use Rattle.ttlv_run.specs.declared.form.Step.TheVariants.{Counts, Skips, Wrong}
use Rattle.ttlv_run.specs.Columns.{is_hex_digit, is_base64_digit, is_url_digit, is_blank, is_between, is_edge, is_mark, is_in_mark, is_in_indent, is_in_aside}
use Rattle.ttlv_run.specs.Columns.{is_at_begin, step, Reads, begins, counts, skips, between, in_dump, aside, freely}

abbrev NoCount : Step → Type 0
NoCount x = (next : LinePart) → x ≡ Counts next → ⊥

skipped_none : (part : LinePart) → NoCount (Skips part)
skipped_none part next e = cc e

wrong_none : NoCount Wrong
wrong_none next e = cc e

either_none : (c : Bool) (x y : Step) → NoCount x → NoCount y → NoCount (if c then x else y)
either_none true x y p q = p
either_none false x y p q = q

-- what counts digits alone counts a digit
abbrev CountsDigits : Bool → Step → Type 0
CountsDigits d x = (next : LinePart) → x ≡ Counts next → d ≡ true

first_test : (d : Bool) (x y : Step) → NoCount y → CountsDigits d (if d then x else y)
first_test true x y none next e = refl
first_test false x y none next e = absurd (none next e)

later_test : (c d : Bool) (x y : Step) → NoCount x → CountsDigits d y → CountsDigits d (if c then x else y)
later_test true d x y none only next e = absurd (none next e)
later_test false d x y none only next e = only next e

never : (d : Bool) (x : Step) → NoCount x → CountsDigits d x
never d x none next e = absurd (none next e)

in_byte_digit : (whole d : Bool) (b : ℕ) → is_hex_digit b ≡ d
    → CountsDigits d (if not whole && d then Counts Whole else if whole && not d then between b else Wrong)
in_byte_digit true true b is next e = refl
in_byte_digit true false b is next e = sym is ∙ between_digit b next e
  where
    between_digit : (c : ℕ) → CountsDigits (is_hex_digit c) (between c)
    between_digit c = first_test (is_hex_digit c) _ _ (either_none (is_blank c) _ _ (skipped_none Between)
        (either_none (c == 10) _ _ (skipped_none Begin) (either_none (is_edge c) _ _ (skipped_none Aside) wrong_none)))
in_byte_digit false true b is next e = refl
in_byte_digit false false b is next e = cc e

aside_none : (b : ℕ) → NoCount (aside b)
aside_none b = either_none (b == 10) _ _ (skipped_none Begin) (skipped_none Aside)

group_digit : (blank : LinePart) (b : ℕ)
    → CountsDigits (is_hex_digit b) (if is_hex_digit b then Counts Group else if is_blank b then Skips blank else if b == 10 then Skips Begin else Wrong)
group_digit blank b = first_test (is_hex_digit b) _ _
    (either_none (is_blank b) _ _ (skipped_none blank) (either_none (b == 10) _ _ (skipped_none Begin) wrong_none))

dump_digit : (part : LinePart) (b : ℕ) → CountsDigits (is_hex_digit b) (in_dump part b)
dump_digit Begin b = never (is_hex_digit b) _ (either_none (is_hex_digit b) _ _ (skipped_none Offset)
    (either_none (b == 10 || is_blank b) _ _ (skipped_none Begin) wrong_none))
dump_digit Offset b = never (is_hex_digit b) _ (either_none (is_hex_digit b) _ _ (skipped_none Offset)
    (either_none (b == 58) _ _ (skipped_none Colon)
    (either_none (is_blank b) _ _ (skipped_none Between) (either_none (b == 10) _ _ (skipped_none Begin) wrong_none))))
dump_digit Colon b = group_digit Colon b
dump_digit Group b = group_digit Gap b
dump_digit Gap b = group_digit Aside b
dump_digit Between b = first_test (is_hex_digit b) _ _ (either_none (is_blank b) _ _ (skipped_none Between)
    (either_none (b == 10) _ _ (skipped_none Begin) (either_none (is_edge b) _ _ (skipped_none Aside) wrong_none)))
dump_digit Half b = in_byte_digit false (is_hex_digit b) b refl
dump_digit Whole b = in_byte_digit true (is_hex_digit b) b refl
dump_digit Aside b = never (is_hex_digit b) _ (aside_none b)
dump_digit part b = never (is_hex_digit b) Wrong wrong_none

indent_digit : (part : LinePart) (b n : ℕ)
    → CountsDigits (is_hex_digit b) (if is_blank b then Skips Indent else if is_in_indent part && is_mark b n then Skips Mark else aside b)
indent_digit part b n = never (is_hex_digit b) _
    (either_none (is_blank b) _ _ (skipped_none Indent) (either_none (is_in_indent part && is_mark b n) _ _ (skipped_none Mark) (aside_none b)))

packet_digit : (part : LinePart) (b n : ℕ) → CountsDigits (is_hex_digit b) (step PacketText part b n)
packet_digit Begin b n = indent_digit Begin b n
packet_digit Indent b n = indent_digit Indent b n
packet_digit Mark b n = never (is_hex_digit b) _ (skipped_none Offset)
packet_digit part b n = dump_digit part b

freely_digit : (d other : Bool) → CountsDigits d (freely d other)
freely_digit d other = first_test d _ _ (either_none other _ _ (skipped_none Free) wrong_none)

-- a digit of a text
abbrev is_digit : Form → ℕ → Bool
is_digit Base64Text b = is_base64_digit b
is_digit Base64UrlText b = is_url_digit b
is_digit ArmouredText b = is_base64_digit b
is_digit form b = is_hex_digit b

counted_digit : (form : Form) (part : LinePart) (b n : ℕ) → CountsDigits (is_digit form b) (step form part b n)
counted_digit HexadecimalText part b n = later_test (is_in_mark part) (is_hex_digit b) _ _ (skipped_none Free)
    (later_test (is_mark b n) (is_hex_digit b) _ _ (skipped_none Mark) (freely_digit (is_hex_digit b) (is_between b || b == 45)))
counted_digit Base64Text part b n = freely_digit (is_base64_digit b) (is_between b)
counted_digit Base64UrlText part b n = freely_digit (is_url_digit b) (is_between b)
counted_digit ArmouredText part b n = later_test (b == 10) (is_base64_digit b) _ _ (skipped_none Begin)
    (later_test (is_in_aside part || (is_at_begin part && b == 45)) (is_base64_digit b) _ _ (skipped_none Aside)
    (freely_digit (is_base64_digit b) (is_blank b)))
counted_digit DumpText part b n = dump_digit part b
counted_digit PacketText part b n = packet_digit part b n

hex_small : (b : ℕ) → is_hex_digit b ≡ true → b < 256
hex_small b digit = grind (arith, nat_tests)

base64_small : (b : ℕ) → is_base64_digit b ≡ true → b < 256
base64_small b digit = grind (arith, nat_tests)

url_small : (b : ℕ) → is_url_digit b ≡ true → b < 256
url_small b digit = grind (arith, nat_tests)

digit_small : (form : Form) (b : ℕ) → is_digit form b ≡ true → b < 256
digit_small Base64Text b digit = base64_small b digit
digit_small Base64UrlText b digit = url_small b digit
digit_small ArmouredText b digit = base64_small b digit
digit_small form b digit = hex_small b digit

more_bytes : (s : List ℕ) (b : ℕ) → IsBytes s → b < 256 → IsBytes (s ++ b ∷ [])
more_bytes [] b bytes small zero = small
more_bytes [] b bytes small (suc i) = omega arith
more_bytes (c ∷ s) b bytes small zero = bytes 0
more_bytes (c ∷ s) b bytes small (suc i) = more_bytes s b (λ k. bytes (suc k)) small i

-- the digits of a text
pub read_bytes : (form : Form) (first : LinePart) (s digits : List ℕ) (part : LinePart) (rest : List ℕ) → Reads form first s digits part rest → IsBytes digits
read_bytes form first s digits part rest begins = λ i. omega arith
read_bytes form first s digits part rest (counts before more at then_ b others r is all) =
    subst IsBytes (sym all) (more_bytes before b (read_bytes form first s before at (b ∷ others) r)
    (digit_small form b (counted_digit form at b (slice_index others 0) then_ is)))
read_bytes form first s digits part rest (skips before at then_ b others r is) = read_bytes form first s before at (b ∷ others) r
