-- Where in a text a token begins: by the bytes in front of it, in the classes that JSON's lexer has (RFC 8259, section 2).
use Rattle.std.specs.Prelude.{ℕ, ◌+◌, ◌-◌, ◌==◌, Bool, true, false, not, ◌&&◌, ◌||◌, List, [], ◌∷◌, Option, Some, None, if◌then◌else◌}
use Rattle.json.specs.Word.{is_operator, is_space}
use Rattle.kmip_ttlv_json.specs.declared.places.Mode.{Mode}
use Rattle.kmip_ttlv_json.specs.declared.places.Mode.TheVariants.{Between, Word, Text, Escape}
use Rattle.kmip_ttlv_json.specs.declared.places.Gap.{Gap}
use Rattle.kmip_ttlv_json.specs.declared.places.Gap.TheVariants.{Nothing, Comma, Either}
use Rattle.kmip_ttlv_json.specs.declared.places.Scan.{Scan}

-- a token, a comma or a colon begins with a byte
abbrev pub begins : Mode → ℕ → Bool
begins Between byte = not (is_space byte)
begins Word byte = is_operator byte
begins Text byte = false
begins Escape byte = false

-- what the byte behind one stands in: behind one in no text, or in any
abbrev pub mode_outside : ℕ → Bool → Mode
mode_outside byte is_word = if is_operator byte || is_space byte then Between else if (byte == 34) && not is_word then Text else Word

abbrev pub mode_behind : Mode → ℕ → Mode
mode_behind Between byte = mode_outside byte false
mode_behind Word byte = mode_outside byte true
mode_behind Text byte = if byte == 34 then Between else if byte == 92 then Escape else Text
mode_behind Escape byte = Text

-- a byte is a comma or a colon that may stand there
abbrev pub passes : Gap → ℕ → Bool
passes Nothing byte = false
passes Comma byte = byte == 44
passes Either byte = (byte == 44) || (byte == 58)

-- which of them may stand behind a token that begins with a byte
abbrev pub gap_behind : ℕ → Gap
gap_behind byte = if (byte == 123) || (byte == 91) then Nothing else if byte == 34 then Either else Comma

-- where a scan stands behind a byte, unless the token that it looks for begins with it
abbrev pub scanned : Scan → ℕ → Option Scan
scanned s byte =
    if not (begins s.mode byte) then Some (record { mode = mode_behind s.mode byte; gap = s.gap; left = s.left }) else
    if passes s.gap byte then Some (record { mode = mode_behind s.mode byte; gap = Nothing; left = s.left }) else
    if s.left == 0 then None else Some (record { mode = mode_behind s.mode byte; gap = gap_behind byte; left = s.left - 1 })

-- how far it is to that token, or to the end
abbrev pub one_on : Option Scan → (Scan → ℕ) → ℕ
one_on None more = 0
one_on (Some s) more = 1 + more s

abbrev pub distance : Scan → List ℕ → ℕ
distance s [] = 0
distance s (byte ∷ bytes) = one_on (scanned s byte) (λ next. distance next bytes)

-- where the token begins that has so many others in front of it
abbrev pub offset_of : ℕ → List ℕ → ℕ
offset_of index text = distance (record { mode = Between; gap = Nothing; left = index }) text
