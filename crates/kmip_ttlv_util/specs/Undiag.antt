-- A diagnostic read back, as a function of the text, one part at a time. ReadBack states the result as a relation, in
-- terms of the text alone.
use Rattle.std.specs.Prelude.{codes, ℕ, zero, suc, ◌+◌, ◌&&◌, List, [], ◌∷◌, ◌++◌, length, take, drop, Option}
use Rattle.std.specs.Prelude.{Some, None, if◌then◌else◌, ◌==◌, nat_lt}
use Rattle.std.specs.List.{prefix_len, position_or_len}
use Rattle.std.specs.Str.{trim_end}
use Rattle.kmip_ttlv_types.specs.declared.typ.TtlvType.{TtlvType}
use Rattle.kmip_ttlv_types.specs.declared.typ.TtlvType.TheVariants.{Structure, Enumeration}
use Rattle.kmip_ttlv_types.specs.Names.{tag_of}
use Rattle.kmip_ttlv_util.specs.Letters.{type_of_letter, is_hex}
use Rattle.kmip_ttlv_util.specs.Lines.{tag_part, typ_part, line, hidden}

-- the type of a leading letter, with what follows
abbrev pub with_rest : List ℕ → Option TtlvType → Option (TtlvType × List ℕ)
with_rest s None = None
with_rest s (Some t) = Some (t, s)

-- a type's leading letter, with what follows
abbrev pub front_type : List ℕ → Option (TtlvType × List ℕ)
front_type [] = None
front_type (c ∷ s) = with_rest s (type_of_letter c)

-- a nonempty value before a colon, with what follows the colon
abbrev pub value_up_to : List ℕ → ℕ → Option (List ℕ × List ℕ)
value_up_to s n = if nat_lt 0 n && nat_lt n (length s) then Some (take n s, drop (n + 1) s) else None

-- a value up to the first colon
unfoldable pub front_value : List ℕ → Option (List ℕ × List ℕ)
front_value s = value_up_to s (position_or_len (λ b. b == 58) s)

-- what the next part of a text gives: what is written, the new depth and the rest of the text; or,
-- if there is no whole part, what is written of an unfinished one
pub data Step : Type 0 where
  reads_on : (written : List ℕ) → (depth : ℕ) → (rest : List ℕ) → Step
  stops_with : (written : List ℕ) → Step

-- a `]` in a structure
abbrev pub close_step : ℕ → List ℕ → Step
close_step zero s = stops_with []
close_step (suc d) s = reads_on [] d s

-- an enumeration's value
abbrev pub value_step : (ℕ → ℕ → List ℕ) → ℕ → ℕ → List ℕ → ℕ → Step
value_step beginning depth tag s n =
    if nat_lt 0 n && nat_lt n (length s)
    then reads_on (line beginning depth tag Enumeration (take n s)) depth (drop (n + 1) s)
    else stops_with (typ_part beginning depth tag Enumeration)

-- what follows a tag and a type
abbrev pub data_step : (ℕ → ℕ → List ℕ) → ℕ → ℕ → TtlvType → List ℕ → Step
data_step beginning depth tag typ [] = stops_with (typ_part beginning depth tag typ)
data_step beginning depth tag Structure (c ∷ s) = reads_on (line beginning depth tag Structure []) (suc depth) (c ∷ s)
data_step beginning depth tag Enumeration (c ∷ s) =
    value_step beginning depth tag (c ∷ s) (position_or_len (λ b. b == 58) (c ∷ s))
data_step beginning depth tag typ (c ∷ s) = reads_on (line beginning depth tag typ hidden) depth (c ∷ s)

-- what follows a tag, given the type there
abbrev pub type_step : (ℕ → ℕ → List ℕ) → ℕ → ℕ → List ℕ → Option TtlvType → Step
type_step beginning depth tag s None = stops_with (beginning depth tag)
type_step beginning depth tag s (Some typ) = data_step beginning depth tag typ s

-- what follows a tag
abbrev pub letter_step : (ℕ → ℕ → List ℕ) → ℕ → ℕ → List ℕ → Step
letter_step beginning depth tag [] = stops_with (beginning depth tag)
letter_step beginning depth tag (c ∷ s) = type_step beginning depth tag s (type_of_letter c)

-- what follows the digits, given the tag that they are
abbrev pub tag_step : (ℕ → ℕ → List ℕ) → ℕ → List ℕ → Option ℕ → Step
tag_step beginning depth s None = stops_with []
tag_step beginning depth s (Some tag) = letter_step beginning depth tag s

-- the leading digits, after `0x` and the prefix, are a tag
abbrev pub digits_step : (ℕ → ℕ → List ℕ) → List ℕ → ℕ → List ℕ → ℕ → Step
digits_step beginning prefix depth s n = tag_step beginning depth (drop n s) (tag_of (codes "0x" ++ (prefix ++ take n s)))

-- the next part of a text at a depth
unfoldable pub step : (ℕ → ℕ → List ℕ) → List ℕ → ℕ → List ℕ → Step
step beginning prefix depth [] = stops_with []
step beginning prefix depth (c ∷ s) =
    if c == 93 then close_step depth s else digits_step beginning prefix depth (c ∷ s) (prefix_len is_hex (c ∷ s))

-- what is written of a part and of the rest
abbrev pub written_by : Step → (ℕ → List ℕ → List ℕ) → List ℕ
written_by (reads_on w d s) more = w ++ more d s
written_by (stops_with w) more = w

-- the lines of a text from a depth on, of at most this many parts
unfoldable pub undiag_from : (ℕ → ℕ → List ℕ) → ℕ → List ℕ → ℕ → List ℕ → List ℕ
undiag_from beginning zero prefix depth s = []
undiag_from beginning (suc most) prefix depth s =
    written_by (step beginning prefix depth s) (λ d r. undiag_from beginning most prefix d r)

-- the lines of the longest list of parts that a text begins with, then what is written of one
-- unfinished part
unfoldable pub undiag_lines : (ℕ → ℕ → List ℕ) → List ℕ → List ℕ → List ℕ
undiag_lines beginning prefix s = undiag_from beginning (suc (length s)) prefix 0 s

-- the same with names for tags, each line indented by two spaces for each structure around, trimmed at the end
unfoldable pub undiag : (ℕ → Option (List ℕ)) → List ℕ → List ℕ → List ℕ
undiag names prefix s = trim_end (undiag_lines (tag_part names) prefix s)
