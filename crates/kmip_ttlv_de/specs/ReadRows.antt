-- The words of the worked rows: a message in hexadecimal digits, its form, and what it is read as.
use Rattle.std.specs.Prelude.{◌≡◌, ℕ, ◌+◌, ◌-◌, ◌*◌, true, false, List, [], ◌∷◌, take, Some, None, codes, nat_lt, if◌then◌else◌}
use Rattle.std.specs.Prelude.{pos}
use Rattle.kmip_ttlv_types.specs.declared.typ.TtlvType.{TtlvType}
use Rattle.kmip_ttlv_base.specs.declared.error.MalformedTtlvError.TheVariants as faults
use Rattle.kmip_ttlv_base.specs.Errors.{Kind, malformed, mismatch, other_cause}
use Rattle.kmip_ttlv_base.specs.Values.{Value, i32_value, i64_value, u32_value, newtype_variant_value, unit_variant_value}
use Rattle.kmip_ttlv_base.specs.Values.{struct_value, values_of}
use Rattle.kmip_ttlv_base.specs.Forms.{Form, struct, enum, int32, any_number, Fields, no_fields, field}
use Rattle.kmip_ttlv_base.specs.Forms.{Variants, no_variants, variant, Content, unit, wrapped}
use Rattle.kmip_ttlv_reader.specs.Steps.{Outcome, gives, ends_early, fails}
use Rattle.kmip_ttlv_reader.specs.Outcomes.{root_outcome}

-- ---- messages

-- the number of an uppercase hexadecimal digit
abbrev pub digit : ℕ → ℕ
digit c = if nat_lt c 65 then c - 48 else c - 55

-- the bytes that digits are, two for each
abbrev pub bytes_of : List ℕ → List ℕ
bytes_of [] = []
bytes_of (a ∷ []) = []
bytes_of (a ∷ b ∷ rest) = (16 * digit a + digit b) ∷ bytes_of rest

-- ---- what a message is read as

-- an error, so many bytes from the first, within structures of these tags, at an item of this tag and type
abbrev pub error_at : Kind → ℕ → List ℕ → ℕ → TtlvType → Outcome Value
error_at why offset parents tag typ =
    fails record { why = why; place = record { offset = Some offset; parents = parents; tag = Some tag; typ = Some typ } }

-- the same at an item of no type
abbrev pub error_at_code : Kind → ℕ → List ℕ → ℕ → Outcome Value
error_at_code why offset parents tag =
    fails record { why = why; place = record { offset = Some offset; parents = parents; tag = Some tag; typ = None } }

-- an error before an item is read
abbrev pub error_at_start : Kind → Outcome Value
error_at_start why =
    fails record { why = why; place = record { offset = Some 0; parents = []; tag = None; typ = None } }

-- a struct 0xAAAAAA of these values
abbrev pub gives_struct : List Value → Outcome Value
gives_struct vs = gives (struct_value (codes "0xAAAAAA") (values_of vs))

-- the value of an Integer that is not negative
abbrev pub integer : ℕ → Value
integer n = i32_value (pos n)

-- the value of a LongInteger that is not negative
abbrev pub long_integer : ℕ → Value
long_integer n = i64_value (pos n)

-- an item that goes past the end of the structure around it, which is so far from the first byte
abbrev pub overflow_at : ℕ → Kind
overflow_at end = malformed (faults.Overflow record { 0 = end })

-- ---- rows

-- the form reads the message as this
abbrev pub Row : Form → List ℕ → Outcome Value → Type 0
Row s message outcome = root_outcome s (bytes_of message) ≡ outcome

-- the form reads so many first bytes of the message as an early end
abbrev pub CutRow : Form → List ℕ → ℕ → Type 0
CutRow s message n = root_outcome s (take n (bytes_of message)) ≡ ends_early

-- the form reads the message as an error in words that the row leaves open, at this place
abbrev pub OtherRow : Form → List ℕ → (Kind → Outcome Value) → Type 0
OtherRow s message at = (words : List ℕ) × Row s message (at (mismatch (other_cause words)))

-- the form doesn't read the message as this
abbrev pub NotRow : Form → List ℕ → Outcome Value → Type 0
NotRow s message outcome = Row s message outcome → ⊥

-- ---- forms

-- a struct of this tag, after whose fields others may come
abbrev pub structure : List ℕ → Fields → Form
structure name fs = struct name fs false

-- a struct 0xAAAAAA of one field 0xBBBBBB
abbrev pub single : Form → Form
single s = structure (codes "0xAAAAAA") (field (codes "0xBBBBBB") s no_fields)

-- a struct 0xAAAAAA of two fields, 0xBBBBBB and 0xCCCCCC
abbrev pub pair : Form → Form → Form
pair s u = structure (codes "0xAAAAAA") (field (codes "0xBBBBBB") s (field (codes "0xCCCCCC") u no_fields))

-- the same of two fields of these names
abbrev pub named_pair : List ℕ → Form → List ℕ → Form → Form
named_pair n s m u = structure (codes "0xAAAAAA") (field n s (field m u no_fields))

-- a struct 0xAAAAAA of one Integer 0xBBBBBB, after which no other field may come
abbrev pub closed : Form
closed = struct (codes "0xAAAAAA") (field (codes "0xBBBBBB") int32 no_fields) true

-- a struct 0xAAAAAA of three Integers, 0xBBBBBB, 0xCCCCCC and 0xDDDDDD
abbrev pub three_integers : Form
three_integers =
    structure (codes "0xAAAAAA") (
    field (codes "0xBBBBBB") int32 (
    field (codes "0xCCCCCC") int32 (
    field (codes "0xDDDDDD") int32 no_fields)))

-- variants of two contents
abbrev pub either : List ℕ → Content → List ℕ → Content → Variants
either n c m d = variant n c (variant m d no_variants)

-- one variant
abbrev pub only : List ℕ → Content → Variants
only n c = variant n c no_variants

-- variants of an Integer each
abbrev pub numbers : List ℕ → List ℕ → Variants
numbers n m = either n (wrapped int32) m (wrapped int32)

-- an enum 0xAAAAAA
abbrev pub enum_in_a : Variants → Form
enum_in_a vs = enum (codes "0xAAAAAA") vs

-- an enum 0xBBBBBB
abbrev pub enum_in_b : Variants → Form
enum_in_b vs = enum (codes "0xBBBBBB") vs

-- an enum 0xCCCCCC
abbrev pub enum_in_c : Variants → Form
enum_in_c vs = enum (codes "0xCCCCCC") vs

-- a struct 0xAAAAAA of an enum in the field 0xCCCCCC
abbrev pub alone : Variants → Form
alone vs = structure (codes "0xAAAAAA") (field (codes "0xCCCCCC") (enum_in_c vs) no_fields)

-- an enum that has the number 1 alone
abbrev pub one_or_none : Form
one_or_none = enum_in_b (only (codes "0x00000001") unit)

-- an enum that has the number 7 alone
abbrev pub seven_or_none : Form
seven_or_none = enum_in_c (only (codes "0x00000007") unit)

-- an enum in 0xCCCCCC after one in 0xBBBBBB
abbrev pub behind : Variants → Form
behind vs = pair one_or_none (enum_in_c vs)

-- an enum in 0xCCCCCC after an Enumeration of any number in 0xBBBBBB
abbrev pub behind_any : Variants → Form
behind_any vs = pair any_number (enum_in_c vs)

-- an enum in 0xCCCCCC after another form in 0xBBBBBB
abbrev pub behind_form : Form → Variants → Form
behind_form s vs = pair s (enum_in_c vs)

-- ---- messages that several rows have

-- an Enumeration 1 in 0xBBBBBB and an Integer 7 in 0xCCCCCC
abbrev pub one_and_seven : List ℕ
one_and_seven = codes "AAAAAA0100000020BBBBBB05000000040000000100000000CCCCCC02000000040000000700000000"

-- that message: the variant 1, and the second field's variant of this name with the 7
abbrev pub gives_seven : List ℕ → Outcome Value
gives_seven vname =
    gives_struct (unit_variant_value (codes "0xBBBBBB") (codes "0x00000001")
    ∷ newtype_variant_value (codes "0xCCCCCC") vname (integer 7)
    ∷ [])

-- that message: the number 1, and the second field's variant of this name with the 7
abbrev pub gives_seven_behind_any : List ℕ → Outcome Value
gives_seven_behind_any vname =
    gives_struct (u32_value 1 ∷ newtype_variant_value (codes "0xCCCCCC") vname (integer 7) ∷ [])
