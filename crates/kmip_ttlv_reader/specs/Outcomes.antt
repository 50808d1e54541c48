-- What bytes are read as by a form: one total function. Each line is a step, in the order of reading, and the first
-- that fails is the error. `X_there` reads X, or the bytes end early; `X_wanted` checks X, or is an error. In it b are all
-- bytes, o is the tag of the innermost struct, k are the texts stored, p is an offset and e where the structure around it
-- ends; t is an item's type and n its length. `run_outcome` and `rest_outcome` take a bound for the recursion first, the
-- number of bytes and one, which is never reached: an item has eight bytes at least.
use Rattle.std.specs.Prelude.{ℕ, zero, suc, ◌+◌, Bool, false, List, [], ◌∷◌, ◌++◌, length, take, drop, codes}
use Rattle.std.specs.Prelude.{Option, Some, None, ◌==◌, ◌&&◌, if◌then◌else◌, nat_lt}
use Rattle.kmip_ttlv_types.specs.declared.typ.TtlvType.{TtlvType}
use Rattle.kmip_ttlv_types.specs.declared.typ.TtlvType.TheVariants.{Structure, Integer, LongInteger, BigInteger}
use Rattle.kmip_ttlv_types.specs.declared.typ.TtlvType.TheVariants.{Enumeration, Boolean, TextString, ByteString}
use Rattle.kmip_ttlv_types.specs.declared.typ.TtlvType.TheVariants.{DateTime, Interval}
use Rattle.kmip_ttlv_types.specs.declared.field.FieldType.{FieldType}
use Rattle.kmip_ttlv_types.specs.declared.field.FieldType.TheVariants as parts
use Rattle.kmip_ttlv_types.specs.Digits.{tag_text}
use Rattle.kmip_ttlv_types.specs.ItemTypes.{type_of, is_structure, fixed_length}
use Rattle.kmip_ttlv_types.specs.Leaves.{is_valid}
use Rattle.kmip_ttlv_types.specs.Names.{tag_of}
use Rattle.kmip_ttlv_types.specs.Places.{tag_at, code_at, length_at, size}
use Rattle.kmip_ttlv_base.specs.declared.error.MalformedTtlvError.TheVariants as faults
use Rattle.kmip_ttlv_base.specs.Errors.{malformed, mismatch, invalid_tag, missing_identifier}
use Rattle.kmip_ttlv_base.specs.Errors.{other_cause, unexpected_tag, unexpected_type}
use Rattle.kmip_ttlv_base.specs.Values.{Value, none_value, some_value, seq_value, struct_value, newtype_value}
use Rattle.kmip_ttlv_base.specs.Values.{unit_variant_value, newtype_variant_value, tuple_variant_value, Values}
use Rattle.kmip_ttlv_base.specs.Values.{no_values, value}
use Rattle.kmip_ttlv_base.specs.Forms.{Form, struct, option, seq, newtype, enum, int32, int64, boolean, text, octets}
use Rattle.kmip_ttlv_base.specs.Forms.{date_time, interval, big_integer, Fields, no_fields, field, any_items, Variants, no_variants, variant}
use Rattle.kmip_ttlv_base.specs.Forms.{Content, unit, wrapped, tuple, Forms, no_forms, form}
use Rattle.kmip_ttlv_reader.specs.ReadFaults.{at_item, in_struct, bad_code, overflow, at_first, too_deep}
use Rattle.kmip_ttlv_reader.specs.Steps.{Fault, Outcome, gives, ends_early, fails, ◌>>=◌, ◌>>◌, must, must_not, within}
use Rattle.kmip_ttlv_reader.specs.Steps.{reads, mapped, Reader}
use Rattle.kmip_ttlv_reader.specs.Rules.{Choice, chosen, number_decides, choice_invalid, choice}
use Rattle.kmip_ttlv_reader.specs.Reads.{is_option, is_struct, has_tag, names_tag, has_fields, takes, decoded_leaf, stored_after_leaf}
use Rattle.kmip_ttlv_reader.specs.Reads.{is_number_type, number_text, first_named, is_full, leaf_under, most_levels}

-- ---- an item's header

-- the type that a code is
abbrev pub typed : List ℕ → ℕ → Option TtlvType → Outcome TtlvType
typed b p (Some t) = gives t
typed b p None = fails (bad_code b p)

-- the type of the item at p, in its fourth byte
unfoldable pub type_there : List ℕ → ℕ → Outcome TtlvType
type_there b p = if nat_lt (length b) (p + 4) then ends_early else typed b p (type_of (code_at b p))

-- the same for a tag's number, if the name has one
abbrev pub tagged : List ℕ → List ℕ → ℕ → TtlvType → Option ℕ → Outcome (Unit {0})
tagged name b p t None = fails (at_item b p 4 t (mismatch (invalid_tag name)))
tagged name b p t (Some n) =
    must (n == tag_at b p) (fails (at_item b p 4 t (mismatch (unexpected_tag n (tag_at b p)))))

-- the item's tag is the one that the name is
unfoldable pub tag_wanted : List ℕ → List ℕ → ℕ → TtlvType → Outcome (Unit {0})
tag_wanted name b p t = tagged name b p t (tag_of name)

-- the length of the item at p, in its next four bytes
unfoldable pub length_there : List ℕ → ℕ → Outcome ℕ
length_there b p = if nat_lt (length b) (p + 8) then ends_early else gives (length_at b p)

-- the item is a Structure
unfoldable pub structure_wanted : List ℕ → ℕ → TtlvType → Outcome (Unit {0})
structure_wanted b p t =
    must (is_structure t) (fails (at_item b p 4 t (malformed (faults.UnexpectedType Structure t))))

-- the item from p to q goes no further than the structure around it
unfoldable pub inside : List ℕ → ℕ → ℕ → TtlvType → ℕ → Outcome (Unit {0})
inside b p e t q = must_not (nat_lt e q) (fails (overflow b p e t q))

-- the place after the item's padding
unfoldable pub end_there : List ℕ → ℕ → TtlvType → ℕ → Outcome ℕ
end_there b p t n = if nat_lt (length b) (p + size t n) then ends_early else gives (p + size t n)

-- ---- leaves

-- the item's length is the one that is wanted, if one is; the error's offset is so many bytes from its first one
abbrev pub length_wanted : List ℕ → ℕ → ℕ → TtlvType → Option ℕ → Outcome (Unit {0})
length_wanted b p after t None = gives tt
length_wanted b p after t (Some w) =
    must (length_at b p == w) (fails (at_item b p after t (malformed (faults.InvalidLength w (length_at b p) t))))

-- the content of a leaf, and the place after its padding
unfoldable pub content_there : List ℕ → ℕ → TtlvType → Outcome (List ℕ × ℕ)
content_there b p t = do
  n ← length_there b p
  length_wanted b p 8 t (fixed_length t)
  must_not (nat_lt (length b) (p + 8 + n)) (ends_early)
  must (is_valid t (take n (drop (p + 8) b))) (fails (at_item b p (8 + n) t (malformed (faults.InvalidValue t))))
  q ← end_there b p t n
  gives (take n (drop (p + 8) b), q)

-- the type that an error names as the expected one
abbrev pub first_type : Form → TtlvType
first_type int32 = Integer
first_type int64 = LongInteger
first_type boolean = Boolean
first_type text = TextString
first_type octets = ByteString
first_type date_time = DateTime
first_type interval = Interval
first_type big_integer = BigInteger
first_type _ = Enumeration

-- the item has a type that is taken
unfoldable pub type_wanted : Bool → TtlvType → List ℕ → ℕ → TtlvType → Outcome (Unit {0})
type_wanted takes wanted b p t = must takes (fails (at_item b p 4 t (mismatch (unexpected_type wanted t))))

-- a leaf: its type, its length, its content, and then whether it goes too far
unfoldable pub leaf_outcome : Form → Reader Value
leaf_outcome s b o k p e = do
  t ← type_there b p
  type_wanted (takes s t) (first_type s) b p t
  c ← content_there b p t
  inside b p e t c.1
  reads (decoded_leaf s c.0) (stored_after_leaf s record { tag = tag_at b p; typ = t; content = c.0 } k) c.1

-- ---- structures and what they contain

-- where the content of a struct's item ends: its type, its tag, that it is a Structure, and its length
unfoldable pub opened : List ℕ → List ℕ → ℕ → Outcome ℕ
opened name b p = do
  t ← type_there b p
  tag_wanted name b p t
  structure_wanted b p t
  n ← length_there b p
  gives (p + 8 + n)

-- the place after an item: a structure is passed over by its length
unfoldable pub item_end : List ℕ → ℕ → TtlvType → Outcome ℕ
item_end b p t =
    if is_structure t then (length_there b p >>= end_there b p t) else (content_there b p t >>= λ c. gives c.1)

-- an item after the fields, which is ignored: the place after it
unfoldable pub ignored : Fields → Bool → List ℕ → ℕ → ℕ → ℕ → Outcome ℕ
ignored fs deny b o p e = do
  t ← type_there b p
  must (has_fields fs) (fails (at_item b p 4 t (mismatch missing_identifier)))
  must_not (names_tag fs (tag_at b p)) (fails (in_struct (p + 4) o (codes "duplicate field")))
  must_not (deny) (fails (in_struct (p + 4) o (codes "unknown field")))
  q ← item_end b p t
  inside b p e t q
  gives q

-- the items after the fields, up to the end, in at most so many steps
unfoldable pub rest_outcome : ℕ → Fields → Bool → List ℕ → ℕ → ℕ → ℕ → Outcome ℕ
rest_outcome zero fs deny b o p e = ends_early
rest_outcome (suc n) fs deny b o p e =
    if nat_lt p e then (ignored fs deny b o p e >>= λ q. rest_outcome n fs deny b o q e) else gives p

-- all that a structure contains: the fields, and what may follow them
unfoldable pub all_outcome : Fields → Bool → Reader Values → Reader Values
all_outcome fs deny read b o k p e = do
  rs ← read b o k p e
  q ← rest_outcome (suc (length b)) fs deny b o rs.next e
  reads rs.value rs.stored q

-- a struct: a fault in it has its tag as a parent; whether it goes too far is asked last
unfoldable pub struct_outcome : List ℕ → Fields → Bool → Reader Values → Reader Values
struct_outcome name fs deny read b o k p e = do
  stop ← opened name b p
  rs ← within (tag_at b p) (all_outcome fs deny read b (tag_at b p) k (p + 8) stop)
  inside b p e Structure stop
  reads rs.value rs.stored stop

-- a field: a struct goes by its own name, any other by the field's, and an option may be left out
unfoldable pub field_outcome : List ℕ → Form → Reader Value → Reader Value
field_outcome name s read b o k p e =
    if p == e then (if is_option s then reads none_value k p else fails (in_struct e o (codes "missing field"))) else
    if is_struct s then read b o k p e else
    (type_there b p >>= λ t.
    if has_tag name (tag_at b p) then read b o k p e else
    if is_option s then reads none_value k p else
    (tag_wanted name b p t >> read b o k p e))

-- the next item is there, with the first one's tag and type
unfoldable pub goes_on : List ℕ → ℕ → ℕ → ℕ → Outcome Bool
goes_on b first p e =
    if p == e then gives false else
    (type_there b p >>= λ t. gives ((tag_at b p == tag_at b first) && (code_at b p == code_at b first)))

-- a sequence after its first item, in at most so many steps
unfoldable pub run_outcome : ℕ → Reader Value → ℕ → Reader Values
run_outcome zero read first b o k p e = ends_early
run_outcome (suc n) read first b o k p e =
    goes_on b first p e >>= λ more.
    if more
    then (read b o k p e >>= λ r.
    run_outcome n read first b o r.stored r.next e >>= λ rs.
    reads (value r.value rs.value) rs.stored rs.next)
    else reads no_values k p

-- a sequence: its first item, and then as long as the next is like that one
unfoldable pub seq_outcome : Reader Value → Reader Values
seq_outcome read b o k p e = do
  r ← read b o k p e
  rs ← run_outcome (suc (length b)) read p b o r.stored r.next e
  reads (value r.value rs.value) rs.stored rs.next

-- ---- items of any tags and types

-- what reads an item and gives the place after it
abbrev pub ItemReader : Type 0
ItemReader = List ℕ → (pos end : ℕ) → Outcome (Value × ℕ)

-- a leaf
unfoldable pub any_leaf_outcome : TtlvType → ItemReader
any_leaf_outcome t b p e = do
  c ← content_there b p t
  must (is_full t c.0) (fails (at_item b p (8 + length_at b p) t (malformed (faults.InvalidValue t))))
  inside b p e t c.1
  gives (leaf_under (tag_at b p) t c.0, c.1)

-- items one after the other, up to the end, in at most so many steps
unfoldable pub each_outcome : ℕ → ItemReader → List ℕ → (pos end : ℕ) → Outcome Values
each_outcome zero read b p e = ends_early
each_outcome (suc n) read b p e =
    if nat_lt p e
    then (read b p e >>= λ x.
    each_outcome n read b x.1 e >>= λ vs.
    gives (value x.0 vs))
    else gives no_values

-- a structure of items that are read so: a fault in it has its tag as a parent; whether it goes too far is asked last
unfoldable pub node_outcome : ItemReader → ItemReader
node_outcome read b p e = do
  n ← length_there b p
  vs ← within (tag_at b p) (each_outcome (suc (length b)) read b (p + 8) (p + 8 + n))
  inside b p e Structure (p + 8 + n)
  gives (struct_value (tag_text (tag_at b p)) vs, p + 8 + n)

-- an item, with all that is in it, of so many levels at most
unfoldable pub any_outcome : (levels : ℕ) → ItemReader
any_outcome zero b p e = type_there b p >>= λ t. fails (too_deep b p t)
any_outcome (suc d) b p e =
    type_there b p >>= λ t. if is_structure t then node_outcome (any_outcome d) b p e else any_leaf_outcome t b p e

-- ---- enums

-- the error if the variant that a number names has content; its offset is after the item
abbrev pub named_content : List ℕ → ℕ → TtlvType → FieldType → Fault
named_content b p t actual = at_item b p 16 t (malformed (faults.UnexpectedTtlvField parts.Tag actual))

-- the variant that a number names is there, and has no content
abbrev pub unit_wanted : List ℕ → ℕ → ℕ → TtlvType → Option Content → Outcome (Unit {0})
unit_wanted b o p t None = fails (in_struct (p + 16) o (codes "unknown variant"))
unit_wanted b o p t (Some unit) = gives tt
unit_wanted b o p t (Some (wrapped s)) = fails (named_content b p t parts.LengthAndValue)
unit_wanted b o p t (Some (tuple ss)) = fails (named_content b p t parts.Length)

-- an enum by a number: its type, its length, its content, the variant that it names; its text is stored
unfoldable pub number_outcome : List ℕ → Variants → TtlvType → Reader Value
number_outcome name vs t b o k p e = do
  type_wanted (is_number_type t) Enumeration b p t
  length_there b p
  length_wanted b p 4 t (Some 4)
  c ← content_there b p t
  unit_wanted b o p t (first_named (number_text c.0) vs)
  inside b p e t c.1
  reads (unit_variant_value name (number_text c.0)) (k ++ record { tag = tag_at b p; text = number_text c.0 } ∷ []) c.1

-- a structure whose items the parts use up
unfoldable pub tuple_outcome : TtlvType → Reader Values → Reader Values
tuple_outcome t read b o k p e = do
  structure_wanted b p t
  n ← length_there b p
  rs ← read b o k (p + 8) (p + 8 + n)
  must_not (nat_lt rs.next (p + 8 + n)) (fails (in_struct rs.next o (codes "too many items")))
  inside b p e t (p + 8 + n)
  reads rs.value rs.stored (p + 8 + n)

-- the variant that a rule chose, by its index, if one did
abbrev pub picked : Choice → List ℕ → ℕ → TtlvType → Outcome (Option ℕ)
picked (chosen i) b p t = gives (Some i)
picked number_decides b p t = gives None
picked (choice_invalid m) b p t = fails (at_item b p 4 t (mismatch m))

-- what reads the variant at an index, or the one that a number names
abbrev pub by_index : Option ℕ → (ℕ → TtlvType → Reader Value) → (TtlvType → Reader Value) → TtlvType → Reader Value
by_index (Some i) at number t = at i t
by_index None at number t = number t

-- an enum: the rules of its variants, in their order, and else the item's number
unfoldable pub enum_outcome : List ℕ → Variants → (ℕ → TtlvType → Reader Value) → Reader Value
enum_outcome name vs at b o k p e = do
  t ← type_there b p
  i ← picked (choice vs k t) b p t
  by_index i at (number_outcome name vs) t b o k p e

-- an item of a tuple, which has to be there
unfoldable pub part_outcome : Reader Value → Reader Value
part_outcome read b o k p e = if p == e then fails (in_struct e o (codes "too few items")) else read b o k p e

-- ---- forms

unfoldable mutual
  -- what a form reads
  pub outcome : Form → Reader Value
  outcome (struct name fs deny) b o k p e =
      mapped (struct_value name) (struct_outcome name fs deny (fields_outcome fs) b o k p e)
  outcome (option s) b o k p e = mapped some_value (outcome s b o k p e)
  outcome (seq s) b o k p e = mapped seq_value (seq_outcome (outcome s) b o k p e)
  outcome (newtype name s) b o k p e = mapped (newtype_value name) (outcome s b o k p e)
  outcome (enum name vs) b o k p e = enum_outcome name vs (variant_outcome name vs) b o k p e
  outcome s b o k p e = leaf_outcome s b o k p e

  -- the fields, one after the other
  pub fields_outcome : Fields → Reader Values
  fields_outcome no_fields b o k p e = reads no_values k p
  fields_outcome (field name s fs) b o k p e =
      field_outcome name s (outcome s) b o k p e >>= λ r.
      fields_outcome fs b o r.stored r.next e >>= λ rs.
      reads (value r.value rs.value) rs.stored rs.next
  fields_outcome any_items b o k p e = each_outcome (suc (length b)) (any_outcome most_levels) b p e >>= λ vs. reads vs k e

  -- the variant at this index, at an item of this type
  pub variant_outcome : List ℕ → Variants → ℕ → TtlvType → Reader Value
  variant_outcome name no_variants i t b o k p e = ends_early
  variant_outcome name (variant vname c vs) zero t b o k p e = content_outcome name vname c t b o k p e
  variant_outcome name (variant vname c vs) (suc i) t b o k p e = variant_outcome name vs i t b o k p e

  -- the content of a variant that a rule chose
  pub content_outcome : List ℕ → List ℕ → Content → TtlvType → Reader Value
  content_outcome name vname unit t b o k p e =
      fails (at_item b p 4 t (malformed (faults.UnexpectedTtlvField parts.Length parts.Tag)))
  content_outcome name vname (wrapped s) t b o k p e = mapped (newtype_variant_value name vname) (outcome s b o k p e)
  content_outcome name vname (tuple ss) t b o k p e =
      mapped (tuple_variant_value name vname) (tuple_outcome t (forms_outcome ss) b o k p e)

  -- the parts of a tuple, one after the other
  pub forms_outcome : Forms → Reader Values
  forms_outcome no_forms b o k p e = reads no_values k p
  forms_outcome (form s ss) b o k p e =
      part_outcome (outcome s) b o k p e >>= λ r.
      forms_outcome ss b o r.stored r.next e >>= λ rs.
      reads (value r.value rs.value) rs.stored rs.next

-- ---- whole messages: structs, with options and newtypes around them

-- the name is a tag
abbrev pub named_first : List ℕ → Option ℕ → Outcome (Unit {0})
named_first name None = fails (at_first (mismatch (invalid_tag name)))
named_first name (Some n) = gives tt

-- the struct that a message is: no structure is around it
unfoldable pub first_outcome : List ℕ → Fields → Bool → Reader Values → List ℕ → Outcome Values
first_outcome name fs deny read b = do
  named_first name (tag_of name)
  stop ← opened name b 0
  rs ← within (tag_at b 0) (all_outcome fs deny read b (tag_at b 0) [] 8 stop)
  gives rs.value

-- what a message is read as by its form: no other form can stand for one
unfoldable pub root_outcome : Form → List ℕ → Outcome Value
root_outcome (struct name fs deny) b =
    first_outcome name fs deny (fields_outcome fs) b >>= λ vs. gives (struct_value name vs)
root_outcome (option s) b = root_outcome s b >>= λ v. gives (some_value v)
root_outcome (newtype name s) b = root_outcome s b >>= λ v. gives (newtype_value name v)
root_outcome (seq s) b = fails (at_first (mismatch (other_cause (codes "no struct"))))
root_outcome (enum name vs) b = fails (at_first (mismatch (other_cause (codes "no struct"))))
root_outcome _ b = fails (at_first (malformed (faults.UnexpectedTtlvField parts.Tag parts.LengthAndValue)))
