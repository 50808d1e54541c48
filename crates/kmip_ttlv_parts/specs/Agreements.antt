-- Which value is decoded if another was encoded: what the one is encoded as agrees with a form as the other.
use Rattle.std.specs.Prelude.{◌≡◌, ℕ, zero, suc, ◌<◌, ◌^◌, ◌%◌, Bool, true, false, ◌==◌, ◌&&◌, ◌||◌, List, ◌∷◌, [], ◌++◌}
use Rattle.std.specs.Prelude.{Option, Some, None}
use Rattle.kmip_ttlv_types.specs.declared.typ.TtlvType.{TtlvType}
use Rattle.kmip_ttlv_types.specs.declared.typ.TtlvType.TheVariants.{Structure, Integer, LongInteger, BigInteger}
use Rattle.kmip_ttlv_types.specs.declared.typ.TtlvType.TheVariants.{Enumeration, Boolean, TextString, ByteString}
use Rattle.kmip_ttlv_types.specs.declared.typ.TtlvType.TheVariants.{DateTime, Interval}
use Rattle.kmip_ttlv_types.specs.Digits.{tag_text}
use Rattle.kmip_ttlv_types.specs.ItemTypes.{code}
use Rattle.kmip_ttlv_types.specs.Names.{number, transparent_name}
use Rattle.kmip_ttlv_base.specs.Values.{Value, boolean_value, i8_value, i16_value, i32_value, u32_value, i64_value}
use Rattle.kmip_ttlv_base.specs.Values.{u64_value, date_time_value, interval_value, text_value, bytes_value, big_integer_value}
use Rattle.kmip_ttlv_base.specs.Values.{none_value, some_value, seq_value, struct_value, newtype_value}
use Rattle.kmip_ttlv_base.specs.Values.{unit_variant_value, newtype_variant_value, tuple_variant_value, Values}
use Rattle.kmip_ttlv_base.specs.Values.{no_values, value}
use Rattle.kmip_ttlv_base.specs.Tags.{wrapper_name}
use Rattle.kmip_ttlv_base.specs.Forms.{Form, struct, option, seq, newtype, enum, text, any_number, Fields, no_fields, any_items}
use Rattle.kmip_ttlv_base.specs.Forms.{field, Variants, variant, Content, wrapped, tuple, Forms, no_forms, form}
use Rattle.kmip_ttlv_ser.specs.declared.pending.PendingTag.{PendingTag}
use Rattle.kmip_ttlv_ser.specs.declared.pending.PendingTag.TheVariants.{Nothing, Plain}
use Rattle.kmip_ttlv_ser.specs.WrittenItems.{take_tag, pending_tag, pending_after, is_wrapper, without_override}
use Rattle.kmip_ttlv_reader.specs.TagValues.{TagValue}
use Rattle.kmip_ttlv_reader.specs.Rules.{choice, chosen}
use Rattle.kmip_ttlv_reader.specs.Reads.{form_of_type, has_tag, is_struct, most_levels}
use Rattle.kmip_ttlv_parts.specs.Returns.{ComesBack, NamesUnit, text_of_number}

-- the tag and the type that an item begins with
pub record Head : Type 0 where
  pub tag : ℕ
  pub typ : TtlvType

-- there is a next item, and the name is that of its tag
abbrev pub is_named : List ℕ → Option Head → Bool
is_named name None = false
is_named name (Some x) = has_tag name x.tag

-- there is a next item, of this one's tag and type
abbrev pub is_alike : Head → Option Head → Bool
is_alike x None = false
is_alike x (Some y) = (y.tag == x.tag) && (code y.typ == code x.typ)

-- a field of this name and form reads from an item of this head: a struct goes by its own name
abbrev pub is_field_of : List ℕ → Form → Head → Bool
is_field_of name s x = is_struct s || has_tag name x.tag

-- a sequence, or a value around one: it was decoded from all items in a row that are alike
abbrev pub is_run : Value → Bool
is_run (seq_value vs) = true
is_run (some_value v) = is_run v
is_run (newtype_value name v) = is_run v
is_run (newtype_variant_value name vname v) = is_run v
is_run _ = false

-- the next item would be read into a sequence that is meant to end
abbrev pub goes_on : Value → Head → Option Head → Bool
goes_on v x y = is_run v && is_alike x y

-- the type of the leaf that a value is encoded as
abbrev pub leaf_type : Value → TtlvType
leaf_type (boolean_value b) = Boolean
leaf_type (i8_value z) = Integer
leaf_type (i16_value z) = Integer
leaf_type (i32_value z) = Integer
leaf_type (u32_value n) = Enumeration
leaf_type (i64_value z) = LongInteger
leaf_type (u64_value n) = DateTime
leaf_type (date_time_value z) = DateTime
leaf_type (interval_value n) = Interval
leaf_type (text_value s) = TextString
leaf_type (bytes_value s) = ByteString
leaf_type (big_integer_value s) = BigInteger
leaf_type _ = Structure

-- a text that a form reads as a text is stored under its tag, and so is the text of a number that a form reads as any
-- number; no other leaf is
abbrev pub with_value : Form → ℕ → Value → List TagValue → List TagValue
with_value text t (text_value s) k = k ++ record { tag = t; text = s } ∷ []
with_value any_number t (u32_value n) k = k ++ record { tag = t; text = text_of_number n } ∷ []
with_value _ t _ k = k

-- no tag is pending, as at the start of a message and of each field
abbrev pub none_pending : PendingTag
none_pending = Nothing

-- under the first pending tag the value is encoded as the other is under the second
pub data Wraps : PendingTag → Value → PendingTag → Value → Type 0 where
  some_wraps : {h : PendingTag} {w : Value} → Wraps h (some_value w) h w
  newtype_wraps :
      {h : PendingTag} {name inner : List ℕ} {t : ℕ} {w : Value}
      → transparent_name name ≡ Some inner
      → take_tag h inner ≡ Some t
      → Wraps h (newtype_value name w) (Plain t) w
  variant_wraps :
      {h : PendingTag} {name vname : List ℕ} {t : ℕ} {w : Value}
      → is_wrapper vname ≡ true
      → take_tag h (without_override name) ≡ Some t
      → Wraps h (newtype_variant_value name vname w) (pending_after h name t) w

-- under the pending tag the value is encoded as a Structure of this tag, around what these values are encoded as
pub data EncodesStructure : PendingTag → Value → ℕ → Values → Type 0 where
  struct_encodes :
      {h : PendingTag} {name : List ℕ} {t : ℕ} {ws : Values}
      → take_tag h name ≡ Some t
      → EncodesStructure h (struct_value name ws) t ws
  newtype_encodes :
      {h : PendingTag} {name : List ℕ} {t : ℕ} {w : Value}
      → transparent_name name ≡ None
      → take_tag h name ≡ Some t
      → EncodesStructure h (newtype_value name w) t (value w no_values)
  variant_encodes :
      {h : PendingTag} {name vname : List ℕ} {t : ℕ} {w : Value}
      → is_wrapper vname ≡ false
      → take_tag h (without_override (without_override name)) ≡ Some t
      → EncodesStructure h (newtype_variant_value name vname w) t (value w no_values)
  tuple_encodes :
      {h : PendingTag} {name vname : List ℕ} {t : ℕ} {ws : Values}
      → take_tag h (without_override name) ≡ Some t
      → EncodesStructure h (tuple_variant_value name vname ws) t ws

-- under the pending tag the value is encoded as an Enumeration of this tag and number
pub data IsNumbered : PendingTag → Value → ℕ → ℕ → Type 0 where
  unit_is_numbered :
      {h : PendingTag} {name vname : List ℕ} {t n : ℕ}
      → take_tag h name ≡ Some t
      → number vname ≡ Some n
      → IsNumbered h (unit_variant_value name vname) t n
  number_is_numbered :
      {h : PendingTag} {t n : ℕ}
      → pending_tag h ≡ Some t
      → n < 2 ^ 32
      → IsNumbered h (u32_value n) t n

-- the variant at this index has this name and content
pub data HasVariant : Variants → ℕ → List ℕ → Content → Type 0 where
  first_variant : {name : List ℕ} {c : Content} {vs : Variants} → HasVariant (variant name c vs) zero name c
  later_variant :
      {name other : List ℕ} {c d : Content} {vs : Variants} {i : ℕ}
      → HasVariant vs i name c
      → HasVariant (variant other d vs) (suc i) name c

mutual
  -- an item of any tag and type, of so many levels at most, whose value is encoded as an item of this head and read as
  -- itself: a leaf in its wrapper, or a structure of such items
  pub data IsItem : (levels : ℕ) → Value → Head → Type 0 where
    is_leaf :
        {d t : ℕ} {v : Value}
        → t % 2 ^ 24 ≡ t
        → ComesBack (form_of_type (leaf_type v)) v v
        → IsItem (suc d) (newtype_value (wrapper_name t) v) record { tag = t; typ = leaf_type v }
    is_structure :
        {d t : ℕ} {vs : Values} {y : Option Head}
        → t % 2 ^ 24 ≡ t
        → AreItems d vs y
        → IsItem (suc d) (struct_value (tag_text t) vs) record { tag = t; typ = Structure }

  -- such items one after the other, the first of this head, if there are any
  pub data AreItems : (levels : ℕ) → Values → Option Head → Type 0 where
    are_none : {d : ℕ} → AreItems d no_values None
    are_more :
        {d : ℕ} {v : Value} {vs : Values} {x : Head} {y : Option Head}
        → IsItem d v x
        → AreItems d vs y
        → AreItems d (value v vs) (Some x)

mutual
  -- With these texts stored before and those after: under the pending tag the value is encoded as items, the first of
  -- this head, from which the form reads the other value.
  pub data Agrees : Form → List TagValue → PendingTag → Value → Head → Value → List TagValue → Type 0 where
    -- a leaf under the pending tag
    leaf_agrees :
        {s : Form} {k : List TagValue} {h : PendingTag} {w v : Value} {t : ℕ}
        → pending_tag h ≡ Some t
        → ComesBack s w v
        → Agrees s k h w record { tag = t; typ = leaf_type w } v (with_value s t w k)
    -- what is encoded within a wrapper
    inner_agrees :
        {s : Form} {k k' : List TagValue} {h i : PendingTag} {w u v : Value} {x : Head}
        → Wraps h w i u
        → Agrees s k i u x v k'
        → Agrees s k h w x v k'
    -- an option and a newtype wrap what their form reads
    option_agrees :
        {s : Form} {k k' : List TagValue} {h : PendingTag} {w v : Value} {x : Head}
        → Agrees s k h w x v k'
        → Agrees (option s) k h w x (some_value v) k'
    newtype_agrees :
        {s : Form} {name : List ℕ} {k k' : List TagValue} {h : PendingTag} {w v : Value} {x : Head}
        → Agrees s k h w x v k'
        → Agrees (newtype name s) k h w x (newtype_value name v) k'
    -- a Structure of the struct's tag, whose items agree with the fields
    struct_agrees :
        {name : List ℕ} {fs : Fields} {deny : Bool} {k k' : List TagValue} {h : PendingTag} {w : Value} {t : ℕ} {ws vs : Values}
        {y : Option Head}
        → has_tag name t ≡ true
        → EncodesStructure h w t ws
        → FieldsAgree fs k ws y vs k'
        → Agrees (struct name fs deny) k h w record { tag = t; typ = Structure } (struct_value name vs) k'
    -- a rule chooses a variant, with which the same value agrees
    rule_agrees :
        {s : Form} {own name : List ℕ} {vs : Variants} {i : ℕ} {k k' : List TagValue} {h : PendingTag} {w v : Value}
        {x : Head}
        → choice vs k x.typ ≡ chosen i
        → HasVariant vs i name (wrapped s)
        → Agrees s k h w x v k'
        → Agrees (enum own vs) k h w x (newtype_variant_value own name v) k'
    -- a rule chooses a variant, with whose forms the items of a Structure agree
    tuple_agrees :
        {ss : Forms} {own name : List ℕ} {cs : Variants} {i : ℕ} {k k' : List TagValue} {h : PendingTag} {w : Value} {t : ℕ}
        {ws vs : Values} {y : Option Head}
        → choice cs k Structure ≡ chosen i
        → HasVariant cs i name (tuple ss)
        → EncodesStructure h w t ws
        → FormsAgree ss k ws y vs k'
        → Agrees (enum own cs) k h w record { tag = t; typ = Structure } (tuple_variant_value own name vs) k'
    -- a number chooses a unit; its text is stored
    number_agrees :
        {own : List ℕ} {vs : Variants} {k : List TagValue} {h : PendingTag} {w : Value} {t n : ℕ}
        → IsNumbered h w t n
        → NamesUnit vs k n
        → Agrees (enum own vs) k h w record { tag = t; typ = Enumeration } (unit_variant_value own (text_of_number n))
        (k ++ record { tag = t; text = text_of_number n } ∷ [])
    -- the elements of a sequence
    seq_agrees :
        {s : Form} {k k' : List TagValue} {h : PendingTag} {ws vs : Values} {x : Head}
        → RunAgrees s k h ws x vs k'
        → Agrees (seq s) k h (seq_value ws) x (seq_value vs) k'

  -- one value or more, all of this head, the first under the pending tag: each agrees with the form
  pub data RunAgrees : Form → List TagValue → PendingTag → Values → Head → Values → List TagValue → Type 0 where
    last_agrees :
        {s : Form} {k k' : List TagValue} {h : PendingTag} {w v : Value} {x : Head}
        → Agrees s k h w x v k'
        → RunAgrees s k h (value w no_values) x (value v no_values) k'
    next_agrees :
        {s : Form} {k k' k'' : List TagValue} {h : PendingTag} {w v : Value} {ws vs : Values} {x : Head}
        → Agrees s k h w x v k'
        → is_run v ≡ false
        → RunAgrees s k' Nothing ws x vs k''
        → RunAgrees s k h (value w ws) x (value v vs) k''

  -- the values, in order, agree with the fields; of their items, if there are any, the first has this head
  pub data FieldsAgree : Fields → List TagValue → Values → Option Head → Values → List TagValue → Type 0 where
    no_field_agrees : {k : List TagValue} → FieldsAgree no_fields k no_values None no_values k
    -- an empty sequence is encoded as nothing
    nothing_agrees :
        {fs : Fields} {k k' : List TagValue} {ws vs : Values} {y : Option Head}
        → FieldsAgree fs k ws y vs k'
        → FieldsAgree fs k (value (seq_value no_values) ws) y vs k'
    -- an option is left out if its name isn't the next item's
    absent_agrees :
        {name : List ℕ} {s : Form} {fs : Fields} {k k' : List TagValue} {ws vs : Values} {y : Option Head}
        → is_named name y ≡ false
        → FieldsAgree fs k ws y vs k'
        → FieldsAgree (field name (option s) fs) k ws y (value none_value vs) k'
    -- a value agrees with the field, and what follows a sequence isn't like it
    field_agrees :
        {name : List ℕ} {s : Form} {fs : Fields} {k k' k'' : List TagValue} {w v : Value} {ws vs : Values} {x : Head}
        {y : Option Head}
        → is_field_of name s x ≡ true
        → goes_on v x y ≡ false
        → Agrees s k Nothing w x v k'
        → FieldsAgree fs k' ws y vs k''
        → FieldsAgree (field name s fs) k (value w ws) (Some x) (value v vs) k''
    -- items of any tags and types agree with themselves
    any_items_agree : {k : List TagValue} {vs : Values} {y : Option Head} → AreItems most_levels vs y → FieldsAgree any_items k vs y vs k

  -- the values, in order, agree with the forms; of their items, if there are any, the first has this head
  pub data FormsAgree : Forms → List TagValue → Values → Option Head → Values → List TagValue → Type 0 where
    no_form_agrees : {k : List TagValue} → FormsAgree no_forms k no_values None no_values k
    form_agrees :
        {s : Form} {ss : Forms} {k k' k'' : List TagValue} {w v : Value} {ws vs : Values} {x : Head} {y : Option Head}
        → goes_on v x y ≡ false
        → Agrees s k Nothing w x v k'
        → FormsAgree ss k' ws y vs k''
        → FormsAgree (form s ss) k (value w ws) (Some x) (value v vs) k''

-- by itself, as a whole message, the one value agrees with the form as the other
abbrev pub MessageAgrees : Form → Value → Value → Type 0
MessageAgrees s w v = (x : Head) × (k : List TagValue) × Agrees s [] none_pending w x v k
