-- What a form reads from a list of items, by one rule for each way to read.
use Rattle.std.specs.Prelude.{◌≡◌, ℕ, suc, Bool, true, false, List, [], ◌∷◌, ◌++◌, Option, Some, None, ◌/◌, ◌%◌, ◌==◌}
use Rattle.std.specs.Prelude.{◌&&◌, ◌||◌, not, if◌then◌else◌, length}
use Rattle.std.specs.Int.{w32, w64, from_be_bytes, cast_signed}
use Rattle.std.specs.List.{flat_map}
use Rattle.std.specs.Str.{bytes_eq}
use Rattle.std.specs.Fmt.{digit_glyph}
use Rattle.kmip_ttlv_types.specs.declared.typ.TtlvType.{TtlvType}
use Rattle.kmip_ttlv_types.specs.declared.typ.TtlvType.TheVariants.{Structure, Integer, LongInteger, BigInteger}
use Rattle.kmip_ttlv_types.specs.declared.typ.TtlvType.TheVariants.{Enumeration, Boolean, TextString, ByteString}
use Rattle.kmip_ttlv_types.specs.declared.typ.TtlvType.TheVariants.{DateTime, Interval}
use Rattle.kmip_ttlv_types.specs.ItemTypes.{code, is_structure}
use Rattle.kmip_ttlv_types.specs.Leaves.{is_valid}
use Rattle.kmip_ttlv_types.specs.Items.{Raw, Splits, IsTextOf}
use Rattle.kmip_ttlv_types.specs.Digits.{tag_text}
use Rattle.kmip_ttlv_types.specs.Names.{tag_of}
use Rattle.kmip_ttlv_base.specs.Tags.{wrapper_name}
use Rattle.kmip_ttlv_base.specs.Values.{Value, boolean_value, i32_value, u32_value, i64_value, date_time_value, interval_value}
use Rattle.kmip_ttlv_base.specs.Values.{text_value, bytes_value, big_integer_value, none_value, some_value, seq_value, struct_value}
use Rattle.kmip_ttlv_base.specs.Values.{newtype_value, unit_variant_value, newtype_variant_value, tuple_variant_value}
use Rattle.kmip_ttlv_base.specs.Values.{Values, no_values, value}
use Rattle.kmip_ttlv_base.specs.Forms.{Form, struct, option, seq, newtype, enum, int32, int64, boolean, text, octets}
use Rattle.kmip_ttlv_base.specs.Forms.{date_time, interval, big_integer, any_number, Fields, no_fields, field, any_items, Variants, no_variants, variant}
use Rattle.kmip_ttlv_base.specs.Forms.{Content, unit, wrapped, tuple, Forms, no_forms, form}
use Rattle.kmip_ttlv_reader.specs.TagValues.{TagValue}
use Rattle.kmip_ttlv_reader.specs.Rules.{chosen, number_decides, choice}

-- the name is that of this tag
abbrev pub has_tag : List ℕ → ℕ → Bool
has_tag name t = is_number (tag_of name)
  where
    is_number : Option ℕ → Bool
    is_number None = false
    is_number (Some m) = m == t

-- the name is that of the first item's tag
abbrev pub names : List ℕ → List Raw → Bool
names name [] = false
names name (x ∷ xs) = has_tag name x.tag

-- the first item has this one's tag and type
abbrev pub is_like : Raw → List Raw → Bool
is_like h [] = false
is_like h (x ∷ xs) = (x.tag == h.tag) && (code x.typ == code h.typ)

-- an option itself
abbrev pub is_option : Form → Bool
is_option (option s) = true
is_option _ = false

-- a struct, with newtypes around it or none
abbrev pub is_struct : Form → Bool
is_struct (struct name fs deny) = true
is_struct (newtype name s) = is_struct s
is_struct _ = false

-- some field has this tag
abbrev pub names_tag : Fields → ℕ → Bool
names_tag no_fields t = false
names_tag (field name s fs) t = elim (has_tag name t) [ true ↦ true | false ↦ names_tag fs t ]
names_tag any_items t = false

-- there is a field
abbrev pub has_fields : Fields → Bool
has_fields no_fields = false
has_fields (field name s fs) = true
has_fields any_items = true

-- an item that is ignored: of no declared tag, and valid where it is a leaf
abbrev pub may_ignore : Fields → Bool → Raw → Bool
may_ignore fs deny x =
    has_fields fs
    && (not deny && (not (names_tag fs x.tag) && (is_structure x.typ || is_valid x.typ x.content)))

-- what may follow the last field
abbrev pub may_follow : Fields → Bool → List Raw → Bool
may_follow fs deny [] = true
may_follow fs deny (x ∷ xs) = may_ignore fs deny x && may_follow fs deny xs

-- the types of leaves that the form reads
abbrev pub takes : Form → TtlvType → Bool
takes int32 Integer = true
takes int64 LongInteger = true
takes int64 DateTime = true
takes boolean Boolean = true
takes text TextString = true
takes octets ByteString = true
takes octets BigInteger = true
takes date_time DateTime = true
takes interval Interval = true
takes big_integer BigInteger = true
takes any_number Enumeration = true
takes _ _ = false

-- the value that the form gives for a leaf's content
abbrev pub decoded_leaf : Form → List ℕ → Value
decoded_leaf int32 content = i32_value (cast_signed w32 (from_be_bytes w32 content))
decoded_leaf int64 content = i64_value (cast_signed w64 (from_be_bytes w64 content))
decoded_leaf boolean content = boolean_value (from_be_bytes w64 content == 1)
decoded_leaf text content = text_value content
decoded_leaf octets content = bytes_value content
decoded_leaf date_time content = date_time_value (cast_signed w64 (from_be_bytes w64 content))
decoded_leaf interval content = interval_value (from_be_bytes w32 content)
decoded_leaf big_integer content = big_integer_value content
decoded_leaf any_number content = u32_value (from_be_bytes w32 content)
decoded_leaf _ content = none_value

-- the types that an enum reads by value
abbrev pub is_number_type : TtlvType → Bool
is_number_type Integer = true
is_number_type Enumeration = true
is_number_type _ = false

-- a byte's two uppercase hexadecimal digits
abbrev pub byte_digits : ℕ → List ℕ
byte_digits b = digit_glyph true (b / 16) ∷ digit_glyph true (b % 16) ∷ []

-- `0x` and the uppercase hexadecimal digits of these bytes
abbrev pub number_text : List ℕ → List ℕ
number_text content = 48 ∷ 120 ∷ flat_map byte_digits content

-- a text is stored under its item's tag, and so is the text of an Enumeration's number; no other leaf is
abbrev pub stored_after_leaf : Form → Raw → List TagValue → List TagValue
stored_after_leaf text x k = k ++ record { tag = x.tag; text = x.content } ∷ []
stored_after_leaf any_number x k = k ++ record { tag = x.tag; text = number_text x.content } ∷ []
stored_after_leaf _ x k = k

-- the content of the first variant of this name
abbrev pub first_named : List ℕ → Variants → Option Content
first_named name no_variants = None
first_named name (variant vname c vs) = if bytes_eq vname name then Some c else first_named name vs

-- the form of leaves of a type; a Structure is none
abbrev pub form_of_type : TtlvType → Form
form_of_type Integer = int32
form_of_type LongInteger = int64
form_of_type BigInteger = big_integer
form_of_type Enumeration = any_number
form_of_type Boolean = boolean
form_of_type TextString = text
form_of_type DateTime = date_time
form_of_type Interval = interval
form_of_type _ = octets

-- a Big Integer has a multiple of eight bytes (KMIP 1.0, 9.1.1.3); any other leaf is written as long as it is
abbrev pub is_full : TtlvType → List ℕ → Bool
is_full BigInteger content = length content % 8 == 0
is_full _ content = true

-- the value of a leaf of any type, under its tag
abbrev pub leaf_under : ℕ → TtlvType → List ℕ → Value
leaf_under tag typ content = newtype_value (wrapper_name tag) (decoded_leaf (form_of_type typ) content)

mutual
  -- the item is read as this value, whatever its tag and type are, if it has so many levels at most: a leaf is one, and a
  -- structure one more than what is in it
  pub data IsAny : (levels : ℕ) → Raw → Value → Type 0 where
    any_leaf :
        {d : ℕ} {h : Raw}
        → is_structure h.typ ≡ false
        → is_valid h.typ h.content ≡ true
        → is_full h.typ h.content ≡ true
        → IsAny (suc d) h (leaf_under h.tag h.typ h.content)
    any_structure :
        {d : ℕ} {h : Raw} {zs : List Raw} {vs : Values}
        → h.typ ≡ Structure
        → Splits zs h.content
        → AreAny d zs vs
        → IsAny (suc d) h (struct_value (tag_text h.tag) vs)

  -- each of the items is read so
  pub data AreAny : (levels : ℕ) → List Raw → Values → Type 0 where
    no_item : {d : ℕ} → AreAny d [] no_values
    one_item : {d : ℕ} {h : Raw} {xs : List Raw} {v : Value} {vs : Values} → IsAny d h v → AreAny d xs vs → AreAny d (h ∷ xs) (value v vs)

-- how many levels items of any tags and types may have
abbrev pub most_levels : ℕ
most_levels = 64

mutual
  -- from these items, with these texts stored, the form reads a value, and leaves these items and texts
  pub data Reads : Form → List TagValue → List Raw → Value → List TagValue → List Raw → Type 0 where
    leaf :
        {s : Form} {h : Raw} {xs : List Raw} {k : List TagValue}
        → takes s h.typ ≡ true
        → is_valid h.typ h.content ≡ true
        → Reads s k (h ∷ xs) (decoded_leaf s h.content) (stored_after_leaf s h k) xs
    wrap_some :
        {s : Form} {k k' : List TagValue} {xs ys : List Raw} {v : Value}
        → Reads s k xs v k' ys
        → Reads (option s) k xs (some_value v) k' ys
    wrap :
        {s : Form} {name : List ℕ} {k k' : List TagValue} {xs ys : List Raw} {v : Value}
        → Reads s k xs v k' ys
        → Reads (newtype name s) k xs (newtype_value name v) k' ys
    run :
        {s : Form} {h : Raw} {k k' k'' : List TagValue} {xs ys zs : List Raw} {v : Value} {vs : Values}
        → Reads s k (h ∷ xs) v k' ys
        → ReadsRun s h k' ys vs k'' zs
        → Reads (seq s) k (h ∷ xs) (seq_value (value v vs)) k'' zs
    structure :
        {name : List ℕ} {fs : Fields} {deny : Bool} {h : Raw} {xs zs rest : List Raw} {k k' : List TagValue} {vs : Values}
        → names name (h ∷ []) ≡ true
        → h.typ ≡ Structure
        → Splits zs h.content
        → ReadsFields fs k zs vs k' rest
        → may_follow fs deny rest ≡ true
        → Reads (struct name fs deny) k (h ∷ xs) (struct_value name vs) k' xs
    by_rule :
        {name : List ℕ} {vs : Variants} {h : Raw} {xs ys : List Raw} {k k' : List TagValue} {v : Value} {i : ℕ}
        → choice vs k h.typ ≡ chosen i
        → ReadsVariant name vs i k (h ∷ xs) v k' ys
        → Reads (enum name vs) k (h ∷ xs) v k' ys
    by_number :
        {name : List ℕ} {vs : Variants} {h : Raw} {xs : List Raw} {k : List TagValue}
        → choice vs k h.typ ≡ number_decides
        → is_number_type h.typ ≡ true
        → is_valid h.typ h.content ≡ true
        → first_named (number_text h.content) vs ≡ Some unit
        → Reads (enum name vs) k (h ∷ xs)
        (unit_variant_value name (number_text h.content))
        (k ++ record { tag = h.tag; text = number_text h.content } ∷ []) xs

  -- the variant at this index reads
  pub data ReadsVariant : List ℕ → Variants → ℕ → List TagValue → List Raw → Value → List TagValue → List Raw → Type 0 where
    here :
        {name vname : List ℕ} {c : Content} {vs : Variants} {k k' : List TagValue} {xs ys : List Raw} {v : Value}
        → ReadsContent name vname c k xs v k' ys
        → ReadsVariant name (variant vname c vs) 0 k xs v k' ys
    there :
        {name vname : List ℕ} {c : Content} {vs : Variants} {i : ℕ} {k k' : List TagValue} {xs ys : List Raw} {v : Value}
        → ReadsVariant name vs i k xs v k' ys
        → ReadsVariant name (variant vname c vs) (suc i) k xs v k' ys

  -- the content of a variant reads: a form from the same item, or forms that use up a structure's items
  pub data ReadsContent : List ℕ → List ℕ → Content → List TagValue → List Raw → Value → List TagValue → List Raw → Type 0 where
    whole :
        {name vname : List ℕ} {s : Form} {k k' : List TagValue} {xs ys : List Raw} {v : Value}
        → Reads s k xs v k' ys
        → ReadsContent name vname (wrapped s) k xs (newtype_variant_value name vname v) k' ys
    parts :
        {name vname : List ℕ} {ss : Forms} {h : Raw} {xs zs : List Raw} {k k' : List TagValue} {vs : Values}
        → h.typ ≡ Structure
        → Splits zs h.content
        → ReadsForms ss k zs vs k' []
        → ReadsContent name vname (tuple ss) k (h ∷ xs) (tuple_variant_value name vname vs) k' xs

  -- the forms read one after the other
  pub data ReadsForms : Forms → List TagValue → List Raw → Values → List TagValue → List Raw → Type 0 where
    no_part : {k : List TagValue} {xs : List Raw} → ReadsForms no_forms k xs no_values k xs
    part :
        {s : Form} {ss : Forms} {k k' k'' : List TagValue} {xs ys zs : List Raw} {v : Value} {vs : Values}
        → Reads s k xs v k' ys
        → ReadsForms ss k' ys vs k'' zs
        → ReadsForms (form s ss) k xs (value v vs) k'' zs

  -- the form reads again, as long as the first item is like this one
  pub data ReadsRun : Form → Raw → List TagValue → List Raw → Values → List TagValue → List Raw → Type 0 where
    ends :
        {s : Form} {h : Raw} {k : List TagValue} {xs : List Raw}
        → is_like h xs ≡ false
        → ReadsRun s h k xs no_values k xs
    more :
        {s : Form} {h : Raw} {k k' k'' : List TagValue} {xs ys zs : List Raw} {v : Value} {vs : Values}
        → is_like h xs ≡ true
        → Reads s k xs v k' ys
        → ReadsRun s h k' ys vs k'' zs
        → ReadsRun s h k xs (value v vs) k'' zs

  -- the fields read one after the other
  pub data ReadsFields : Fields → List TagValue → List Raw → Values → List TagValue → List Raw → Type 0 where
    done : {k : List TagValue} {xs : List Raw} → ReadsFields no_fields k xs no_values k xs
    next :
        {name : List ℕ} {s : Form} {fs : Fields} {k k' k'' : List TagValue} {xs ys zs : List Raw} {v : Value} {vs : Values}
        → ReadsField name s k xs v k' ys
        → ReadsFields fs k' ys vs k'' zs
        → ReadsFields (field name s fs) k xs (value v vs) k'' zs
    kept : {k : List TagValue} {xs : List Raw} {vs : Values} → AreAny most_levels xs vs → ReadsFields any_items k xs vs k []

  -- one field: an option is left out where its name isn't the next item's; a struct goes by its own name, any other by
  -- the field's
  pub data ReadsField : List ℕ → Form → List TagValue → List Raw → Value → List TagValue → List Raw → Type 0 where
    absent :
        {name : List ℕ} {s : Form} {k : List TagValue} {xs : List Raw}
        → is_option s ≡ true
        → names name xs ≡ false
        → ReadsField name s k xs none_value k xs
    named :
        {name : List ℕ} {s : Form} {k k' : List TagValue} {xs ys : List Raw} {v : Value}
        → names name xs ≡ true
        → is_struct s ≡ false
        → Reads s k xs v k' ys
        → ReadsField name s k xs v k' ys
    inner :
        {name : List ℕ} {s : Form} {k k' : List TagValue} {xs ys : List Raw} {v : Value}
        → is_struct s ≡ true
        → Reads s k xs v k' ys
        → ReadsField name s k xs v k' ys

-- what may stand for a whole message: a struct, with newtypes and options around it or none
abbrev pub is_root : Form → Bool
is_root (struct name fs deny) = true
is_root (option s) = is_root s
is_root (newtype name s) = is_root s
is_root _ = false

-- the bytes begin with one structure from which the form reads the value
pub record Begins (s : Form) (bytes : List ℕ) (v : Value) : Type 0 where
  pub root : is_root s ≡ true
  pub item : Raw
  pub item_text : List ℕ
  pub after : List ℕ
  pub stored : List TagValue
  pub is_text : IsTextOf item item_text
  pub is_structure : item.typ ≡ Structure
  pub parts : bytes ≡ item_text ++ after
  pub reads : Reads s [] (item ∷ []) v stored []
