-- What is printed of one message.
use Rattle.std.specs.Borrow.{Bor}
use Rattle.std.specs.Prelude.{◌≡◌, ℕ, ◌+◌, ◌==◌, Bool, true, false, ◌&&◌, List, [], ◌∷◌, ◌++◌}
use Rattle.std.specs.Prelude.{length, take, drop, nat_lt, nat_le, slice_index}
use Rattle.std.specs.Prelude.{Option, Some, None, if◌then◌else◌, codes}
use Rattle.std.specs.List.{flat_map, list_any}
use Rattle.std.specs.Fmt.{decimal, signed_decimal}
use Rattle.std.specs.Str.{trim_end}
use Rattle.std.specs.Int.{w32, w64, from_be_bytes, cast_signed}
use Rattle.hex.specs.Hex.{encode_upper}
use Rattle.kmip_ttlv_types.specs.declared.typ.TtlvType.{TtlvType}
use Rattle.kmip_ttlv_types.specs.declared.typ.TtlvType.TheVariants.{Structure, Integer, LongInteger, Enumeration, TextString, ByteString, DateTime, Interval}
use Rattle.kmip_ttlv_util.specs.Diagnostics.{hostile}
use Rattle.kmip_ttlv_util.specs.Lines.{bounded_part, data_part, hidden}
use Rattle.kmip_ttlv_util.specs.Pretty.{value_shown}
use Rattle.kmip_ttlv_util.specs.TagNames.{name_in}
use Rattle.kmip_ttlv_util.specs.Traces.{trace}
use Rattle.kmip_ttlv_util.specs.Undiag.{undiag_lines}
use Rattle.kmip_ttlv_names.specs.NameTables.{lines_of, tag_in}
use Rattle.kmip_ttlv_items.specs.declared.found.FoundItem.{FoundItem}
use Rattle.kmip_ttlv_items.specs.declared.found.Fault.{Fault}
use Rattle.kmip_ttlv_items.specs.ItemWalks.{Ended, content_at}
use Rattle.kmip_ttlv_json.specs.Printings.{secrets_of, shown_of, has_line, json_text}
use Rattle.kmip_ttlv_json.specs.declared.print.Style.{Style}
use Rattle.kmip_ttlv_json.specs.declared.print.Style.TheVariants.{Digits, Names as Named}
use Rattle.ttlv_run.specs.declared.job.Strict.{Strict}
use Rattle.ttlv_run.specs.declared.job.Strict.TheVariants.{Show as ShowWhole, Diagnose as DiagnoseWhole, Hexadecimal as HexadecimalWhole, Json as JsonWhole}
use Rattle.ttlv_run.specs.declared.job.Task.{Task}
use Rattle.ttlv_run.specs.declared.job.Task.TheVariants.{Show, Diagnose, Hexadecimal, Json, Whole, Check}
use Rattle.ttlv_run.specs.declared.job.Values.{Values}
use Rattle.ttlv_run.specs.declared.job.Values.TheVariants.{Hidden, Secret, Escaped, Lasting}
use Rattle.ttlv_run.specs.declared.job.Look.{Look}
use Rattle.ttlv_run.specs.declared.lines.Reach.{Reach}
use Rattle.ttlv_run.specs.Attributes.{attribute_after, naming_tag, enumeration_name}
use Rattle.ttlv_run.specs.Columns.{body}
use Rattle.ttlv_run.specs.Dates.{date_shown}
use Rattle.ttlv_run.specs.Escapes.{escape}
use Rattle.ttlv_run.specs.Masks.{value_named, mask_names}
use Rattle.ttlv_run.specs.declared.job.Names.{Names as NamesAre}

-- the names that are printed: of tags, of a tag's values, and of the bits that are set in a mask; which tag has a name; and which
-- tags are secret
pub record Names : Type 0 where
  pub tags : ℕ → Option (List ℕ)
  pub named : List ℕ → Option ℕ
  pub values : ℕ → ℕ → Option (List ℕ)
  pub masks : ℕ → ℕ → List ℕ
  pub secrets : ℕ → Bool

-- those that a program holds; a user's own names of values come before the others
abbrev pub names_of : {A : Type 0} → NamesAre A → Names
names_of tables = record {
  tags = name_in tables.tags;
  named = tag_in tables.by_name;
  values = λ tag value. value_named (name_in tables.own) (name_in tables.values tag) tag value;
  masks = λ tag mask. mask_names (value_named (name_in tables.own) (name_in tables.masks tag) tag) mask;
  secrets = has_line tables.secrets;
}

-- a name behind a space
abbrev pub behind_space : Option (List ℕ) → List ℕ
behind_space None = []
behind_space (Some name) = 32 ∷ name

-- how many bytes a string has of which a part is printed
abbrev pub count_shown : ℕ → List ℕ
count_shown count = codes ".. (" ++ (decimal count ++ codes " bytes)")

-- a string of bytes, as many as may be printed, and then how many it has
abbrev pub bytes_shown : Option ℕ → List ℕ → List ℕ
bytes_shown None content = value_shown ByteString content
bytes_shown (Some width) content =
    if nat_le (length content) width then value_shown ByteString content
    else value_shown ByteString (take width content) ++ count_shown (length content)

-- a value differs in each run: that of a date, and what has a tag of identifiers, which stand where the secret ones do otherwise
abbrev pub passes : Names → ℕ → TtlvType → Bool
passes names tag DateTime = true
passes names tag typ = names.secrets tag

-- the value of a leaf that is no enumeration, if it lasts, with the names of a mask's bits, and a text escaped
abbrev pub kept_text : Names → Option ℕ → ℕ → TtlvType → List ℕ → List ℕ
kept_text names width tag TextString content = escape content
kept_text names width tag Integer content = value_shown Integer content ++ names.masks tag (from_be_bytes w32 content)
kept_text names width tag ByteString content = bytes_shown width content
kept_text names width tag typ content = value_shown typ content

unfoldable pub lasting_text : Names → Option ℕ → ℕ → TtlvType → List ℕ → List ℕ
lasting_text names width tag typ content = if passes names tag typ then codes "<left out>" else kept_text names width tag typ content

-- the value of a leaf, with the name that an enumeration's has, those of a mask's bits, and a date; nothing of a secret
-- one; where values are hidden, of an enumeration alone; a text is escaped, if it isn't to be raw
unfoldable pub value_text : Names → Values → Option ℕ → ℕ → TtlvType → List ℕ → List ℕ
value_text names values width tag Structure content = []
value_text names Secret width tag typ content = hidden
value_text names values width tag Enumeration content =
    value_shown Enumeration content ++ behind_space (enumeration_name names.values names.tags tag (from_be_bytes w32 content))
value_text names Hidden width tag typ content = hidden
value_text names Lasting width tag typ content = lasting_text names width tag typ content
value_text names Escaped width tag TextString content = escape content
value_text names values width tag Integer content =
    value_shown Integer content ++ names.masks tag (from_be_bytes w32 content)
value_text names values width tag DateTime content = value_shown DateTime content ++ date_shown (from_be_bytes w64 content)
value_text names values width tag ByteString content = bytes_shown width content
value_text names values width tag typ content = value_shown typ content

-- the name of an enumeration's value, or `0x` and its digits if it has none
abbrev pub name_alone : Option (List ℕ) → List ℕ → List ℕ
name_alone None content = codes "0x" ++ value_shown ByteString content
name_alone (Some name) content = name

-- the value of a leaf alone: an enumeration's by its name, other numbers and dates in decimal, the rest as in a line
unfoldable pub bare_text : Names → Values → Option ℕ → ℕ → TtlvType → List ℕ → List ℕ
bare_text names values width tag Structure content = []
bare_text names Secret width tag typ content = hidden
bare_text names values width tag Enumeration content =
    name_alone (enumeration_name names.values names.tags tag (from_be_bytes w32 content)) content
bare_text names Hidden width tag typ content = hidden
bare_text names Lasting width tag typ content = lasting_text names width tag typ content
bare_text names Escaped width tag TextString content = escape content
bare_text names values width tag Integer content = signed_decimal (cast_signed w32 (from_be_bytes w32 content))
bare_text names values width tag LongInteger content = signed_decimal (cast_signed w64 (from_be_bytes w64 content))
bare_text names values width tag DateTime content = signed_decimal (cast_signed w64 (from_be_bytes w64 content))
bare_text names values width tag Interval content = decimal (from_be_bytes w32 content)
bare_text names values width tag ByteString content = bytes_shown width content
bare_text names values width tag typ content = value_shown typ content

-- what sets a colour, where lines are coloured
abbrev pub color_part : Bool → List ℕ → List ℕ
color_part colored color = if colored then color else []

-- a text in a colour of a terminal, by its number (ECMA-48)
abbrev pub paint : Bool → List ℕ → List ℕ → List ℕ
paint colored color text = color_part colored color ++ (text ++ color_part colored (27 ∷ codes "[0m"))

-- a number and a tab, where such numbers are printed
abbrev pub column_part : Bool → ℕ → List ℕ
column_part printed number = if printed then decimal number ++ codes "\t" else []

-- a string of bytes in hexadecimal, as many as may be printed, and `..` if it has more
abbrev pub bytes_front : Option ℕ → List ℕ → List ℕ
bytes_front None content = value_shown ByteString content
bytes_front (Some width) content =
    if nat_le (length content) width then value_shown ByteString content
    else value_shown ByteString (take width content) ++ codes ".."

-- that of the value of a leaf; the items in a structure have bytes of their own
abbrev pub content_bytes : Option ℕ → TtlvType → List ℕ → List ℕ
content_bytes width Structure content = []
content_bytes width typ content = bytes_front width content

-- the bytes of an item among those of a message, and a tab: its header, and of a leaf its value, without padding
unfoldable pub own_bytes : Option ℕ → List ℕ → FoundItem → List ℕ
own_bytes width bytes i =
    value_shown ByteString (take 8 (drop i.offset bytes))
    ++ (content_bytes width i.typ (content_at bytes i.offset) ++ codes "\t")

-- the same, where they are printed
abbrev pub bytes_part : Bool → Option ℕ → List ℕ → FoundItem → List ℕ
bytes_part printed width bytes i = if printed then own_bytes width bytes i else []

-- the beginning of an item's line, up to its tag
unfoldable pub tag_part : Names → Bool → FoundItem → List ℕ
tag_part names colored i = paint colored (27 ∷ codes "[36m") (bounded_part names.tags i.depth i.tag)

-- the value of a leaf, painted; a structure has none
abbrev pub painted_value : Bool → TtlvType → List ℕ → List ℕ
painted_value colored Structure text = []
painted_value colored typ text = paint colored (27 ∷ codes "[32m") text

-- how far the items of some tags reach, where one more item was met, which is one of them or not
abbrev pub reach_end : Bool → ℕ → FoundItem → ℕ
reach_end is_one end i = if is_one && nat_lt end (i.offset + 8 + i.length) then i.offset + 8 + i.length else end

-- the tag is one of those that are asked for
abbrev pub is_asked : Option (Bor (List ℕ)) → ℕ → Bool
is_asked None tag = false
is_asked (Some tags) tag = list_any (λ asked. asked == tag) tags.now

-- what is said of a value: nothing of one in a secret item, if those are hidden, where they reach so far
abbrev pub values_shown : Look → ℕ → FoundItem → Values
values_shown look secret i = if look.secrets_hidden && nat_lt i.offset secret then Secret else look.values

-- how many tags of a path, from its first, the structures around an item and it itself have, where so many were those of the last one
abbrev pub path_reach : Option (Bor (List ℕ)) → ℕ → FoundItem → ℕ
path_reach None met i = 0
path_reach (Some path) met i =
    if nat_lt i.depth (length path.now) && (nat_le i.depth met && slice_index path.now i.depth == i.tag) then i.depth + 1
    else if nat_lt i.depth met then i.depth
    else met

-- an item is at the end of a path
abbrev pub ends_path : List ℕ → ℕ → FoundItem → Bool
ends_path path met i = met == length path && met == i.depth + 1

-- how far the secret items reach, and those that are asked for; which attribute is named; and how far a path is met
abbrev pub reach_after : Names → Look → List ℕ → Reach → FoundItem → Reach
reach_after names look bytes r i =
    let secret = reach_end (names.secrets i.tag) r.secret i in
    record {
      secret = secret;
      asked = reach_end (is_asked look.only i.tag) r.asked i;
      attribute = attribute_after names.named (values_shown look secret i) bytes r.attribute i;
      path = path_reach look.path r.path i;
    }

-- where several items were met
abbrev pub reach_all : Names → Look → List ℕ → Reach → List FoundItem → Reach
reach_all names look bytes r [] = r
reach_all names look bytes r (i ∷ is) = reach_all names look bytes (reach_after names look bytes r i) is

-- no item was met
abbrev pub no_reach : Reach
no_reach = record { secret = 0; asked = 0; attribute = None; path = 0 }

-- the value of an item among the bytes of a message, named as the attribute around has it
unfoldable pub value_part : Names → Look → Reach → List ℕ → FoundItem → List ℕ
value_part names look r bytes i =
    painted_value look.colored i.typ
    (value_text names (values_shown look r.secret i) look.width (naming_tag r.attribute i) i.typ (content_at bytes i.offset))

-- the line of an item of a message that begins at an offset: the item's offset, the length of its value and its bytes, if asked for, the
-- depth, tag, type and value
unfoldable pub item_line : Names → Look → Reach → ℕ → List ℕ → FoundItem → List ℕ
item_line names look r at bytes i =
    column_part look.offsets (at + i.offset)
    ++ (column_part look.lengths i.length
    ++ (bytes_part look.bytes look.width bytes i
    ++ (tag_part names look.colored i
    ++ (data_part i.typ ++ (value_part names look r bytes i ++ 10 ∷ [])))))

-- an item is passed over: tags are asked for, and neither it nor one around it has one of them, so that no item of these tags reaches
-- behind its first byte
abbrev pub is_passed : Option (Bor (List ℕ)) → Reach → FoundItem → Bool
is_passed None r i = false
is_passed (Some tags) r i = nat_le r.asked i.offset

-- an item has one of some tags, and ends behind a place
abbrev pub covers : List ℕ → ℕ → FoundItem → Bool
covers tags place i = list_any (λ tag. tag == i.tag) tags && nat_lt place (i.offset + 8 + i.length)

-- the line of an item's value alone, named as the attribute around has it
unfoldable pub bare_line : Names → Look → Reach → List ℕ → FoundItem → List ℕ
bare_line names look r bytes i =
    bare_text names (values_shown look r.secret i) look.width (naming_tag r.attribute i) i.typ (content_at bytes i.offset) ++ 10 ∷ []

-- the line of an item, if it is asked for; where the items of a path are, that of its value
abbrev pub item_text_by : Option (Bor (List ℕ)) → Names → Look → Reach → ℕ → List ℕ → FoundItem → List ℕ
item_text_by None names look r at bytes i = if is_passed look.only r i then [] else item_line names look r at bytes i
item_text_by (Some path) names look r at bytes i = if ends_path path.now r.path i then bare_line names look r bytes i else []

unfoldable pub item_text : Names → Look → Reach → ℕ → List ℕ → FoundItem → List ℕ
item_text names look r at bytes i = item_text_by look.path names look r at bytes i

-- the lines of items that a walk met one after the other, where those before them reach so far
abbrev pub lines_from : Names → Look → ℕ → List ℕ → Reach → List FoundItem → List ℕ
lines_from names look at bytes r [] = []
lines_from names look at bytes r (i ∷ is) =
    item_text names look (reach_after names look bytes r i) at bytes i
    ++ lines_from names look at bytes (reach_after names look bytes r i) is

-- what a line of diagnostics is read back as, but for a mark in front of it and white space at its end, each line indented by 64 levels at most; an
-- empty one as nothing
abbrev pub trim_line_back : (ℕ → Option (List ℕ)) → List ℕ → List ℕ → List ℕ
trim_line_back tags prefix [] = []
trim_line_back tags prefix (c ∷ s) = trim_end (undiag_lines (bounded_part tags) prefix (c ∷ s)) ++ 10 ∷ []

unfoldable pub line_back : (ℕ → Option (List ℕ)) → List ℕ → List ℕ → List ℕ
line_back tags prefix line = trim_line_back tags prefix (trim_end (body line))

-- what diagnostics are read back as, each in a line of its own
unfoldable pub text_back : (ℕ → Option (List ℕ)) → List ℕ → List ℕ → List ℕ
text_back tags prefix text = flat_map (line_back tags prefix) (lines_of text)

-- the style of JSON: with the standard's names, or by digits
abbrev pub style_in : Bool → Style
style_in true = Named
style_in false = Digits

-- what is printed of a whole message alone
abbrev pub whole_text : Names → Strict → ℕ → (bytes : List ℕ) → (found : List FoundItem) → Ended bytes found None → List ℕ
whole_text names (ShowWhole look) at bytes found lists = lines_from names look at bytes no_reach found
whole_text names (DiagnoseWhole closed prefix) at bytes found lists =
    hostile prefix.now closed (length bytes) (trace closed bytes) ++ 10 ∷ []
whole_text names HexadecimalWhole at bytes found lists = encode_upper bytes ++ 10 ∷ []
whole_text names (JsonWhole hiding named) at bytes found lists =
    json_text (style_in named) (secrets_of hiding names.secrets) (shown_of hiding) bytes found None lists

-- what a task prints of a message that begins at an offset, in which these items were met by its end, or by the first
-- fault
abbrev pub message_text :
    Names → Task → ℕ → (bytes : List ℕ) → (found : List FoundItem) → (fault : Option Fault) → Ended bytes found fault
    → List ℕ
message_text names (Show look) at bytes found fault ended = lines_from names look at bytes no_reach found
message_text names (Diagnose closed prefix) at bytes found fault ended =
    hostile prefix.now closed (length bytes) (trace closed bytes) ++ 10 ∷ []
message_text names Hexadecimal at bytes found fault ended = encode_upper bytes ++ 10 ∷ []
message_text names (Json hiding named) at bytes found fault ended =
    json_text (style_in named) (secrets_of hiding names.secrets) (shown_of hiding) bytes found fault ended
message_text names (Whole strict) at bytes found None lists = whole_text names strict at bytes found lists
message_text names (Whole strict) at bytes found (Some fault) ended = []
message_text names (Check kmip empty) at bytes found fault ended = []

-- this is the text of a message that begins at an offset: of the items that were met by its end, or by the first fault
pub record IsMessageText (names : Names) (task : Task) (at : ℕ) (bytes text : List ℕ) (fault : Option Fault) : Type 0 where
  pub found : List FoundItem
  pub ended : Ended bytes found fault
  pub is : text ≡ message_text names task at bytes found fault ended
