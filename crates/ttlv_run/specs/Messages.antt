-- The messages of an input, one after the other, and what is printed of them.
use Rattle.std.specs.Prelude.{◌≡◌, ℕ, ◌+◌, ◌<◌, Bool, true, false, not, ◌&&◌, ◌||◌, ◌==◌, List, [], ◌++◌, length, take, drop, nat_le}
use Rattle.std.specs.Prelude.{Option, Some, None, if◌then◌else◌, codes}
use Rattle.std.specs.Fmt.{decimal}
use Rattle.kmip_ttlv_types.specs.Places.{tag_at, length_at}
use Rattle.kmip_ttlv_util.specs.Lines.{tag_named}
use Rattle.kmip_ttlv_items.specs.declared.found.Fault.{Fault}
use Rattle.kmip_ttlv_items.specs.declared.found.FaultKind.{FaultKind}
use Rattle.kmip_ttlv_items.specs.declared.found.FaultKind.TheVariants.{Cut, NoStructure, UnknownType, PartialHeader}
use Rattle.kmip_ttlv_items.specs.declared.found.FaultKind.TheVariants.{WrongLength, Overlong, InvalidValue, Surplus}
use Rattle.ttlv_run.specs.declared.job.Task.{Task}
use Rattle.ttlv_run.specs.declared.job.Task.TheVariants.{Check, Whole as OfWhole}
use Rattle.ttlv_run.specs.declared.kind.InputKind.{InputKind}
use Rattle.ttlv_run.specs.declared.messages.Place.{Place}
use Rattle.ttlv_run.specs.declared.messages.Wrong.{Wrong}
use Rattle.ttlv_run.specs.declared.messages.Wrong.TheVariants.{Malformed, NotKmip}
use Rattle.ttlv_run.specs.Kinds.{kind_of, kind_words}
use Rattle.ttlv_run.specs.Escapes.{escape}
use Rattle.ttlv_run.specs.Texts.{Names, IsMessageText}

-- how many bytes the first message takes by its header, where that is there
abbrev pub size_stated : List ℕ → Option ℕ
size_stated bytes = if nat_le 8 (length bytes) then Some (8 + length_at bytes 0) else None

-- all bytes of the first message are there
abbrev pub is_there : List ℕ → Bool
is_there bytes = nat_le 8 (length bytes) && nat_le (8 + length_at bytes 0) (length bytes)

-- how many bytes the first message takes: as many as its header states, or else all that are there
abbrev pub first_size : List ℕ → ℕ
first_size bytes = if is_there bytes then 8 + length_at bytes 0 else length bytes

-- the message that begins at a place
abbrev pub message_at : List ℕ → ℕ → List ℕ
message_at bytes p = take (first_size (drop p bytes)) (drop p bytes)

-- the tag of the item at a place, where its three bytes are there
abbrev pub tag_there : List ℕ → ℕ → Option ℕ
tag_there bytes p = if nat_le (p + 3) (length bytes) then Some (tag_at bytes p) else None

-- the tag is that of a Request Message (420078) or of a Response Message (42007B)
abbrev pub is_kmip : Option ℕ → Bool
is_kmip None = false
is_kmip (Some tag) = tag == 4_325_496 || tag == 4_325_499

-- the task takes a message with this root
abbrev pub is_taken : Task → List ℕ → Bool
is_taken (Check kmip empty) message = not kmip || is_kmip (tag_there message 0)
is_taken task message = true

-- the task wants a message in its input: a check, if it isn't to take none
abbrev pub wants_message : Task → Bool
wants_message (Check kmip empty) = not empty
wants_message task = false

-- up to a place the bytes are whole messages, and this is what is printed of them
pub data Whole (names : Names) (task : Task) (bytes : List ℕ) : ℕ → List ℕ → Type 0 where
  whole_none : Whole names task bytes 0 []
  whole_more :
      (p q : ℕ) (old new reported : List ℕ)
      → Whole names task bytes p old
      → p < length bytes
      → IsMessageText names task p (message_at bytes p) reported None
      → is_taken task (message_at bytes p) ≡ true
      → new ≡ old ++ reported
      → q ≡ p + length (message_at bytes p)
      → Whole names task bytes q new

-- what is wrong with the message at a place, and where: it has a fault, or the task takes none with its root; and the
-- tag there, where its three bytes are in the message
pub data IsWrong (task : Task) (message : List ℕ) (at : ℕ) (place : Place) : Option Fault → Type 0 where
  malformed :
      (f : Fault)
      → place.offset ≡ at + f.offset
      → place.tag ≡ tag_there message f.offset
      → place.wrong ≡ Malformed f.kind
      → IsWrong task message at place (Some f)
  not_taken :
      is_taken task message ≡ false
      → place.offset ≡ at
      → place.tag ≡ tag_there message 0
      → place.wrong ≡ NotKmip
      → IsWrong task message at place None

-- behind whole messages stands one that is wrong: what is printed of it, up to its fault if it has one, and where that is
pub record Breaks (names : Names) (task : Task) (bytes text : List ℕ) (place : Place) : Type 0 where
  pub at : ℕ
  pub front : List ℕ
  pub reported : List ℕ
  pub fault : Option Fault
  pub whole : Whole names task bytes at front
  pub left : at < length bytes
  pub tells : IsMessageText names task at (message_at bytes at) reported fault
  pub wrong : IsWrong task (message_at bytes at) at place fault
  pub is : text ≡ front ++ reported

-- what is printed of all messages, or of those up to the first fault
abbrev pub Prints : Names → Task → List ℕ → List ℕ → Option Place → Type 0
Prints names task bytes text None = Whole names task bytes (length bytes) text
Prints names task bytes text (Some place) = Breaks names task bytes text place

-- a text that goes on behind this one is printed of an input, whatever that holds
pub record Continues (names : Names) (task : Task) (bytes front : List ℕ) : Type 0 where
  pub more : List ℕ
  pub place : Option Place
  pub prints : Prints names task bytes (front ++ more) place

-- a fault in words
abbrev pub fault_words : FaultKind → List ℕ
fault_words Cut = codes "the input ends within the message"
fault_words NoStructure = codes "a message begins with a Structure"
fault_words UnknownType = codes "unknown type"
fault_words PartialHeader = codes "the structure around has no room for a header"
fault_words WrongLength = codes "wrong length for the type"
fault_words Overlong = codes "longer than the structure around"
fault_words InvalidValue = codes "invalid value for the type"
fault_words Surplus = codes "bytes behind the message"

-- what is wrong, in words
abbrev pub wrong_words : Wrong → List ℕ
wrong_words (Malformed kind) = fault_words kind
wrong_words NotKmip = codes "neither a Request Message nor a Response Message"

-- a tag with its name, where there is one
abbrev pub tag_report : Names → Option ℕ → List ℕ
tag_report names None = codes "no tag"
tag_report names (Some tag) = tag_named 6 (names.tags tag) tag

-- what is told of a fault: of a task that prints whole messages alone no tag
abbrev pub place_told : Task → Place → Place
place_told (OfWhole strict) place = record { offset = place.offset; tag = None; wrong = place.wrong }
place_told task place = place

-- what the input looks like, if the first message is wrong where it begins
abbrev pub kind_at : Place → Option InputKind
kind_at place = if place.offset == 0 then kind_of place.tag else None

-- the line on standard error: what the input is called, the offset among its messages' bytes, the tag there,
-- what is wrong, and what the input looks like
unfoldable pub fault_line : Names → List ℕ → Place → List ℕ
fault_line names name place =
    escape name ++ codes ": byte " ++ decimal place.offset ++ codes ": " ++ tag_report names place.tag ++ codes ": "
    ++ wrong_words place.wrong ++ kind_words (kind_at place) ++ codes "\n"
