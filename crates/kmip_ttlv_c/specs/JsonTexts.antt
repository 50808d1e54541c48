-- What the calls that print and read JSON return.
use Rattle.std.specs.Prelude.{◌≡◌, ℕ, ◌≤◌, ◌==◌, List, ◌++◌, [], ◌∷◌, length, Option, Some, None, if◌then◌else◌}
use Rattle.std.specs.Str.{IsUtf8}
use Rattle.kmip_ttlv_types.specs.Trees.{Tree, IsTreeText, IsStructure}
use Rattle.kmip_ttlv_items.specs.declared.found.Fault.{Fault}
use Rattle.kmip_ttlv_items.specs.ItemWalks.{Judges}
use Rattle.kmip_ttlv_names.specs.SecretTags.{is_secret}
use Rattle.kmip_ttlv_json.specs.declared.print.Style.TheVariants.{Digits}
use Rattle.kmip_ttlv_json.specs.declared.print.Hiding.{Hiding}
use Rattle.kmip_ttlv_json.specs.declared.print.Hiding.TheVariants.{Nothing, Secrets, Values}
use Rattle.kmip_ttlv_json.specs.declared.failure.BadMember.{BadMember}
use Rattle.kmip_ttlv_json.specs.declared.failure.BadMember.TheVariants.{Members, Tag, Typ, Value}
use Rattle.kmip_ttlv_json.specs.declared.failure.JsonError.{JsonError}
use Rattle.kmip_ttlv_json.specs.declared.failure.JsonError.TheVariants.{NotJson, TooDeep, NotItem, NotStructure, TooLong, OutOfMemory}
use Rattle.kmip_ttlv_json.specs.Printings.{secrets_of, shown_of}
use Rattle.kmip_ttlv_json.specs.Spellings.{data_text}
use Rattle.kmip_ttlv_json.specs.Jsons.{tree_json}
use Rattle.kmip_ttlv_json.specs.Readings.{IsReadAs, FailsToRead, error_offset}
use Rattle.kmip_ttlv_c.specs.declared.status.TheConstants.{OUT_OF_MEMORY, NOT_UTF8, MALFORMED, BAD_ARGUMENT}
use Rattle.kmip_ttlv_c.specs.declared.json_text.TheConstants.{SHOW_ALL, REDACT_SECRETS, REDACT_VALUES}
use Rattle.kmip_ttlv_c.specs.declared.items.KmipTtlvFault.{KmipTtlvFault}
use Rattle.kmip_ttlv_c.specs.LentItems.{c_fault}

-- what is hidden, by its number
abbrev pub hiding_of : ℕ → Option Hiding
hiding_of n =
    if n == SHOW_ALL then Some Nothing
    else if n == REDACT_SECRETS then Some Secrets
    else if n == REDACT_VALUES then Some Values
    else None

-- the JSON of a message, whose secret values are those of the standard's secret tags
abbrev pub message_json : Hiding → Tree → List ℕ
message_json hiding message = data_text (tree_json Digits (secrets_of hiding is_secret) (shown_of hiding) message)

-- bytes are one whole well-formed message, and this is the line of its JSON
pub record ShowsJson (hiding : Hiding) (bytes line : List ℕ) : Type 0 where
  pub message : Tree
  pub whole : IsTreeText message bytes
  pub root : IsStructure message
  pub is : line ≡ message_json hiding message ++ 10 ∷ []

-- the text is the JSON of one whole message, with this hidden, and there is no fault
pub record IsMessageJson (redact : ℕ) (bytes : List ℕ) (fault : KmipTtlvFault) (text : List ℕ) : Type 0 where
  pub hiding : Hiding
  pub hidden : hiding_of redact ≡ Some hiding
  pub message : Tree
  pub whole : IsTreeText message bytes
  pub root : IsStructure message
  pub is : text ≡ message_json hiding message
  pub no_fault : fault ≡ c_fault None

-- JSON fails if the bytes are not one whole message, and then the first fault is set; or when out of memory; or if a number hides nothing
-- that is known
pub data JsonFails (redact : ℕ) (bytes : List ℕ) (fault : KmipTtlvFault) (status : ℕ) : Type 0 where
  not_whole :
      (hiding : Hiding)
      → (found : Fault)
      → hiding_of redact ≡ Some hiding
      → Judges bytes (Some found)
      → status ≡ MALFORMED
      → fault ≡ c_fault (Some found)
      → JsonFails redact bytes fault status
  no_memory :
      (hiding : Hiding)
      → hiding_of redact ≡ Some hiding
      → status ≡ OUT_OF_MEMORY
      → fault ≡ c_fault None
      → JsonFails redact bytes fault status
  no_hiding : hiding_of redact ≡ None → status ≡ BAD_ARGUMENT → fault ≡ c_fault None → JsonFails redact bytes fault status

-- the number in C of what is wrong with the JSON of an item
abbrev pub c_member_kind : BadMember → ℕ
c_member_kind Members = 15
c_member_kind Tag = 16
c_member_kind Typ = 3
c_member_kind Value = 7

-- the number in C of why a text is not read as a message; 0 if memory ran out
abbrev pub c_json_kind : JsonError → ℕ
c_json_kind (NotJson offset) = 13
c_json_kind (TooDeep offset) = 14
c_json_kind (NotItem bad offset) = c_member_kind bad
c_json_kind (NotStructure offset) = 2
c_json_kind (TooLong offset) = 12
c_json_kind OutOfMemory = 0

-- where and why
abbrev pub c_json_fault : JsonError → KmipTtlvFault
c_json_fault e = record { offset = error_offset e; kind = c_json_kind e }

-- the status of that
abbrev pub json_status : JsonError → ℕ
json_status OutOfMemory = OUT_OF_MEMORY
json_status e = MALFORMED

-- the text is the JSON of one message, these are its canonical bytes, and there is no fault
pub record IsJsonMessage (text : List ℕ) (fault : KmipTtlvFault) (out : List ℕ) : Type 0 where
  pub utf8 : IsUtf8 text
  pub read : IsReadAs text out
  pub no_fault : fault ≡ c_fault None

-- reading JSON fails where the text is no message's, and then where and why is set; or when out of memory, or if the text is not UTF-8
pub data ReadingJsonFails (text : List ℕ) (fault : KmipTtlvFault) (status : ℕ) : Type 0 where
  unread :
      (why : JsonError)
      → IsUtf8 text
      → FailsToRead text why
      → error_offset why ≤ length text
      → status ≡ json_status why
      → fault ≡ c_json_fault why
      → ReadingJsonFails text fault status
  no_text : status ≡ NOT_UTF8 → (IsUtf8 text → ⊥) → fault ≡ c_fault None → ReadingJsonFails text fault status
