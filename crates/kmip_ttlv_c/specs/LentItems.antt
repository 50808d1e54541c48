-- Items and faults in the form for C, and what the calls that walk over items return.
use Rattle.std.specs.Prelude.{◌≡◌, ◌⊎◌, ℕ, ◌<◌, ◌≤◌, List, length, Option, Some, None}
use Rattle.kmip_ttlv_types.specs.ItemTypes.{code}
use Rattle.kmip_ttlv_items.specs.declared.found.FoundItem.{FoundItem}
use Rattle.kmip_ttlv_items.specs.declared.found.Fault.{Fault}
use Rattle.kmip_ttlv_items.specs.declared.found.FaultKind.{FaultKind}
use Rattle.kmip_ttlv_items.specs.declared.found.FaultKind.TheVariants.{Cut, NoStructure, UnknownType, PartialHeader}
use Rattle.kmip_ttlv_items.specs.declared.found.FaultKind.TheVariants.{WrongLength, Overlong, InvalidValue, Surplus}
use Rattle.kmip_ttlv_items.specs.declared.found.WalkEnd.{WalkEnd}
use Rattle.kmip_ttlv_items.specs.ItemWalks.{Finds, Judges}
use Rattle.kmip_ttlv_c.specs.declared.items.KmipTtlvItem.{KmipTtlvItem}
use Rattle.kmip_ttlv_c.specs.declared.items.KmipTtlvFault.{KmipTtlvFault}
use Rattle.kmip_ttlv_c.specs.declared.status.TheConstants.{OK, OUT_OF_MEMORY, NO_ROOM, MALFORMED}

-- an item, its type by its code
abbrev pub c_item : FoundItem → KmipTtlvItem
c_item i = record { offset = i.offset; depth = i.depth; tag = i.tag; typ = code i.typ; length = i.length }

-- the number in C of a kind of fault
abbrev pub c_kind : FaultKind → ℕ
c_kind Cut = 1
c_kind NoStructure = 2
c_kind UnknownType = 3
c_kind PartialHeader = 4
c_kind WrongLength = 5
c_kind Overlong = 6
c_kind InvalidValue = 7
c_kind Surplus = 8

-- a fault, or 0 for none
abbrev pub c_fault : Option Fault → KmipTtlvFault
c_fault None = record { offset = 0; kind = 0 }
c_fault (Some f) = record { offset = f.offset; kind = c_kind f.kind }

-- the status of a walk, given the fault, how many items there are, and the room: a fault comes before lack of room
abbrev pub ReportsWalk : Option Fault → ℕ → ℕ → ℕ → Type 0
ReportsWalk (Some f) count room status = status ≡ MALFORMED
ReportsWalk None count room status = ((status ≡ OK) × (count ≤ room)) ⊎ ((status ≡ NO_ROOM) × (room < count))

-- the status of a check
abbrev pub ReportsCheck : Option Fault → ℕ → Type 0
ReportsCheck (Some f) status = status ≡ MALFORMED
ReportsCheck None status = status ≡ OK

-- a walk over bytes: its items are in the caller's list as far as it has room, and `count` is how many there are; its
-- fault is set; or memory ran out, and the list's elements are any
pub data AnswersWalk (bytes : List ℕ) (status count : ℕ) (fault : KmipTtlvFault)
    (old new : List KmipTtlvItem) : Type 0 where
  walked :
      (end : WalkEnd)
      → Finds c_item bytes old new end
      → count ≡ end.count
      → fault ≡ c_fault end.fault
      → ReportsWalk end.fault end.count (length old) status
      → AnswersWalk bytes status count fault old new
  no_memory : status ≡ OUT_OF_MEMORY → count ≡ 0 → fault ≡ c_fault None → AnswersWalk bytes status count fault old new

-- a check of bytes: they are one whole message, or the first fault is set; or memory ran out
pub data AnswersCheck (bytes : List ℕ) (status : ℕ) (fault : KmipTtlvFault) : Type 0 where
  judged :
      (found : Option Fault)
      → Judges bytes found
      → fault ≡ c_fault found
      → ReportsCheck found status
      → AnswersCheck bytes status fault
  no_memory : status ≡ OUT_OF_MEMORY → fault ≡ c_fault None → AnswersCheck bytes status fault
