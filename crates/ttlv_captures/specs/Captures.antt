-- Messages within anything else: where one stands, and what a search returns.
use Rattle.std.specs.Prelude.{◌≡◌, ◌⊎◌, ℕ, zero, suc, ◌+◌, ◌-◌, ◌*◌, ◌^◌, ◌<◌, ◌≤◌, Bool, ◌||◌, List, [], ◌∷◌, length, take, drop, nat_lt}
use Rattle.std.specs.Prelude.{if◌then◌else◌, min}
use Rattle.kmip_ttlv_types.specs.Places.{length_at}
use Rattle.kmip_ttlv_items.specs.declared.found.FoundItem.{FoundItem}
use Rattle.kmip_ttlv_items.specs.FoundItems.{Lists}
use Rattle.ttlv_captures.specs.declared.notation.Notation.{Notation}
use Rattle.ttlv_captures.specs.declared.notation.Notation.TheVariants.{Raw, Hexadecimal, Numbers, Escaped}
use Rattle.ttlv_captures.specs.Notations.{tokens, bytes_of, widths, begins}

-- the header of a Request Message, and of a Response Message, up to its type
abbrev pub request : List ℕ
request = 0x42 ∷ 0x00 ∷ 0x78 ∷ 0x01 ∷ []

abbrev pub response : List ℕ
response = 0x42 ∷ 0x00 ∷ 0x7B ∷ 0x01 ∷ []

-- bytes are a whole well-formed Request Message or Response Message
pub record IsMessage (bytes : List ℕ) : Type 0 where
  pub root : (take 4 bytes ≡ request) ⊎ (take 4 bytes ≡ response)
  pub items : List FoundItem
  pub lists : Lists bytes items

-- a text begins with these bytes in a notation, and takes so many characters for them
pub record Writes (n : Notation) (s bytes : List ℕ) (taken : ℕ) : Type 0 where
  pub bytes_are : bytes_of (tokens n (length bytes) s) ≡ bytes
  pub taken_is : taken ≡ widths (tokens n (length bytes) s)

-- a text begins with a message, so written
pub record Stands (n : Notation) (s bytes : List ℕ) (taken : ℕ) : Type 0 where
  pub written : Writes n s bytes taken
  pub message : IsMessage bytes

-- it begins with none, in one notation; in no notation
abbrev pub NoneIn : Notation → List ℕ → Type 0
NoneIn n s = (bytes : List ℕ) (taken : ℕ) → Stands n s bytes taken → ⊥

abbrev pub NoneHere : List ℕ → Type 0
NoneHere s = (n : Notation) → NoneIn n s

-- no message begins between two offsets
abbrev pub NoneBetween : List ℕ → ℕ → ℕ → Type 0
NoneBetween s from to = (k : ℕ) → from ≤ k → k < to → NoneHere (drop k s)

-- a message stands at an offset, and none between another and it
pub record StandsFirst (s : List ℕ) (from offset : ℕ) (n : Notation) (bytes : List ℕ) (taken : ℕ) : Type 0 where
  pub before : from ≤ offset
  pub stands : Stands n (drop offset s) bytes taken
  pub first : NoneBetween s from offset

-- a message is tried where a text begins with the tag and type of one
abbrev pub is_start : Notation → List ℕ → Bool
is_start n s = begins n s request || begins n s response

-- how many bytes a message takes by its header, as far as that is there
abbrev pub size_stated : List ℕ → ℕ
size_stated header = if nat_lt (length header) 8 then 8 else 8 + length_at header 0

-- how many characters are read to try it: no more than its header states
abbrev pub cost_in : Notation → List ℕ → ℕ
cost_in n s = if is_start n s then widths (tokens n (size_stated (bytes_of (tokens n 8 s))) s) else 0

abbrev pub cost : List ℕ → ℕ
cost s = cost_in Raw s + cost_in Hexadecimal s + cost_in Numbers s + cost_in Escaped s

-- how many characters are read to try all offsets from the first on, so many of them
abbrev pub costs : List ℕ → ℕ → ℕ
costs s zero = 0
costs s (suc count) = cost s + costs (drop 1 s) count

-- how many characters may be read in vain before a search ends
abbrev pub limit : ℕ → ℕ
limit n = min (2 ^ 64 - 1) (16 * (n + 2 ^ 20))
