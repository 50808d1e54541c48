-- What was read from a reader, and the bytes that hexadecimal input is decoded as.
use Rattle.std.specs.Prelude.{◌≡◌, ℕ, ◌-◌, Bool, false, not, ◌==◌, ◌||◌, List, ◌++◌, ◌<◌, length, slice_index, filter}
use Rattle.std.specs.Prelude.{Option, Result, IsErr, IsTrue}
use Rattle.std.specs.List.{AllPass}
use Rattle.std.specs.Str.{IsUtf8}
use Rattle.std.specs.Io.KnownBytes.{Consumes, IsAtEnd}
use Rattle.hex.specs.Hex.{decode_of}
use Rattle.hex_to_txt_run.specs.Reasons.{Reason, unreadable_input, not_hexadecimal, no_memory}
use Rattle.hex.specs.declared.error.FromHexError.{FromHexError}

-- all bytes that a reader had were read
pub record TakesAll (old new : Option (List ℕ)) (bytes : List ℕ) : Type 0 where
  pub taken : Consumes old new bytes
  pub ended : IsAtEnd new

-- line feeds, carriage returns, spaces, double quotes and commas are ignored
abbrev pub is_kept : ℕ → Bool
is_kept b = not (b == 10 || b == 13 || b == 32 || b == 34 || b == 44)

-- the bytes with these hexadecimal digits
abbrev pub decoded : List ℕ → Result (List ℕ) FromHexError
decoded input = decode_of (filter is_kept input)

-- why an input was not read: reading failed, if it can, or memory ran out
abbrev pub IsUnread : Bool → Reason → Type 0
IsUnread can_fail unreadable_input = IsTrue can_fail
IsUnread can_fail no_memory = Unit {0}
IsUnread can_fail _ = ⊥

-- why an input can't be decoded
abbrev pub IsUndecoded : List ℕ → Reason → Type 0
IsUndecoded input not_hexadecimal = IsErr (decoded input)
IsUndecoded input no_memory = Unit {0}
IsUndecoded input _ = ⊥

-- a line feed or a carriage return
abbrev pub is_break : ℕ → Bool
is_break b = b == 10 || b == 13

-- the bytes without trailing line feeds and carriage returns
pub record CutAtEnd (bytes front : List ℕ) : Type 0 where
  pub breaks : List ℕ
  pub parts : bytes ≡ front ++ breaks
  pub are_breaks : AllPass is_break breaks
  pub ends : 0 < length front → is_break (slice_index front (length front - 1)) ≡ false

-- without such an end the bytes are this text
pub record CutText (bytes text : List ℕ) : Type 0 where
  pub cut : CutAtEnd bytes text
  pub is_text : IsUtf8 text

-- without such an end the bytes are not UTF-8
pub record CutNoText (bytes : List ℕ) : Type 0 where
  pub front : List ℕ
  pub cut : CutAtEnd bytes front
  pub no_text : IsUtf8 front → ⊥
