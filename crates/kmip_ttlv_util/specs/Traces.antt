-- The trace of any bytes, and what a printer writes for a trace.
use Rattle.std.specs.Prelude.{ℕ, zero, suc, Bool, List, [], ◌∷◌, ◌++◌, length, Option, Some, None, if◌then◌else◌, ◌==◌}
use Rattle.kmip_ttlv_types.specs.declared.typ.TtlvType.{TtlvType}
use Rattle.kmip_ttlv_types.specs.Places.{length_at}
use Rattle.kmip_ttlv_util.specs.Entries.{Entry, entry_at, type_read}
use Rattle.kmip_ttlv_util.specs.WalkPlaces.{Place, depth_at, Turn, all_closed, end_passed, entry_follows, turn, after}
use Rattle.kmip_ttlv_util.specs.WalkPlaces.{start}

-- the entries from one on, given what comes next and the entry's type
abbrev pub entries_by : Turn → Entry → Option TtlvType → (TtlvType → List Entry) → List Entry
entries_by all_closed x o more = []
entries_by end_passed x o more = []
entries_by entry_follows x None more = x ∷ []
entries_by entry_follows x (Some t) more = x ∷ more t

-- the entries from a place on, at most this many
unfoldable pub entries_from : ℕ → Bool → List ℕ → Place → List Entry
entries_from zero closed bytes s = []
entries_from (suc most) closed bytes s =
    entries_by (turn s) (entry_at bytes s.pos) (type_read (length bytes) s.pos (entry_at bytes s.pos))
    (λ t. entries_from most closed bytes (after closed s t (length_at (entry_at bytes s.pos).header 0)))

-- the trace of any bytes, with empty structures closed or left open
unfoldable pub trace : Bool → List ℕ → List Entry
trace closed bytes = entries_from (suc (length bytes)) closed bytes start

-- what a printer writes: for an entry that is read, at a depth and an offset; when a structure closes;
-- when an end was passed; and for an entry that can't be read
pub record Style : Type 0 where
  pub item : ℕ → ℕ → Entry → TtlvType → List ℕ
  pub close : List ℕ
  pub passed : List ℕ
  pub unreadable : List ℕ

-- what is written for each end that is removed
unfoldable pub closes : List ℕ → ℕ → List ℕ → List ℕ
closes shut p [] = []
closes shut p (e ∷ es) = if e == p then shut ++ closes shut p es else []

-- what is written after the last entry
abbrev pub end_text : Style → Turn → List ℕ
end_text style end_passed = style.passed
end_text style _ = []

-- what is written for an entry, given its type
abbrev pub text_by : Style → Option TtlvType → (TtlvType → List ℕ) → List ℕ
text_by style None more = style.unreadable
text_by style (Some t) more = more t

-- what is written for the entries from a place on, of an input of this length
unfoldable pub printed_from : Style → Bool → ℕ → Place → List Entry → List ℕ
printed_from style closed count s [] = closes style.close s.pos s.ends ++ end_text style (turn s)
printed_from style closed count s (x ∷ xs) =
    closes style.close s.pos s.ends
    ++ text_by style (type_read count s.pos x) (λ t.
    style.item (depth_at s) s.pos x t
    ++ printed_from style closed count (after closed s t (length_at x.header 0)) xs)

-- what is written for a trace
unfoldable pub printed_text : Style → Bool → ℕ → List Entry → List ℕ
printed_text style closed count xs = printed_from style closed count start xs
