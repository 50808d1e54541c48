-- Where a walk over any bytes is, what comes next, and where it is after an entry.
use Rattle.std.specs.Prelude.{ℕ, suc, ◌+◌, Bool, true, false, List, [], ◌∷◌, length, if◌then◌else◌, ◌==◌, nat_lt}
use Rattle.kmip_ttlv_types.specs.declared.typ.TtlvType.{TtlvType}
use Rattle.kmip_ttlv_types.specs.declared.typ.TtlvType.TheVariants.{Structure}
use Rattle.kmip_ttlv_types.specs.Places.{size}

-- where a walk is: at an offset, in structures with these ends, the innermost first, and in this many
-- empty structures without an end; once an empty structure stayed open, ends may be passed
pub record Place : Type 0 where
  pub pos : ℕ
  pub ends : List ℕ
  pub endless : ℕ
  pub loose : Bool

-- the ends that remain when those that are reached are removed
unfoldable pub left_at : ℕ → List ℕ → List ℕ
left_at p [] = []
left_at p (e ∷ es) = if e == p then left_at p es else e ∷ es

-- how many structures are open
abbrev pub depth_at : Place → ℕ
depth_at s = s.endless + length (left_at s.pos s.ends)

-- all structures are closed, an end was passed, or an entry follows
pub data Turn : Type 0 where
  all_closed : Turn
  end_passed : Turn
  entry_follows : Turn

-- the turn, given the ends that remain
abbrev pub turn_left : Bool → ℕ → List ℕ → Turn
turn_left loose p [] = all_closed
turn_left true p (e ∷ es) = entry_follows
turn_left false p (e ∷ es) = if nat_lt e p then end_passed else entry_follows

-- in no structure with an end, an entry follows
abbrev pub turn_at : Bool → ℕ → List ℕ → Turn
turn_at loose p [] = entry_follows
turn_at loose p (e ∷ es) = turn_left loose p (left_at p (e ∷ es))

-- what comes next at a place
unfoldable pub turn : Place → Turn
turn s = turn_at s.loose s.pos s.ends

-- whether a structure of this length has its own end: an empty one only if empty structures are closed
abbrev pub has_end : Bool → ℕ → Bool
has_end true n = true
has_end false n = nat_lt 0 n

-- after the opening of a structure with its own end, or of one without, which stays open as long as the one
-- around it
abbrev pub opened : Bool → ℕ → ℕ → List ℕ → ℕ → Bool → Place
opened true p n es k loose = record { pos = p; ends = (p + n) ∷ es; endless = k; loose = loose }
opened false p n [] k loose = record { pos = p; ends = []; endless = suc k; loose = true }
opened false p n (e ∷ es) k loose = record { pos = p; ends = e ∷ e ∷ es; endless = k; loose = true }

-- after an entry, given the ends that remain
abbrev pub onward : Bool → ℕ → List ℕ → ℕ → Bool → TtlvType → ℕ → Place
onward closed p es k loose Structure n = opened (has_end closed n) (p + 8) n es k loose
onward closed p es k loose typ n = record { pos = p + size typ n; ends = es; endless = k; loose = loose }

-- where it is after an entry of this type and length
unfoldable pub after : Bool → Place → TtlvType → ℕ → Place
after closed s typ n = onward closed s.pos (left_at s.pos s.ends) s.endless s.loose typ n

-- at the first byte
abbrev pub start : Place
start = record { pos = 0; ends = []; endless = 0; loose = false }
