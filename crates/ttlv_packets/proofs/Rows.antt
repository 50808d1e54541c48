-- One more line of a listing.
use Rattle.std.proofs.Common.{◌≡◌, ℕ, ◌+◌, ◌<◌, ◌≤◌, List, [], ◌∷◌, ◌++◌, length, min, Bool, true, false, refl, sym, subst, arith}
use Rattle.std.specs.Prelude.{Option, Some, None, nat_lt, ◌==◌, if◌then◌else◌}
use Rattle.std.proofs.lemmas.List.{length-append}
use Rattle.std.proofs.lemmas.Bool.Decides.{nat_tests}
use Rattle.ttlv_packets.specs.declared.segment.Frame.{Frame}
use Rattle.ttlv_packets.specs.Listings.{Lists, no_line, line_more, Listed, nothing, goes_on, with_line, line_at, AreWithin, frame_of}
use Rattle.ttlv_packets.specs.Listings.{last_of, closed, with_row, with_offset, offset_of, pairs, column_of}

pub lists_begin : (s : List ℕ) {at : ℕ} {p : Listed} → at ≡ 0 → p ≡ nothing → Lists s at p
lists_begin s {at} {p} first none = subst (λ (k : ℕ). Lists s k p) (sym first) (subst (Lists s 0) (sym none) no_line)

pub lists_on :
    (s line : List ℕ) (at end : ℕ) (p more : Listed)
    → Lists s at p → at < length s → line ≡ line_at s at → goes_on p line ≡ true → more ≡ with_line p line
    → end ≡ min (length s) (at + length line + 1)
    → Lists s end more
lists_on s line at end p more lists lt is goes with moved =
    let P = λ (l : List ℕ). goes_on p l ≡ true → Lists s (min (length s) (at + length l + 1)) (with_line p l) in
    let base : P (line_at s at) = λ h. line_more at p lists lt h in
    let step = subst P (sym is) base goes in
    subst (λ (k : ℕ). Lists s k more) (sym moved) (subst (Lists s (min (length s) (at + length line + 1))) (sym with) step)

-- packets within some bytes are within more
within_more : (n m : ℕ) → n ≤ m → (fs : List Frame) → AreWithin n fs → AreWithin m fs
within_more n m le [] h = tt
within_more n m le (f ∷ fs) h = (omega (arith, h.0, le), within_more n m le fs h.1)

within_both : (n : ℕ) (fs gs : List Frame) → AreWithin n fs → AreWithin n gs → AreWithin n (fs ++ gs)
within_both n [] gs h more = more
within_both n (f ∷ fs) gs h more = (h.0, within_both n fs gs h.1 more)

last_by : (s : List ℕ) (start : ℕ) (b : Bool) → nat_lt start (length s) ≡ b → AreWithin (length s) (if b then frame_of s start ∷ [] else [])
last_by s start true is = (grind (arith, nat_tests), tt)
last_by s start false is = tt

pub closed_within : (p : Listed) → AreWithin (length p.bytes) p.frames → AreWithin (length p.bytes) (closed p)
closed_within p h = within_both (length p.bytes) p.frames (last_of p.bytes p.start) h (last_by p.bytes p.start (nat_lt p.start (length p.bytes)) refl)

row_within : (p : Listed) (offset : ℕ) (row : List ℕ) → AreWithin (length p.bytes) p.frames
    → AreWithin (length (with_row p offset row).bytes) (with_row p offset row).frames
row_within p offset row h =
    let n = length p.bytes in
    let m = length (p.bytes ++ row) in
    let le : n ≤ m = omega (arith, length-append p.bytes row) in
    let P : Listed → Type 0 = λ q. AreWithin (length q.bytes) q.frames in
    let A : Listed = record { bytes = p.bytes ++ row; frames = closed p; start = n } in
    let B : Listed = record { bytes = p.bytes ++ row; frames = p.frames; start = p.start } in
    elim (offset == 0) as (λ b. P (if b then A else B))
    [ true ↦ within_more n m le (closed p) (closed_within p h) | false ↦ within_more n m le p.frames h ]

offset_within : (p : Listed) (o : Option ℕ) (line : List ℕ) → AreWithin (length p.bytes) p.frames
    → AreWithin (length (with_offset p o line).bytes) (with_offset p o line).frames
offset_within p None line h = h
offset_within p (Some offset) line h = row_within p offset (pairs None (column_of line)) h

pub lists_within : (s : List ℕ) (at : ℕ) (p : Listed) → Lists s at p → AreWithin (length p.bytes) p.frames
lists_within s _ _ no_line = tt
lists_within s _ _ (line_more at p lists lt goes) = offset_within p (offset_of (line_at s at)) (line_at s at) (lists_within s at p lists)
