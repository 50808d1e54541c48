use Rattle.std.proofs.Common.{◌≡◌, ◌≤◌, ◌+◌, ◌-◌, ◌++◌, ℕ, List, length, take}
use Rattle.ttlv_run.specs.Decoding.{characters, Reading, Grows}
use Rattle.ttlv_run.specs.Streaming.{window_bytes}
use Rattle.ttlv_run.proofs.digits.decode_piece.Given as goal

abbrev pub invariant-characters : goal.invariant-characters
invariant-characters g l = record {
  grows : Grows (window_bytes l.fn.bytes) (window_bytes l.bytes) (λ came. (mark : ℕ) (s all : List ℕ) → Reading l.fn.decoder mark s all
      → Reading l.decoder mark (s ++ take l.at l.piece) (all ++ came));
  within : l.at ≤ length l.piece;
  offset : l.decoder.offset ≤ l.fn.decoder.offset + l.at;
  count : characters l.decoder ≡ characters l.fn.decoder + l.at;
  form : l.decoder.form ≡ l.fn.decoder.form;
}

abbrev pub decreases-characters : goal.decreases-characters
decreases-characters g l = length l.piece - l.at
