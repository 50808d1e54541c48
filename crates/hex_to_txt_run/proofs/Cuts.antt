-- Bytes without trailing line feeds and carriage returns.
use Rattle.std.proofs.Common.{◌≡◌, ℕ, ◌-◌, ◌<◌, ◌≤◌, false, List, length, take, drop, slice_index, sym, ap, ◌∙◌, arith, length-take}
use Rattle.std.specs.List.{AllPass}
use Rattle.std.proofs.lemmas.List.{take-append-drop, get_or-take}
use Rattle.hex_to_txt_run.specs.Inputs.{is_break, CutAtEnd}

pub cut : (bytes : List ℕ) (e : ℕ) → e ≤ length bytes → AllPass is_break (drop e bytes) → (0 < e → is_break (slice_index bytes (e - 1)) ≡ false)
    → CutAtEnd bytes (take e bytes)
cut bytes e within breaks ends =
    let long : length (take e bytes) ≡ e = omega (arith, length-take e bytes) in
    record {
      breaks = drop e bytes;
      parts = sym (take-append-drop e bytes);
      are_breaks = breaks;
      ends = λ some. rw long (
          let some' : 0 < e = omega (arith, long, some) in
          ap is_break (get_or-take e bytes (e - 1) 0 (omega (arith, some'))) ∙ ends some');
    }
