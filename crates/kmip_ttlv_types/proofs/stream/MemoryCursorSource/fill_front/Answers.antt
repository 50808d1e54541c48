use Rattle.std.proofs.Common.{rules, ◌≡◌, ℕ, List, ◌++◌, ◌+◌, take, drop, sym, ap, ◌∙◌}
use Rattle.std.proofs.lemmas.List.{take-append-drop, drop-drop}
use Rattle.kmip_ttlv_types.proofs.stream.MemoryCursorSource.fill_front.Goals as goal

pub returns-clause-ok : goal.returns-clause-ok
returns-clause-ok g c =
    let all = c.as_byte_slice-all.result.now in
    let at = c.position-at.result in
    let n = c.copy_front-count.result in
    let split : take n (drop at all) ++ drop (at + n) all ≡ drop at all =
    ap (λ (l : List ℕ). take n (drop at all) ++ l) (sym (drop-drop n at all)) ∙ take-append-drop n (drop at all) in
    search rules
