use Rattle.std.proofs.Common.{ℕ, ◌≡◌, ◌+◌, List, [], ◌∷◌, ◌++◌, length, take, ◌∙◌, ap, sym, arith, string_bytes}
use Rattle.std.specs.List.{slice_range}
use Rattle.std.proofs.lemmas.Result.{on_ok_weaker}
use Rattle.ttlv_run.proofs.LineLists.{texts, range_texts, rest_texts, one_text, same_texts}
use Rattle.ttlv_run.proofs.MarkedLines.{adds_then, adds_of, adds_at, marked_both, marked_apart}
use Rattle.ttlv_run.proofs.differences.push_pairs.Goals as goal
use Rattle.ttlv_run.proofs.differences.push_pairs.Goals.{then-eq+in_ok-push_apart+in_ok-push_behind, else-eq}

pub pairs-preserved : goal.pairs-preserved
pairs-preserved g c =
    let first = c.args.first.now in
    let second = c.args.second.now in
    let at = c.pairs.at in
    let start = c.pairs.start in
    let s = c.pairs.invariant in
    elim c.if-eq.branch [
      | then-eq+in_ok-push_apart+in_ok-push_behind w ↦
          let same = same_texts (sym c.eq.ensures ∙ w.if-eq.true) in
          let one = texts (slice_range first at (at + 1)) in
          let other = one_text second at _ (omega arith) ∙ ap (λ (l : List ℕ). l ∷ []) (sym same) ∙ sym (one_text first at _ (omega arith)) in
          let apart = adds_of (range_texts first start at s.0) (range_texts second start at s.0)
          (adds_then s.1 (marked_apart (texts (slice_range first start at)) (texts (slice_range second start at))) w.in_ok-push_apart.ensures) in
          let both = adds_then apart (marked_both one) w.in_ok-push_behind.ensures in
          let ends : c.if-eq.start ≡ at + 1 = w.start-is in (
            omega arith,
            adds_at (ap string_bytes w.out-is)
                (adds_of (ap (λ (n : ℕ). take n (texts first)) ends ∙ range_texts first at (at + 1) (omega arith))
                (ap (λ (n : ℕ). take n (texts second)) ends ∙ range_texts second at (at + 1) (omega arith)
                ∙ ap (λ (l : List (List ℕ)). take at (texts second) ++ l) other)
                both),
          )
      | else-eq w ↦ (
        omega (arith, w.start-is),
        adds_at (ap string_bytes w.out-is)
            (adds_of (ap (λ (n : ℕ). take n (texts first)) w.start-is) (ap (λ (n : ℕ). take n (texts second)) w.start-is) s.1),
      )
    ]

pub returns : goal.returns
returns g c =
    let first = c.args.first.now in
    let second = c.args.second.now in
    let start = c.pairs.start in
    let s = c.pairs.invariant in
    on_ok_weaker c.push_apart-2.result
    (λ added.
    adds_of (rest_texts first start (omega (arith, s.0))) (rest_texts second start (omega (arith, s.0)))
    (adds_then s.1 (marked_apart (texts (slice_range first start (length first))) (texts (slice_range second start (length second)))) added))
    c.push_apart-2.ensures
