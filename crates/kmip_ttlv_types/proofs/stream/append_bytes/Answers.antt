use Rattle.std.proofs.Common.{◌≡◌, ◌≤◌, ◌+◌, ◌-◌, take, length, arith, sym, ap, ◌∙◌}
use Rattle.std.proofs.lemmas.Result.{err_from_is_err_and}
use Rattle.kmip_ttlv_types.proofs.Taken.{TakesMore-after, Behind-stays}
use Rattle.kmip_ttlv_types.proofs.stream.append_bytes.Goals as goal

pub returns-in_err-append_piece-clause-takes : goal.returns-in_err-append_piece-clause-takes
returns-in_err-append_piece-clause-takes g c =
    let p = err_from_is_err_and c.from_residual.result c.from_residual.ensures.1 in
    let inv = c.loop-due.invariant in
    let low : (c.args.count - c.loop-due.due) + c.min-piece.result ≤ c.args.count = omega (arith, inv.0, c.min-piece.ensures) in
    rw (p.1, p.2) (TakesMore-after (Unit {0}) _ _ _ _ _ _ c.append_piece.new.bytes.items _ _ _ _ inv.1 c.in_err-append_piece.ensures.takes low)

pub returns-in_err-append_piece-clause-kept : goal.returns-in_err-append_piece-clause-kept
returns-in_err-append_piece-clause-kept g c =
    let had = c.args.bytes.now in
    let has = c.loop-due.bytes in
    let kept : take (length has.items) c.append_piece.new.bytes.items ≡ has.items =
    ap (λ n. take n c.append_piece.new.bytes.items) (sym has.ok.0) ∙ c.append_piece.ensures.kept in
    ap (λ n. take n c.append_piece.new.bytes.items) had.ok.0 ∙ Behind-stays _ _ _ _ _ _ c.loop-due.invariant.1 kept
