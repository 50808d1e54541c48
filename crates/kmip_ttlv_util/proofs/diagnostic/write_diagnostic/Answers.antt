use Rattle.std.proofs.Common.{rules, ◌≡◌, ℕ, List, length, refl}
use Rattle.kmip_ttlv_types.specs.Held.{held}
use Rattle.kmip_ttlv_util.specs.{Pieces.buffered, Diagnostics.hostile, Traces.trace}
use Rattle.kmip_ttlv_util.proofs.Saying.{closed_lent, lent_buffer, ok_text, err_text}
use Rattle.kmip_ttlv_util.proofs.diagnostic.write_diagnostic.Goals as goal

pub returns-in_err-close : goal.returns-in_err-close
returns-in_err-close g c =
    let of = buffered g.S.Sink.emitted g.S.Sink.room in
    let whole = hostile c.args.prefix.now c.args.closed (length c.args.bytes.now) (trace c.args.closed c.args.bytes.now) in
    let new = c.new-pieces.ensures in
    let printed = c.diagnose_to-printed in
    let done = closed_lent (λ (t : List ℕ). t ≡ whole) printed.result c.close.result (of c.new-pieces.result) (of printed.new.out) (of c.close.new.self)
    _ (held g.S.Sink.emitted g.S.Sink.room c.args.writer.now)
    (lent_buffer g.S.Sink.emitted g.S.Sink.room c.new-pieces.result new.same_reference new.sink new.empty new.going)
    (ok_text printed.result _ _ whole printed.ensures.ok refl)
    (err_text printed.result _ _ whole printed.ensures.err refl) c.close.ensures in
    let name = done.0 in
    let written = done.1 in
    search rules
