use Rattle.std.proofs.Common.{◌<◌, ℕ, [], get_or, arith}
use Rattle.kmip_ttlv_json.specs.Printings.{style_of, secrets_of, shown_of, has_line}
use Rattle.kmip_ttlv_json.proofs.Found.{some_json, err_json}
use Rattle.kmip_ttlv_json.proofs.print.push_message.Goals as goal

-- out of memory: nothing was printed yet
pub returns-in_err-fault-clause-err : goal.returns-in_err-fault-clause-err
returns-in_err-fault-clause-err g c =
    let plain : (k : ℕ) → get_or c.args.message.now k 0 < 256 = λ k. omega (arith, c.type_inv.message k) in
    let json = some_json (style_of c.args.words) (secrets_of c.args.hiding (has_line c.args.secrets.now)) (shown_of c.args.hiding) c.args.message.now plain in
    err_json _ g.S.TextSink.breaks json.2
    (g.met.S.TextSink.breaks_first _ _ [] json.0 (g.met.S.TextSink.breaks_after _ _ [] (g.met.S.TextSink.adds_none c.args.out.now)))
