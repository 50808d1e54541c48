use Rattle.std.proofs.Common.{◌<◌, ℕ, [], get_or, arith}
use Rattle.kmip_ttlv_json.specs.declared.print.Style.TheVariants.{Names as ByNames}
use Rattle.kmip_ttlv_json.specs.Printings.{secrets_of, shown_of}
use Rattle.kmip_ttlv_json.proofs.Found.{some_json, err_json}
use Rattle.ttlv_run.specs.Texts.{names_of}
use Rattle.ttlv_run.proofs.texts.push_named.Goals as goal

pub returns-clause-ok : goal.returns-clause-ok
returns-clause-ok g c = c.push_named_json-2.ensures.ok

pub returns-clause-err : goal.returns-clause-err
returns-clause-err g c = c.push_named_json-2.ensures.err

-- out of memory: nothing was printed yet
pub returns-in_err-words-clause-err : goal.returns-in_err-words-clause-err
returns-in_err-words-clause-err g c =
    let plain : (k : ℕ) → get_or c.args.message.now k 0 < 256 = λ k. omega (arith, c.type_inv.message k) in
    let json = some_json ByNames (secrets_of c.args.hiding (names_of c.args.names.now).secrets) (shown_of c.args.hiding) c.args.message.now plain in
    err_json _ g.S.TextSink.breaks json.2
    (g.met.S.TextSink.breaks_first _ _ [] json.0 (g.met.S.TextSink.breaks_after _ _ [] (g.met.S.TextSink.adds_none c.args.out.now)))
