use Rattle.std.proofs.Common.{◌++◌, ◌∷◌, [], length, refl, sym, arith}
use Rattle.hex.specs.Hex.{encode_upper}
use Rattle.std.proofs.lemmas.Result.{IfOk-weaker}
use Rattle.kmip_ttlv_util.specs.{Diagnostics.hostile, Pieces.SomeText, Traces.trace}
use Rattle.kmip_ttlv_util.proofs.Saying.{err_map}
use Rattle.ttlv_run.specs.Texts.{names_of}
use Rattle.ttlv_run.proofs.Printing.{err_holds, Decided, IsAlways, decided_any, json_lines_of}
use Rattle.ttlv_run.proofs.texts.push_message.Goals.{in-Diagnose+in_ok-push_diagnostic-in-Diagnose, in-Hexadecimal+in_ok-push_hexadecimal-in-Hexadecimal}
use Rattle.ttlv_run.proofs.texts.push_message.Goals.{in-Check}
use Rattle.ttlv_run.proofs.texts.push_message.Goals as goal

pub returns-in_err-push_diagnostic-in-Diagnose-clause-err : goal.returns-in_err-push_diagnostic-in-Diagnose-clause-err
returns-in_err-push_diagnostic-in-Diagnose-clause-err g c =
    let m = c.args.message.now in
    let broken : SomeText (Decided (names_of c.args.names.now) c.args.task c.args.at m) (λ t. g.S.TextSink.breaks c.args.out.now t c.push_diagnostic.new.out) =
    record {
      text = hostile c.in-Diagnose.prefix.now c.in-Diagnose.closed (length m) (trace c.in-Diagnose.closed m) ++ 10 ∷ [];
      is = decided_any (λ k. omega (arith, c.type_inv.message k)) (rw c.in-Diagnose.is (λ found fault ended. refl));
      holds = c.in_err-push_diagnostic-in-Diagnose.ensures.err;
    } in
    err_holds _ _ broken

pub returns-in_err-push_hexadecimal-in-Hexadecimal-clause-err : goal.returns-in_err-push_hexadecimal-in-Hexadecimal-clause-err
returns-in_err-push_hexadecimal-in-Hexadecimal-clause-err g c =
    let m = c.args.message.now in
    let broken : SomeText (Decided (names_of c.args.names.now) c.args.task c.args.at m) (λ t. g.S.TextSink.breaks c.args.out.now t c.push_hexadecimal.new.out) =
    record {
      text = encode_upper m ++ 10 ∷ [];
      is = decided_any (λ k. omega (arith, c.type_inv.message k)) (rw c.in-Hexadecimal.is (λ found fault ended. refl));
      holds = c.in_err-push_hexadecimal-in-Hexadecimal.ensures.err;
    } in
    err_holds _ _ broken

-- out of memory behind the text
pub returns-in_err-find_fault-clause-err : goal.returns-in_err-find_fault-clause-err
returns-in_err-find_fault-clause-err g c =
    let m = c.args.message.now in
    let added : SomeText (IsAlways (names_of c.args.names.now) c.args.task c.args.at m) (λ t. g.S.TextSink.adds c.args.out.now t c.match-task.out) =
    elim c.match-task.branch [
      | in-Diagnose+in_ok-push_diagnostic-in-Diagnose w ↦ record {
        text = hostile w.in-Diagnose.prefix.now w.in-Diagnose.closed (length m) (trace w.in-Diagnose.closed m) ++ 10 ∷ [];
        is = rw w.in-Diagnose.is (λ found fault ended. refl);
        holds = rw w.out-is w.in_ok-push_diagnostic-in-Diagnose.ensures.ok;
      }
      | in-Hexadecimal+in_ok-push_hexadecimal-in-Hexadecimal w ↦ record {
        text = encode_upper m ++ 10 ∷ [];
        is = rw w.in-Hexadecimal.is (λ found fault ended. refl);
        holds = rw w.out-is w.in_ok-push_hexadecimal-in-Hexadecimal.ensures.ok;
      }
      | in-Check w ↦
          record { text = []; is = rw w.in-Check.is (λ found fault ended. refl); holds = rw w.out-is (g.met.S.TextSink.adds_none c.args.out.now) }
    ] in
    let broken : SomeText (Decided (names_of c.args.names.now) c.args.task c.args.at m) (λ t. g.S.TextSink.breaks c.args.out.now t c.match-task.out) =
    record {
      text = added.text;
      is = decided_any (λ k. omega (arith, c.type_inv.message k)) added.is;
      holds = g.met.S.TextSink.breaks_after _ _ added.text added.holds;
    } in
    err_holds _ _ broken

pub returns-clause-ok : goal.returns-clause-ok
returns-clause-ok g c =
    let m = c.args.message.now in
    let added : SomeText (IsAlways (names_of c.args.names.now) c.args.task c.args.at m) (λ t. g.S.TextSink.adds c.args.out.now t c.match-task.out) =
    elim c.match-task.branch [
      | in-Diagnose+in_ok-push_diagnostic-in-Diagnose w ↦ record {
        text = hostile w.in-Diagnose.prefix.now w.in-Diagnose.closed (length m) (trace w.in-Diagnose.closed m) ++ 10 ∷ [];
        is = rw w.in-Diagnose.is (λ found fault ended. refl);
        holds = rw w.out-is w.in_ok-push_diagnostic-in-Diagnose.ensures.ok;
      }
      | in-Hexadecimal+in_ok-push_hexadecimal-in-Hexadecimal w ↦ record {
        text = encode_upper m ++ 10 ∷ [];
        is = rw w.in-Hexadecimal.is (λ found fault ended. refl);
        holds = rw w.out-is w.in_ok-push_hexadecimal-in-Hexadecimal.ensures.ok;
      }
      | in-Check w ↦
          record { text = []; is = rw w.in-Check.is (λ found fault ended. refl); holds = rw w.out-is (g.met.S.TextSink.adds_none c.args.out.now) }
    ] in
    let judged = c.in_ok-find_fault.ensures in
    let is = added.is judged.found _ judged.ended in
    record { text = added.text; is = record { found = judged.found; ended = judged.ended; is = sym is }; holds = added.holds }

pub returns-in-Json-clause-ok : goal.returns-in-Json-clause-ok
returns-in-Json-clause-ok g c =
    let reported = json_lines_of (names_of c.args.names.now) c.args.at c.args.message.now c.in-Json.hiding c.in-Json.named c.args.task c.in-Json.is in
    IfOk-weaker c.push_styled.result _ _ (λ fault h. record { text = h.text; is = reported h.text fault h.is; holds = h.holds }) c.push_styled.ensures.ok

pub returns-in-Json-clause-err : goal.returns-in-Json-clause-err
returns-in-Json-clause-err g c =
    let reported = json_lines_of (names_of c.args.names.now) c.args.at c.args.message.now c.in-Json.hiding c.in-Json.named c.args.task c.in-Json.is in
    err_map c.push_styled.result _ _ c.push_styled.ensures.err (λ h. record { text = h.text; is = (h.is.0, reported h.text h.is.0 h.is.1); holds = h.holds })
