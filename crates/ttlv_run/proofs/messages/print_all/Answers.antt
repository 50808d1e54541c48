use Rattle.std.proofs.Common.{rules, ◌≡◌, ◌∙◌, ◌++◌, true, false, sym, subst, refl, arith}
use Rattle.kmip_ttlv_items.specs.ItemWalks.{Ended}
use Rattle.kmip_ttlv_util.specs.Pieces.{SomeText}
use Rattle.ttlv_run.specs.Messages.{is_taken, malformed, not_taken}
use Rattle.ttlv_run.specs.{Streaming.ContinuesBehind, Texts.names_of}
use Rattle.ttlv_run.proofs.{Good.fault_within, Printing.err_holds}
use Rattle.ttlv_run.proofs.Windows.{one_more, one_wrong, one_broken}
use Rattle.ttlv_run.proofs.messages.print_all.Goals as goal

-- the sink failed in a message, or memory ran out there: what would follow is printed of the others
pub returns-in_err-fault-clause-err : goal.returns-in_err-fault-clause-err
returns-in_err-fault-clause-err g c =
    let w = c.messages.invariant.whole in
    let h = c.in_err-fault.ensures.err in
    let due = sym c.is_due.ensures ∙ c.messages-test.true in
    let broken : SomeText (ContinuesBehind (names_of c.args.names.now) c.args.task c.args.base c.args.bytes.now c.args.last)
    (λ t. g.S.TextSink.breaks c.args.out.now t c.push_message.new.out) = record {
      text = w.text ++ h.text;
      is = one_broken c.messages.at w.text c.message_at-message.ensures.is due w.is h.is.0 h.is.1;
      holds = g.met.S.TextSink.breaks_second _ _ _ w.text h.text w.holds h.holds;
    } in
    err_holds _ _ broken

pub overflow_add-result : goal.overflow_add-result
overflow_add-result g c =
    let message = c.message_at-message.result.now in
    let h = c.in_ok-fault.ensures.ok in
    let ended = subst (Ended message h.is.found) c.in-Some.is h.is.ended in
    omega (arith, fault_within message h.is.found c.in-Some.fault ended, c.message_at-message.ensures.within, c.requires)

pub returns-in-Some-clause-ok : goal.returns-in-Some-clause-ok
returns-in-Some-clause-ok g c =
    let w = c.messages.invariant.whole in
    let h = c.in_ok-fault.ensures.ok in
    let due = sym c.is_due.ensures ∙ c.messages-test.true in
    let wrong = malformed c.in-Some.fault refl c.tag_there.ensures refl in
    record {
      text = w.text ++ h.text;
      is = one_wrong c.messages.at w.text c.message_at-message.ensures.is due w.is h.is c.in-Some.is wrong;
      holds = g.met.S.TextSink.adds_both _ _ _ w.text h.text w.holds h.holds;
    }

-- a whole message with a root that the task doesn't take
pub returns-then-not-is_taken-clause-ok : goal.returns-then-not-is_taken-clause-ok
returns-then-not-is_taken-clause-ok g c =
    let w = c.messages.invariant.whole in
    let h = c.in_ok-fault.ensures.ok in
    let due = sym c.is_due.ensures ∙ c.messages-test.true in
    let other : is_taken c.args.task c.message_at-message.result.now ≡ false = sym c.is_taken.ensures ∙ search rules in
    let wrong = not_taken other refl c.tag_there-then-not-is_taken.ensures refl in
    record {
      text = w.text ++ h.text;
      is = one_wrong c.messages.at w.text c.message_at-message.ensures.is due w.is h.is c.in_default.is wrong;
      holds = g.met.S.TextSink.adds_both _ _ _ w.text h.text w.holds h.holds;
    }

pub messages-preserved : goal.messages-preserved
messages-preserved g c =
    let w = c.messages.invariant.whole in
    let h = c.in_ok-fault.ensures.ok in
    let due = sym c.is_due.ensures ∙ c.messages-test.true in
    let taken : is_taken c.args.task c.message_at-message.result.now ≡ true = sym c.is_taken.ensures ∙ search rules in
    record {
      within = c.message_at-message.ensures.within;
      whole = record {
        text = w.text ++ h.text;
        is = one_more c.messages.at w.text c.message_at-message.ensures.is due w.is h.is c.in_default.is taken;
        holds = g.met.S.TextSink.adds_both _ _ _ w.text h.text w.holds h.holds;
      };
    }
