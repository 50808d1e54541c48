use Rattle.std.proofs.Common.{rules, ◌≡◌, List, ℕ, refl, subst}
use Rattle.kmip_ttlv_types.specs.Held.{held, Gets}
use Rattle.kmip_ttlv_util.specs.Pieces.{SomeText, WritesFront, Moves, MovesFront, buffered}
use Rattle.kmip_ttlv_util.proofs.Saying.{closed_lent, lent_buffer, ok_text, err_text}
use Rattle.ttlv_run.specs.{JsonValues.message_output, Reasons.PrintsFront}
use Rattle.ttlv_run.proofs.{Printing.printed_text}
use Rattle.std.specs.Prelude.{false}
use Rattle.ttlv_run.proofs.from_json.print_hexadecimal.Goals as goal

pub returns-in-Ok-clause-ok : goal.returns-in-Ok-clause-ok
returns-in-Ok-clause-ok g c =
    let of = buffered g.W.Sink.emitted g.W.Sink.room in
    let has = held g.W.Sink.emitted g.W.Sink.room in
    let text = message_output false c.args.message.now in
    let kind = λ (t : List ℕ). t ≡ text in
    let new = c.new-pieces.ensures in
    let printed = c.push_hexadecimal-printed in
    let done = closed_lent kind printed.result c.close.result (of c.new-pieces.result) (of printed.new.out) (of c.close.new.self) _ (has c.args.output.now)
    (lent_buffer g.W.Sink.emitted g.W.Sink.room c.new-pieces.result new.same_reference new.sink new.empty new.going)
    (ok_text printed.result kind (λ t. Moves (of c.new-pieces.result) t (of printed.new.out)) text printed.ensures.ok refl)
    (err_text printed.result kind (λ t. MovesFront (of c.new-pieces.result) t (of printed.new.out)) text printed.ensures.err refl) c.close.ensures in
    let name = done.0 in
    let written : SomeText kind (Gets (has c.args.output.now) (has c.close.new.self.sink.now)) = rw c.in-Ok.is at done.1 in
    let got = subst (λ (t : List ℕ). Gets (has c.args.output.now) (has c.close.new.self.sink.now) t) written.is written.holds in
    search rules

pub returns-in-Err-clause-err : goal.returns-in-Err-clause-err
returns-in-Err-clause-err g c =
    let of = buffered g.W.Sink.emitted g.W.Sink.room in
    let has = held g.W.Sink.emitted g.W.Sink.room in
    let text = message_output false c.args.message.now in
    let kind = λ (t : List ℕ). t ≡ text in
    let new = c.new-pieces.ensures in
    let printed = c.push_hexadecimal-printed in
    let done = closed_lent kind printed.result c.close.result (of c.new-pieces.result) (of printed.new.out) (of c.close.new.self) _ (has c.args.output.now)
    (lent_buffer g.W.Sink.emitted g.W.Sink.room c.new-pieces.result new.same_reference new.sink new.empty new.going)
    (ok_text printed.result kind (λ t. Moves (of c.new-pieces.result) t (of printed.new.out)) text printed.ensures.ok refl)
    (err_text printed.result kind (λ t. MovesFront (of c.new-pieces.result) t (of printed.new.out)) text printed.ensures.err refl) c.close.ensures in
    let name = done.0 in
    let failed : SomeText kind (WritesFront (has c.args.output.now) (has c.close.new.self.sink.now) c.in-Err.e) = rw c.in-Err.is at done.1 in
    let written : SomeText kind (PrintsFront c.run_error_of.result (has c.args.output.now) (has c.close.new.self.sink.now)) =
    printed_text c.run_error_of.ensures failed in
    let front = subst (λ (t : List ℕ). PrintsFront c.run_error_of.result (has c.args.output.now) (has c.close.new.self.sink.now) t) written.is written.holds in
    search rules
