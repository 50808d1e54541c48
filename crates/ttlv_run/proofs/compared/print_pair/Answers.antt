use Rattle.std.specs.Borrow.{Bor}
use Rattle.std.proofs.Common.{List, ℕ, Option, subst, string_bytes}
use Rattle.std.specs.Prelude.{option_map}
use Rattle.std.proofs.lemmas.Result.{err_from_is_err_and}
use Rattle.kmip_ttlv_types.specs.Held.{held}
use Rattle.ttlv_run.specs.{Compares.decoded, Compares.FailsPair, Compares.unsent, Reasons.PrintsFront, Texts.names_of}
use Rattle.ttlv_run.proofs.compared.print_pair.Goals as goal

pub returns-in_err-send-clause-err : goal.returns-in_err-send-clause-err
returns-in_err-send-clause-err g c =
    let y = err_from_is_err_and c.from_residual-in_err-send.result c.from_residual-in_err-send.ensures.1 in
    let of : Option (Bor (List ℕ)) → Option (List ℕ) = option_map (λ (d : Bor (List ℕ)). decoded d.now) in
    let old = held g.W.Sink.emitted g.W.Sink.room c.args.output.now in
    let new = held g.W.Sink.emitted g.W.Sink.room c.send.new.output in
    let why = c.in_err-send.field-0.0 in
    let front = subst (λ (t : List ℕ). PrintsFront why old new t) c.as_bytes.ensures.value c.in_err-send.ensures.err in
    let broken : FailsPair (names_of c.args.names.now) (of c.args.first) (of c.args.second) old new why =
    unsent (string_bytes c.push_pair.new.out) c.in_ok-differ.differ c.in_ok-differ.ensures c.in_err-send.ensures.why front in
    rw (y.1, y.2) broken
