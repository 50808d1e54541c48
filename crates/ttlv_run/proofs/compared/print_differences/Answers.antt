use Rattle.std.specs.Borrow.{Bor}
use Rattle.std.proofs.Common.{◌∙◌, List, ℕ, map, ap, subst}
use Rattle.std.proofs.lemmas.Result.{err_from_is_err_and, IfErr-weaker}
use Rattle.kmip_ttlv_types.specs.Held.{held}
use Rattle.ttlv_run.specs.{Compares.decoded, Compares.messages_in, Compares.PrintsAll, Compares.PrintsSome, Texts.names_of}
use Rattle.ttlv_run.proofs.{Comparing.messages_of, Comparing.none_made, Printing.ok_so}
use Rattle.ttlv_run.proofs.compared.print_differences.Goals as goal

pub returns-in_err-rows-clause-err : goal.returns-in_err-rows-clause-err
returns-in_err-rows-clause-err g c =
    let y = err_from_is_err_and c.from_residual.result c.from_residual.ensures.1 in
    let broken = none_made (names_of c.args.names.now) (messages_in c.args.first.now) (messages_in c.args.second.now)
    (held g.W.Sink.emitted g.W.Sink.room c.args.output.now) y.2 in
    rw y.1 broken

pub returns-in_err-others-clause-err : goal.returns-in_err-others-clause-err
returns-in_err-others-clause-err g c =
    let y = err_from_is_err_and c.from_residual-in_err-others.result c.from_residual-in_err-others.ensures.1 in
    let broken = none_made (names_of c.args.names.now) (messages_in c.args.first.now) (messages_in c.args.second.now)
    (held g.W.Sink.emitted g.W.Sink.room c.args.output.now) y.2 in
    rw y.1 broken

pub returns-clause-ok : goal.returns-clause-ok
returns-clause-ok g c =
    let names = names_of c.args.names.now in
    let old = held g.W.Sink.emitted g.W.Sink.room c.args.output.now in
    let new = held g.W.Sink.emitted g.W.Sink.room c.print_pairs.new.output in
    let now : Bor (List ℕ) → List ℕ = λ s. s.now in
    let first = messages_of c.as_slice.result.now c.args.first.now (ap (map now) c.as_slice.ensures.value ∙ c.in_ok-rows.ensures) in
    let second = messages_of c.as_slice-2.result.now c.args.second.now (ap (map now) c.as_slice-2.ensures.value ∙ c.in_ok-others.ensures) in
    ok_so c.print_pairs.result c.print_pairs.ensures.ok
    (λ alike h. subst (λ (m : List (List ℕ)). PrintsAll names m (messages_in c.args.second.now) old new alike) first
    (subst (λ (m : List (List ℕ)). PrintsAll names (map (λ (d : Bor (List ℕ)). decoded d.now) c.as_slice.result.now) m old new alike) second h))

pub returns-clause-err : goal.returns-clause-err
returns-clause-err g c =
    let names = names_of c.args.names.now in
    let old = held g.W.Sink.emitted g.W.Sink.room c.args.output.now in
    let new = held g.W.Sink.emitted g.W.Sink.room c.print_pairs.new.output in
    let now : Bor (List ℕ) → List ℕ = λ s. s.now in
    let first = messages_of c.as_slice.result.now c.args.first.now (ap (map now) c.as_slice.ensures.value ∙ c.in_ok-rows.ensures) in
    let second = messages_of c.as_slice-2.result.now c.args.second.now (ap (map now) c.as_slice-2.ensures.value ∙ c.in_ok-others.ensures) in
    IfErr-weaker c.print_pairs.result _ _
    (λ why h. subst (λ (m : List (List ℕ)). PrintsSome names m (messages_in c.args.second.now) old new why) first
    (subst (λ (m : List (List ℕ)). PrintsSome names (map (λ (d : Bor (List ℕ)). decoded d.now) c.as_slice.result.now) m old new why) second h))
    c.print_pairs.ensures.err
