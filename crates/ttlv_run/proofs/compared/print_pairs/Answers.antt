use Rattle.std.specs.Borrow.{Bor}
use Rattle.std.proofs.Common.{Bool, ◌+◌, ◌<◌, Option, List, ℕ, map, sym, subst, length}
use Rattle.std.specs.Prelude.{option_map, max}
use Rattle.std.specs.List.{slice_get}
use Rattle.std.proofs.lemmas.Result.{err_from_is_err_and}
use Rattle.std.proofs.lemmas.List.{length-map}
use Rattle.kmip_ttlv_types.specs.Held.{held, Gets}
use Rattle.kmip_ttlv_util.specs.Pieces.{SomeText}
use Rattle.ttlv_run.specs.{Compares.decoded, Compares.ComparesPair, Compares.FailsPair, Compares.PrintsSome, Texts.names_of}
use Rattle.ttlv_run.proofs.Comparing.{Printed, none_printed, one_printed, one_failed}
use Rattle.ttlv_run.proofs.compared.print_pairs.Goals as goal

abbrev messages : List (Bor (List ℕ)) → List (List ℕ)
messages rows = map (λ (d : Bor (List ℕ)). decoded d.now) rows

pub pairs-init : goal.pairs-init
pairs-init g c = none_printed (names_of c.args.names.now) (messages c.args.first.now) (messages c.args.second.now)
    (held g.W.Sink.emitted g.W.Sink.room c.args.output.now)

pub returns-in_err-differ-clause-err : goal.returns-in_err-differ-clause-err
returns-in_err-differ-clause-err g c =
    let y = err_from_is_err_and c.from_residual.result c.from_residual.ensures.1 in
    let names = names_of c.args.names.now in
    let first = messages c.args.first.now in
    let second = messages c.args.second.now in
    let has = held g.W.Sink.emitted g.W.Sink.room in
    let why = c.in_err-differ.field-0.0 in
    let failed : FailsPair names (slice_get first c.pairs.at) (slice_get second c.pairs.at) (has c.pairs.output) (has c.print_pair.new.output) why =
    subst (λ (m : Option (List ℕ)). FailsPair names m (slice_get second c.pairs.at) (has c.pairs.output) (has c.print_pair.new.output) why)
    c.row_at-one.ensures
    (subst (λ (m : Option (List ℕ)). FailsPair names (option_map (λ (d : Bor (List ℕ)). decoded d.now) c.row_at-one.result) m (has c.pairs.output)
    (has c.print_pair.new.output) why) c.row_at-other.ensures c.in_err-differ.ensures.err) in
    let within : c.pairs.at < max (length first) (length second) =
    simp length-map (subst (λ (n : ℕ). c.pairs.at < n) c.max-count.ensures c.pairs-test.true) in
    let broken : PrintsSome names first second (has c.args.output.now) (has c.print_pair.new.output) why =
    one_failed names first second within c.pairs.invariant failed in
    rw (y.1, y.2) broken

pub pairs-preserved : goal.pairs-preserved
pairs-preserved g c =
    let names = names_of c.args.names.now in
    let first = messages c.args.first.now in
    let second = messages c.args.second.now in
    let has = held g.W.Sink.emitted g.W.Sink.room in
    let printed : SomeText (λ t. ComparesPair names (slice_get first c.pairs.at) (slice_get second c.pairs.at) t c.in_ok-differ.differ)
    (Gets (has c.pairs.output) (has c.print_pair.new.output)) =
    subst (λ (m : Option (List ℕ)). SomeText (λ t. ComparesPair names m (slice_get second c.pairs.at) t c.in_ok-differ.differ)
    (Gets (has c.pairs.output) (has c.print_pair.new.output))) c.row_at-one.ensures
    (subst (λ (m : Option (List ℕ)). SomeText (λ t. ComparesPair names (option_map (λ (d : Bor (List ℕ)). decoded d.now) c.row_at-one.result) m t
    c.in_ok-differ.differ) (Gets (has c.pairs.output) (has c.print_pair.new.output))) c.row_at-other.ensures c.in_ok-differ.ensures.ok) in
    subst (λ (alike : Bool). Printed names first second (has c.args.output.now) (has c.print_pair.new.output) (c.pairs.at + 1) alike)
    (sym c.still_alike-alike.ensures) (one_printed names first second c.pairs.invariant printed)
