use Rattle.std.proofs.Common.{map}
use Rattle.kmip_ttlv_types.specs.Held.{held, Gets}
use Rattle.kmip_ttlv_util.specs.Pieces.{SomeText}
use Rattle.ttlv_run.specs.{Compares.decoded, Compares.ComparesFirst, Texts.names_of}
use Rattle.ttlv_run.proofs.compared.print_pairs.Given as goal

abbrev pub invariant-pairs : goal.invariant-pairs
invariant-pairs g l =
    SomeText (λ t. ComparesFirst (names_of l.names) (map (λ d. decoded d.now) l.first) (map (λ d. decoded d.now) l.second) l.at t l.alike)
    (Gets (held g.W.Sink.emitted g.W.Sink.room l.initial.output) (held g.W.Sink.emitted g.W.Sink.room l.output))
