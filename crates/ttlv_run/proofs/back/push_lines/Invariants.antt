use Rattle.std.proofs.Common.{◌-◌, length}
use Rattle.kmip_ttlv_util.specs.{Pieces.SomeText, TagNames.name_in}
use Rattle.ttlv_run.proofs.BackLines.{Lined}
use Rattle.ttlv_run.proofs.back.push_lines.Given as goal

abbrev pub invariant-lines : goal.invariant-lines
invariant-lines g l = SomeText (Lined (name_in l.names) l.prefix l.base l.bytes l.at l.found) (λ t. g.S.TextSink.adds l.fn.out t l.out)

abbrev pub decreases-lines : goal.decreases-lines
decreases-lines g l = length l.bytes - l.at
