use Rattle.std.proofs.Common.{◌+◌, ◌-◌, ◌*◌, length}
use Rattle.kmip_ttlv_util.specs.{Diagnostics.diag_style, Pieces.SomeText, Walks.place_of}
use Rattle.kmip_ttlv_util.proofs.Loop.{Walking}
use Rattle.kmip_ttlv_util.proofs.diagnostic.diagnose_to.Given as goal

abbrev pub invariant-walk : goal.invariant-walk
invariant-walk g l = SomeText (λ t. Walking (diag_style l.prefix) l.closed l.bytes t l.count (place_of l.walk)) (λ t. g.S.TextSink.adds l.fn.out t l.out)

abbrev pub decreases-walk : goal.decreases-walk
decreases-walk g l = 2 * (length l.bytes - l.walk.pos) + length l.walk.ends.items
