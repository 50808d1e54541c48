use Rattle.std.proofs.Common.{length}
use denote.Text.{Utf8}
use denote.Shadow.{shadow}
use Rattle.kmip_ttlv_util.specs.{Lines.indented, TagNames.name_in, Pieces.SomeText}
use Rattle.kmip_ttlv_util.proofs.Going.{Going}
use Rattle.kmip_ttlv_util.proofs.undiag.read_back_to.Given as goal

abbrev pub invariant-parts : goal.invariant-parts
invariant-parts g l = shadow (Utf8 l.rest) × shadow (Utf8 l.shown)
    × SomeText (λ p. Going (indented l.indentation (name_in l.names)) l.prefix l.s p l.pending l.shown l.depth l.rest) (λ p. g.S.TextSink.adds l.fn.out p l.out)

abbrev pub decreases-parts : goal.decreases-parts
decreases-parts g l = length l.rest
