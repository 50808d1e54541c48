use Rattle.std.proofs.Common.{ℕ, ◌+◌, ◌-◌, ◌*◌, List, length}
use Rattle.kmip_ttlv_util.specs.{Pieces.SomeText, Walks.place_of, TagNames.name_in, Pretty.pretty_style}
use Rattle.kmip_ttlv_util.proofs.Loop.{Walking}
use Rattle.kmip_ttlv_util.proofs.pretty.print_to.Given as goal

abbrev pub invariant-walk : goal.invariant-walk
invariant-walk g l = (count : ℕ)
    × SomeText (λ t. (wording : List ℕ) → Walking (pretty_style (name_in l.names) l.closed l.bytes wording) l.closed l.bytes t count (place_of l.walk))
    (λ t. g.S.TextSink.adds l.fn.out t l.out)

abbrev pub decreases-walk : goal.decreases-walk
decreases-walk g l = 2 * (length l.bytes - l.walk.pos) + length l.walk.ends.items
