use Rattle.std.proofs.Common.{◌≡◌, ◌∙◌, ◌≤◌, ℕ, List, ap, arith, refl, sym}
use Rattle.std.proofs.lemmas.Bool.{le-ltb}
use Rattle.kmip_ttlv_base.specs.Values.{no_values}
use Rattle.kmip_ttlv_reader.specs.Outcomes.{each_outcome}
use Rattle.kmip_ttlv_reader.specs.Steps.{gives}
use Rattle.kmip_ttlv_parts.specs.Kept.{items_outcome}
use Rattle.kmip_ttlv_kinds.proofs.kept.read_items.Goals as goal

-- from a place to itself there are no items
nothing_there : (b : List ℕ) (p e : ℕ) → p ≡ e → items_outcome b p e ≡ gives no_values
unfolding each_outcome
nothing_there b p e is = rw (le-ltb p e (omega (arith, is))) refl

pub returns-then-pos-scope-clause-read : goal.returns-then-pos-scope-clause-read
returns-then-pos-scope-clause-read g c =
    nothing_there c.args.scope.now.bytes.now c.args.pos c.args.scope.now.end c.if-pos-scope.true ∙ ap gives (sym c.none.ensures)
