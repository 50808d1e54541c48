use Rattle.std.proofs.Common.{◌≡◌, ◌+◌, ℕ}
use Rattle.kmip_ttlv_json.specs.Parts.{closes}
use Rattle.kmip_ttlv_json.proofs.print.push_closes.Given as goal

abbrev pub invariant-closing : goal.invariant-closing
invariant-closing g l = (n : ℕ) × (n + l.left ≡ l.fn.count) × g.S.TextSink.adds l.fn.out (closes n) l.out

abbrev pub decreases-closing : goal.decreases-closing
decreases-closing g l = l.left
