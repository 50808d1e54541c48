use Rattle.std.proofs.Common.{◌≡◌, take, drop, length, arith, length-drop}
use Rattle.std.proofs.lemmas.Grind.{common_steps}
use Rattle.kmip_ttlv_types.proofs.Taken.{TakesMore-filled}
use Rattle.kmip_ttlv_types.proofs.stream.append_piece.Goals as goal

pub returns-clause-takes : goal.returns-clause-takes
returns-clause-takes g c =
    let at = c.len-at.result in
    let has = c.fill_rest.new.bytes.items in
    let front : take at has ≡ c.args.bytes.now.items = grind (arith, common_steps) in
    let long : length (drop at has) ≡ c.args.count = grind (arith, common_steps, length-drop) in
    TakesMore-filled (Unit {0}) _ _ _ _ has at _ c.fill_rest.result front long c.requires.some c.fill_rest.ensures.rest
