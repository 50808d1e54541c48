use Rattle.std.proofs.{Common.[], Common.refl, lemmas.Result.err_from_is_err_and}
use Rattle.kmip_ttlv_types.specs.{Digits.tag_text, Places.tag_at}
use Rattle.kmip_ttlv_reader.specs.Steps.{within}
use Rattle.kmip_ttlv_reader.specs.Outcomes.{all_outcome, fields_outcome, opened}
use Rattle.kmip_ttlv_reader.proofs.{Steps.failure_then, Structures.first_is}
use Rattle.kmip_ttlv_kinds.proofs.reading.read_first.Goals as goal

pub returns-in_err-end : goal.returns-in_err-end
returns-in_err-end g c =
    let p = err_from_is_err_and c.from_residual.result c.from_residual.ensures.1 in
    record {
      step = rw (p.1, p.2, first_is c.args.tag g.L.PartList.fields c.args.closed c.args.bytes.now)
          (failure_then (opened (tag_text c.args.tag) c.args.bytes.now 0) _ _ c.in_err-end.ensures.step);
    }

pub returns-in-Ok : goal.returns-in-Ok
returns-in-Ok g c =
    let opens = c.in_ok-end.ensures.step in
    let read = rw (c.tag_at-owner.ensures, c.new-cursor.ensures) at c.in-Ok.ensures.read in
    record { step = rw (first_is c.args.tag g.L.PartList.fields c.args.closed c.args.bytes.now, opens, read) refl }

pub returns : goal.returns
returns g c =
    let opens = c.in_ok-end.ensures.step in
    let all = all_outcome g.L.PartList.fields c.args.closed (fields_outcome g.L.PartList.fields) c.args.bytes.now (tag_at c.args.bytes.now 0)
    [] 8 c.in_ok-end.end in
    let read = rw (c.tag_at-owner.ensures, c.new-cursor.ensures) at c.in-Err.ensures.read in
    record {
      step = rw (first_is c.args.tag g.L.PartList.fields c.args.closed c.args.bytes.now, opens)
          (failure_then (within (tag_at c.args.bytes.now 0) all) _ c.within.result (rw c.tag_at-owner.ensures at (c.within.ensures.list all read)));
    }
