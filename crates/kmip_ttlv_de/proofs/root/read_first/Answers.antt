use Rattle.std.proofs.Common.{[]}
use Rattle.kmip_ttlv_types.specs.Places.{tag_at}
use Rattle.kmip_ttlv_base.specs.Forms.{fields_of}
use Rattle.kmip_ttlv_reader.specs.Steps.{within}
use Rattle.kmip_ttlv_reader.specs.Outcomes.{all_outcome, fields_outcome, first_outcome}
use Rattle.kmip_ttlv_reader.proofs.Steps.{failure_then}
use Rattle.kmip_ttlv_de.proofs.root.read_first.Goals as goal

pub returns : goal.returns
unfolding first_outcome
returns g c =
    let all = all_outcome (fields_of c.args.fields.now) c.args.deny (fields_outcome (fields_of c.args.fields.now)) c.args.bytes.now (tag_at c.args.bytes.now 0)
    [] 8 c.in_ok-end.end in
    let read = rw (c.tag_at-owner.ensures, c.new-stored.ensures) at c.in-Err.ensures.read in
    record {
      step = rw (c.in_ok-named_first.ensures, c.in_ok-end.ensures.step) (failure_then (within (tag_at c.args.bytes.now 0) all) _ c.within.result
          (rw c.tag_at-owner.ensures at (c.within.ensures.list all read)));
    }
