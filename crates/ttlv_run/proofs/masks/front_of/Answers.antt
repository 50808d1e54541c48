use Rattle.kmip_ttlv_types.specs.Names.{number}
use Rattle.ttlv_run.proofs.Entries.{is_number, begins, all_begin, all_begins}
use Rattle.ttlv_run.proofs.masks.front_of.Goals as goal

pub returns : goal.returns
unfolding number is_number begins all_begin
returns c = search (all_begins, c.requires)
