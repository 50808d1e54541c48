use Rattle.std.proofs.Common.{◌≡◌, drop}
use Rattle.kmip_ttlv_reader.specs.Reads.{first_named}
use Rattle.kmip_ttlv_kinds.proofs.TableLemmas.{units}
use Rattle.kmip_ttlv_kinds.proofs.listed.row_named.Given as goal

abbrev pub invariant-loop-text : goal.invariant-loop-text
invariant-loop-text g l = first_named l.name g.E.Listed.variants ≡ first_named l.name (units (drop l.text-index l.table))
