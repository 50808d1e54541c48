-- What is left has the same name.
use Rattle.std.proofs.Common.{◌≡◌, drop, map}
use Rattle.kmip_attribute_set.specs.Names.{name_among, row_of}
use Rattle.kmip_attribute_set.proofs.names.name_among.Given as goal

abbrev pub invariant-loop-row : goal.invariant-loop-row
invariant-loop-row l = name_among (map row_of l.rows) l.tag ≡ name_among (map row_of (drop l.row-index l.rows)) l.tag
