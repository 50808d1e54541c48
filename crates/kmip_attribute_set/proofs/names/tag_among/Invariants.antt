-- What is left has the same tag.
use Rattle.std.proofs.Common.{◌≡◌, drop, map}
use Rattle.kmip_attribute_set.specs.Names.{tag_among, row_of}
use Rattle.kmip_attribute_set.proofs.names.tag_among.Given as goal

abbrev pub invariant-loop-row : goal.invariant-loop-row
invariant-loop-row l = tag_among (map row_of l.rows) l.name ≡ tag_among (map row_of (drop l.row-index l.rows)) l.name
