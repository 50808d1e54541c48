use Rattle.std.proofs.Common.{◌≡◌, length}
use denote.Text.{Utf8}
use denote.Shadow.{shadow}
use Rattle.kmip_ttlv_names.specs.NameTables.{tag_named}
use Rattle.kmip_ttlv_names.proofs.table.tag_named.Given as goal

abbrev pub invariant-lines : goal.invariant-lines
invariant-lines l = shadow (Utf8 l.rest) × (tag_named l.name l.table ≡ tag_named l.name l.rest)

abbrev pub decreases-lines : goal.decreases-lines
decreases-lines l = length l.rest
