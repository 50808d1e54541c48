use Rattle.std.proofs.Common.{length}
use denote.Text.{Utf8}
use denote.Shadow.{shadow}
use Rattle.kmip_ttlv_util.specs.TagNames.{name_in}
use Rattle.kmip_ttlv_names.proofs.Tables.{Reading}
use Rattle.kmip_ttlv_names.proofs.table.tag_names.Given as goal

abbrev pub invariant-lines : goal.invariant-lines
invariant-lines g l = record { text : shadow (Utf8 l.rest); read : Reading l.table l.rest (name_in l.names) l.number }

abbrev pub decreases-lines : goal.decreases-lines
decreases-lines g l = length l.rest
