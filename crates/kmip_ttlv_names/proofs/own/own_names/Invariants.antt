use Rattle.std.proofs.Common.{length}
use denote.Text.{Utf8}
use denote.Shadow.{shadow}
use Rattle.kmip_ttlv_util.specs.TagNames.{name_in}
use Rattle.kmip_ttlv_names.proofs.Owns.{OwnReading}
use Rattle.kmip_ttlv_names.proofs.own.own_names.Given as goal

abbrev pub invariant-lines : goal.invariant-lines
invariant-lines g l = record { text : shadow (Utf8 l.rest); read : OwnReading l.table l.rest (name_in l.names.tags) (name_in l.names.values) l.number }

abbrev pub decreases-lines : goal.decreases-lines
decreases-lines g l = length l.rest
