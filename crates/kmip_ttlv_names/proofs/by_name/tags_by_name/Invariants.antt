use Rattle.std.proofs.Common.{◌≡◌, ℕ, List, length}
use denote.Text.{Utf8}
use denote.Shadow.{shadow}
use Rattle.kmip_ttlv_names.specs.NameTables.{first_of, tag_named, tag_in}
use Rattle.kmip_ttlv_names.proofs.by_name.tags_by_name.Given as goal

abbrev pub invariant-lines : goal.invariant-lines
invariant-lines g l = record {
  text : shadow (Utf8 l.rest);
  read : (name : List ℕ) → tag_named name l.table ≡ first_of (tag_in l.tags name) (tag_named name l.rest);
}

abbrev pub decreases-lines : goal.decreases-lines
decreases-lines g l = length l.rest
