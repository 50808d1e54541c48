use Rattle.std.proofs.Common.{sym}
use Rattle.kmip_ttlv_parts.proofs.KeptLemmas.{kept_long}
use Rattle.kmip_ttlv_parts.proofs.kept.Kept.first_tag.Goals as goal

pub tag_at-requires : goal.tag_at-requires
tag_at-requires g c =
    let some = sym (rw c.as_slice-bytes.ensures.value at c.if-is_empty.ensures) in
    rw c.as_slice-bytes.ensures.value (kept_long c.args.self.now.items.items c.args.self.now.kept some)
