use Rattle.kmip_ttlv_util.proofs.Fronts.{hex_boundary}
use Rattle.kmip_ttlv_util.proofs.undiag.split_digits.Goals as goal

pub split_at-requires : goal.split_at-requires
split_at-requires c = hex_boundary c.args.s.now _ c.utf8.s c.digits_in_front-count.ensures.count
