use Rattle.std.proofs.Common.{Some, ap, refl, w32}
use Rattle.std.proofs.lemmas.Int.{to_z-of_z}
use Rattle.kmip_client.proofs.keys.raw_key.Goals as goal

pub returns : goal.returns
returns g c = record {
  raw = refl;
  compression = refl;
  value = (c.in_ok-bytes.bytes, c.new.result, c.in_ok-bytes.ensures.items_if_clones_equal (λ x y e. e), c.new.ensures.items, refl);
  algorithm = refl;
  length = ap (λ z. Some z) (to_z-of_z w32 c.args.length c.ranges.length);
  wrapping = refl;
}
