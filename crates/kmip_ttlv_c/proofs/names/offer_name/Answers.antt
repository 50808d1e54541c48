use Rattle.std.proofs.Common.{List, ℕ, Option, Bor, ap, subst}
use Rattle.std.specs.Prelude.{option_map}
use Rattle.kmip_ttlv_c.specs.{Buffers.Offers, Buffers.offers}
use Rattle.kmip_ttlv_c.proofs.names.offer_name.Goals as goal

pub returns-in-Some : goal.returns-in-Some
returns-in-Some c = offers c.in-Some.name.now (ap (λ (o : Option (Bor (List ℕ))). option_map (λ s. s.now) o) c.in-Some.is)
    (subst (λ (t : List ℕ). Offers t c.offer.result c.offer.new.length c.args.out.now c.offer.new.out) c.as_bytes.ensures.value c.offer.ensures)
