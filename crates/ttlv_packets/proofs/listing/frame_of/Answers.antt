use Rattle.std.proofs.Common.{◌≡◌, ◌∙◌, ap, refl, drop}
use Rattle.ttlv_packets.specs.Listings.{link_of}
use Rattle.ttlv_packets.proofs.listing.frame_of.Goals as goal

pub returns : goal.returns
returns c =
    let link : c.link_of.result ≡ link_of (drop c.args.start c.args.bytes.now) = c.link_of.ensures ∙ ap link_of c.behind.ensures.is in
    rw (link, c.saturating_sub.ensures) refl
