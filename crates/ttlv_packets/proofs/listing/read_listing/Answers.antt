use Rattle.std.proofs.Common.{◌≡◌, ◌∙◌, ℕ, List, length, sym, subst}
use Rattle.ttlv_packets.specs.Listings.{AreWithin, closed, listed_of}
use Rattle.ttlv_packets.proofs.Rows.{closed_within, lists_within}
use Rattle.ttlv_packets.proofs.listing.read_listing.Goals as goal

pub segments_of-requires : goal.segments_of-requires
segments_of-requires g c =
    let l = c.in_ok-listing.listing in
    let p = listed_of l in
    let bytes : c.as_slice.result.now ≡ p.bytes = c.as_slice.ensures.value ∙ c.close.ensures.bytes in
    let frames : c.as_slice-2.result.now ≡ closed p = c.as_slice-2.ensures.value ∙ c.in_ok-close.ensures.frames in
    let within = closed_within p (lists_within c.args.text.now l.end p c.in_ok-listing.ensures.lists) in
    subst (λ (s : List ℕ). AreWithin (length s) c.as_slice-2.result.now) (sym bytes) (subst (AreWithin (length p.bytes)) (sym frames) within)
