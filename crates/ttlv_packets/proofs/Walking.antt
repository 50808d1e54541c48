-- One more part of a capture.
use Rattle.std.proofs.Common.{◌≡◌, ◌∙◌, ℕ, ◌+◌, ◌≤◌, Bool, true, List, [], ◌++◌, length, drop, Some, sym, ap, subst, arith, length-drop}
use Rattle.ttlv_packets.specs.declared.{file.Interface.Interface, file.Block.Block, segment.Segment.Segment}
use Rattle.ttlv_packets.specs.Files.{Classic, record_more, Blocks, block_more, no_block}
use Rattle.ttlv_packets.specs.Files.{record_in, block_in, carried, order_behind, interfaces_behind, IsWithin}

pub record_moves :
    {s rest : List ℕ} {port at : ℕ} {big : Bool} {i found : Interface} {segments more : List Segment} {b : Block}
    → Classic s port big found at segments → i ≡ found → rest ≡ drop at s → Some b ≡ record_in big i rest at
    → more ≡ segments ++ carried s port b.kind
    → Classic s port big found (at + b.size) more
record_moves {s} {rest} {port} {at} {big} {i} {found} {segments} {more} {b} reads same is some added =
    let e = ap (λ (k : Interface). record_in big k (drop at s) at) (sym same)
    ∙ ap (λ (r : List ℕ). record_in big i r at) (sym is) ∙ sym some in
    subst (Classic s port big found (at + b.size)) (sym added) (record_more at segments b reads e)

pub block_moves :
    {s rest : List ℕ} {port at : ℕ} {big after : Bool} {is behind known : List Interface} {segments more : List Segment} {b : Block}
    → Blocks s port at big known segments → is ≡ known → rest ≡ drop at s → Some b ≡ block_in big is rest at
    → after ≡ order_behind big b.kind → behind ≡ interfaces_behind known b.kind
    → more ≡ segments ++ carried s port b.kind
    → Blocks s port (at + b.size) after behind more
block_moves {s} {rest} {port} {at} {big} {after} {is} {behind} {known} {segments} {more} {b} reads same front some order further added =
    let e = ap (λ (k : List Interface). block_in big k (drop at s) at) (sym same)
    ∙ ap (λ (r : List ℕ). block_in big is r at) (sym front) ∙ sym some in
    let next = block_more at big known segments b reads e in
    let P = λ (o : Bool). Blocks s port (at + b.size) o behind more in
    let Q = λ (k : List Interface). Blocks s port (at + b.size) (order_behind big b.kind) k more in
    let R = Blocks s port (at + b.size) (order_behind big b.kind) (interfaces_behind known b.kind) in
    subst P (sym order) (subst Q (sym further) (subst R (sym added) next))

pub blocks_begin : (s : List ℕ) (port : ℕ) {is : List Interface} {segments : List Segment} → is ≡ [] → segments ≡ [] → Blocks s port 0 true is segments
blocks_begin s port {is} {segments} none no_segment =
    let P = λ (k : List Interface). Blocks s port 0 true k segments in
    subst P (sym none) (subst (Blocks s port 0 true []) (sym no_segment) no_block)

-- a part within the rest is within the whole
pub stays_within : (s : List ℕ) {rest : List ℕ} (at : ℕ) {b : Block} → at ≤ length s → rest ≡ drop at s → IsWithin at (length rest) b → at + b.size ≤ length s
stays_within s {rest} at {b} within is h = omega (arith, h.fits, ap length is, length-drop at s)
