use Rattle.std.proofs.Common.{arith, ℕ, ◌<◌, get_or}
use Rattle.kmip_ttlv_items.proofs.Walks.{met_walks, ended_behind, ended_whole}
use Rattle.kmip_ttlv_items.proofs.item_walk.end_behind.Goals as goal

pub returns-then-offset-bytes : goal.returns-then-offset-bytes
returns-then-offset-bytes c = λ xs m. ended_behind (met_walks c.requires m) c.if-offset-bytes.true

pub returns : goal.returns
returns c =
    let plain : (k : ℕ) → get_or c.args.bytes.now k 0 < 256 = λ i. omega (arith, c.type_inv.bytes i) in
    λ xs m. ended_whole c.args.bytes.now plain c.args.offset xs (met_walks c.requires m) c.if-offset-bytes.false
