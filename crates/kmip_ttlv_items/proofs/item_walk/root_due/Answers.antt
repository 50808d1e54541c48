use Rattle.std.proofs.Common.{List, Some, refl, subst, sym}
use Rattle.kmip_ttlv_items.specs.{declared.found.FoundItem.FoundItem, ItemWalks.Ended}
use Rattle.kmip_ttlv_items.proofs.Walks.{met_none, ended_at_root}
use Rattle.kmip_ttlv_items.proofs.item_walk.root_due.Goals as goal

pub returns-in-Err : goal.returns-in-Err
returns-in-Err c =
    let w = c.args.bytes.now in
    let kind = c.in-Err.kind in
    λ es xs m. subst (λ (s : List FoundItem). Ended w s (Some record { offset = 0; kind = kind })) (sym (met_none refl m).1)
    (ended_at_root w kind c.in-Err.ensures.err)
