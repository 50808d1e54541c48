use Rattle.std.proofs.Common.{◌≡◌, ◌<◌, ◌≤◌, length, map, refl, sym, ap, subst, ◌∙◌}
use Rattle.kmip_ttlv_c.specs.LentItems.{c_item, walked}
use Rattle.kmip_ttlv_c.proofs.Reports.{overlaid_length, walk_fault, walk_whole, walk_short}
use Rattle.kmip_ttlv_c.proofs.items.kmip_ttlv_items.Goals as goal

pub returns-then-is_some : goal.returns-then-is_some
returns-then-is_some c = walked c.in-Ok.end c.in-Ok.ensures refl c.fault_of-2.ensures (walk_fault c.in-Ok.end.fault c.in-Ok.end.count (length c.args.out.now)
    (sym c.is_some.ensures ∙ c.if-is_some.true))

pub returns-then-end-out : goal.returns-then-end-out
returns-then-end-out c =
    let long : length c.walk_items.new.out ≡ length c.args.out.now = ap length c.in-Ok.ensures.converted
    ∙ overlaid_length (map c_item c.in-Ok.ensures.found) c.args.out.now in
    walked c.in-Ok.end c.in-Ok.ensures refl c.fault_of-2.ensures (walk_short c.in-Ok.end.fault c.in-Ok.end.count (length c.args.out.now) (sym c.is_some.ensures
    ∙ c.if-is_some.false) (subst (λ n. n < c.in-Ok.end.count) long c.if-end-out.true))

pub returns : goal.returns
returns c =
    let long : length c.walk_items.new.out ≡ length c.args.out.now = ap length c.in-Ok.ensures.converted
    ∙ overlaid_length (map c_item c.in-Ok.ensures.found) c.args.out.now in
    walked c.in-Ok.end c.in-Ok.ensures refl c.fault_of-2.ensures (walk_whole c.in-Ok.end.fault c.in-Ok.end.count (length c.args.out.now) (sym c.is_some.ensures
    ∙ c.if-is_some.false) (subst (λ n. c.in-Ok.end.count ≤ n) long c.if-end-out.false))
