use Rattle.std.proofs.Common.{rules, arith, ◌∙◌, ◌<◌, ◌^◌, [], ◌∷◌, ◌++◌, length, refl, ap, sym, subst, length-append}
use Rattle.kmip_ttlv_items.specs.Stepping.{Steps, StepsTo}
use Rattle.kmip_ttlv_items.proofs.{Steps.overlaid_none, Steps.keeps_more, Walks.met_few}
use Rattle.kmip_ttlv_items.proofs.walk.walk_items.Goals as goal

pub walk-init : goal.walk-init
walk-init g c = record { bytes = c.new-walk.ensures.bytes; keeps = ([], c.new-walk.ensures.met, refl, sym (overlaid_none c.args.out.now)) }

pub overflow_add-count : goal.overflow_add-count
overflow_add-count g c =
    let found = c.walk.invariant.keeps.0 in
    let long : length c.args.bytes.now < 2 ^ 64 = search rules in
    omega (arith, (met_few c.walk.invariant.keeps.1), long, ap length c.walk.invariant.bytes, c.walk.invariant.keeps.2)

pub walk-preserved : goal.walk-preserved
walk-preserved g c =
    let found = c.walk.invariant.keeps.0 in
    let i = c.in-Item.item in
    let comes : StepsTo c.walk.walk c.next.new.self i = subst (Steps c.walk.walk c.next.new.self) c.in-Item.is c.in_ok-item.ensures.ok in
    record {
      bytes = c.next.ensures.bytes ∙ c.walk.invariant.bytes;
      keeps = (
        found ++ (i ∷ []),
        comes.met found c.walk.invariant.keeps.1,
        omega (arith, c.walk.invariant.keeps.2, length-append found (i ∷ [])),
        keeps_more g.T.FromFoundItem.converted found i c.args.out.now c.walk.out c.put.new.out c.walk.count c.walk.invariant.keeps.3 c.walk.invariant.keeps.2
            c.put.ensures,
      );
    }
