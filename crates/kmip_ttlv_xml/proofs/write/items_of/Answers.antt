use Rattle.std.proofs.Common.{◌∙◌, List, ℕ, subst}
use Rattle.kmip_ttlv_items.specs.ItemWalks.{Ended}
use Rattle.kmip_ttlv_items.specs.Stepping.{Steps, StepsTo}
use Rattle.kmip_ttlv_json.specs.Printings.{IsThere}
use Rattle.kmip_ttlv_xml.proofs.Giving.{all_push}
use Rattle.kmip_ttlv_xml.proofs.write.items_of.Goals as goal

pub items-init : goal.items-init
items-init g c = record {
  bytes = c.new-walk.ensures.bytes;
  met = rw c.new-found.ensures.items c.new-walk.ensures.met;
  there = rw c.new-found.ensures.items tt;
}

pub finished-requires : goal.finished-requires
finished-requires g c =
    let ends = subst (Steps c.items.walk c.next.new.self) c.in-End.is c.in_ok-item.ensures.ok in
    record {
      ended =
          subst (λ (s : List ℕ). Ended s c.items.found.items c.in-End.fault) c.items.invariant.bytes
          (ends.1 c.items.found.items c.items.invariant.met);
      there = c.items.invariant.there;
    }

pub items-smaller : goal.items-smaller
items-smaller g c =
    let comes : StepsTo c.items.walk c.next.new.self c.in-Item.item = subst (Steps c.items.walk c.next.new.self) c.in-Item.is c.in_ok-item.ensures.ok in
    comes.onward

pub items-preserved : goal.items-preserved
items-preserved g c =
    let comes : StepsTo c.items.walk c.next.new.self c.in-Item.item = subst (Steps c.items.walk c.next.new.self) c.in-Item.is c.in_ok-item.ensures.ok in
    let there = subst (λ (s : List ℕ). IsThere s c.in-Item.item) c.items.invariant.bytes comes.whole in
    record {
      bytes = c.next.ensures.bytes ∙ c.items.invariant.bytes;
      met = rw c.in_ok-push-in-Item.ensures.items (comes.met c.items.found.items c.items.invariant.met);
      there =
          rw c.in_ok-push-in-Item.ensures.items
          (all_push (IsThere c.args.message.now) c.items.found.items c.in-Item.item c.items.invariant.there there);
    }
