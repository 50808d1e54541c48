use Rattle.std.proofs.Common.{List, None, IsPermutation, length, subst, ap, ◌∙◌}
use Rattle.ttlv_packets.specs.{Streams.places, Captures.Carries, declared.place.Placed.Placed}
use Rattle.ttlv_packets.proofs.Orders.{segments_sorted, places_sorted, messages_sorted}
use Rattle.ttlv_packets.proofs.packets.put_together.Goals as goal

pub returns-clause-put : goal.returns-clause-put
returns-clause-put g c = record {
  by_flow = c.sort.new.self.items;
  by_place = c.sort-2.new.self.items;
  by_stream = c.carry_all.new.packets.messages.items;
  flows = record { same = c.in_ok-sort.ensures.permutation; sorted = segments_sorted c.sort.new.self.items c.in_ok-sort.ensures.sorted };
  streams = record {
    same = subst (λ (ps : List Placed). IsPermutation ps c.sort-2.new.self.items) (c.in_ok-placed.ensures ∙ ap (places None) c.as_slice.ensures.value)
        c.in_ok-sort-2.ensures.permutation;
    sorted = places_sorted c.sort-2.new.self.items c.in_ok-sort-2.ensures.sorted;
  };
  carries = subst (λ (ps : List Placed). Carries c.args.source.now ps (length ps) c.carry_all.new.packets.bytes.items c.carry_all.new.packets.messages.items)
      c.as_slice-2.ensures.value c.in_ok-carry_all.ensures.carries;
  shown = record { same = c.in_ok-sort-3.ensures.permutation; sorted = messages_sorted c.sort-3.new.self.items c.in_ok-sort-3.ensures.sorted };
}
