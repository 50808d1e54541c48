use Rattle.std.proofs.Common.{arith, ◌∙◌, ◌≡◌, ◌<◌, ◌-◌, length, refl, ap, length-drop}
use Rattle.ttlv_packets.specs.Messages.{no_message}
use Rattle.ttlv_packets.proofs.Splitting.{split_on}
use Rattle.ttlv_packets.proofs.message.split.Goals as goal

pub messages-init : goal.messages-init
messages-init g c = record { within = omega arith; some = c.requires.some; later = λ q h. refl; splits = no_message }

pub messages-preserved : goal.messages-preserved
messages-preserved g c =
    let l = c.messages in
    let size = c.size_in-size.ensures in
    let left : length c.behind.result.now ≡ length c.args.bytes.now - l.at = ap length c.behind.ensures.is ∙ length-drop l.at c.args.bytes.now in
    let there : 0 < length c.behind.result.now = omega (arith, left, c.messages-test.true) in
    let some : 0 < c.size_in-size.result = size.some there in
    record {
      within = omega (arith, left, size.within, l.invariant.within);
      some = c.from_giver-rest.ensures.some;
      later = λ q h. l.invariant.later q (omega arith) ∙ c.from_giver-rest.ensures.later q (omega arith);
      splits = split_on c.args.bytes.now c.behind.result.now c.args.start c.args.run.now l.rest.now c.from_giver-rest.result.now c.args.messages.now.items
          l.messages.items _ l.at c.size_in-size.result _ c.message_by.result l.invariant.splits c.messages-test.true size.is c.behind.ensures.is some
          l.invariant.later c.from_giver-rest.ensures.some c.from_giver-rest.ensures.first c.message_by.ensures c.in_ok-push.ensures.items;
    }
