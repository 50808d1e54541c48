use Rattle.std.proofs.Common.{rules, ◌<◌, ◌^◌, length}
use Rattle.kmip_ttlv_xml.proofs.write.canonical_of.Goals as goal

pub returns-in-Ok : goal.returns-in-Ok
returns-in-Ok g c =
    let long : length c.args.message.now < 2 ^ 64 = search rules in
    let lists = c.requires.lists in
    record {
      items = c.args.items.now;
      lists = lists;
      is =
          c.items_have_one_text.ensures _ _ _ _ c.in-Ok.ensures.ok
          (c.a_message_is_written_back.ensures.items c.args.message.now c.args.items.now long lists);
    }
