use Rattle.std.proofs.Common.{arith, List, ℕ, ◌++◌, length, take, ap, ◌∙◌}
use Rattle.kmip_ttlv_types.specs.{ItemTypes.pad_len, Trees.leaf_bytes, Places.size}
use Rattle.kmip_ttlv_write.specs.GivenItems.{given_content}
use Rattle.kmip_ttlv_write.proofs.{Opens.leaf_len, Emitting.leaf_size, Holding.leaf_holds}
use Rattle.kmip_ttlv_write.proofs.emit.put_value.Goals as goal

pub returns-clause-holds : goal.returns-clause-holds
returns-clause-holds c = λ o h small.
    let i = c.args.item in
    let content = given_content c.args.lent.now i in
    let front = c.put_leaf-at.ensures.front ∙ ap (λ (s : List ℕ). take c.args.place.at c.args.out.now ++ leaf_bytes i.tag c.args.typ s)
    c.content_at-content.ensures in
    let e = c.content_at-content.ensures in
    let is = leaf_size c.args.lent.now c.args.typ i c.requires.leaf c.requires.value in
    let len = ap length e in
    let pad = ap (λ (s : List ℕ). pad_len (length s)) e in
    let at = c.put_leaf-at.ensures in
    leaf_holds c.put_leaf-at.result (size c.args.typ i.length) i.tag c.args.typ content h small is
    (omega (arith, at.place, at.len, c.requires.room.room, is, leaf_len i.tag c.args.typ content, len, pad)) front
