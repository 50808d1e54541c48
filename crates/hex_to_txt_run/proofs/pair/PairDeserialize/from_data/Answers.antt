use Rattle.std.proofs.Common.{◌∙◌, ap, sym, arith, w32}
use mir.Val.{to_z, of_z}
use Rattle.std.proofs.lemmas.Int.{to_z-of_z}
use borrow.Author.Rules.{sfits_of}
use Rattle.hex_to_txt_run.specs.Pair.{read_pair}
use Rattle.hex_to_txt_run.proofs.Pairs.{are_two, first_is_number, second_is_number, is_read}
use Rattle.hex_to_txt_run.proofs.pair.PairDeserialize.from_data.Goals as goal

pub index-requires : goal.index-requires
index-requires g c = omega (arith, are_two c.args.value.now c.fields_of-fields.result.now.items c.fields_of-fields.ensures c.requires)

pub index-requires-2 : goal.index-requires-2
index-requires-2 g c = omega (arith, are_two c.args.value.now c.fields_of-fields.result.now.items c.fields_of-fields.ensures c.requires)

pub number_of-requires : goal.number_of-requires
number_of-requires g c =
    first_is_number c.args.value.now c.fields_of-fields.result.now.items c.index.result.now c.fields_of-fields.ensures c.requires c.index.ensures

pub number_of-requires-2 : goal.number_of-requires-2
number_of-requires-2 g c =
    second_is_number c.args.value.now c.fields_of-fields.result.now.items c.index-2.result.now c.fields_of-fields.ensures c.requires c.index-2.ensures

pub returns : goal.returns
returns g c =
    let a = c.number_of.result in
    let b = c.number_of-2.result in
    is_read c.args.value.now c.fields_of-fields.result.now.items c.index.result.now c.index-2.result.now a b c.fields_of-fields.ensures c.requires
    c.index.ensures c.index-2.ensures c.number_of.ensures c.number_of-2.ensures
    ∙ ap (λ z. read_pair z b) (sym (to_z-of_z w32 a (sfits_of c.number_of.type_inv)))
    ∙ ap (λ z. read_pair (to_z w32 (of_z w32 a)) z) (sym (to_z-of_z w32 b (sfits_of c.number_of-2.type_inv)))
