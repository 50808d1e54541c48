use Rattle.std.proofs.Common.{◌∙◌, ap, sym, arith, w32}
use Rattle.std.proofs.lemmas.Int.{to_z-of_z}
use borrow.Author.Rules.{sfits_of}
use Rattle.ttlv_vectors.specs.Samples.{read_single}
use Rattle.ttlv_vectors.proofs.SingleData.{is_one, first_is_number, is_read}
use Rattle.ttlv_vectors.proofs.samples.SingleDeserialize.from_data.Goals as goal

pub index-requires : goal.index-requires
index-requires g c = omega (arith, is_one c.args.value.now c.fields_of-fields.result.now.items c.fields_of-fields.ensures c.requires)

pub number_of-requires : goal.number_of-requires
number_of-requires g c =
    first_is_number c.args.value.now c.fields_of-fields.result.now.items c.index.result.now c.fields_of-fields.ensures c.requires c.index.ensures

pub returns : goal.returns
returns g c =
    let n = c.number_of.result in
    is_read c.args.value.now c.fields_of-fields.result.now.items c.index.result.now n c.fields_of-fields.ensures c.requires c.index.ensures c.number_of.ensures
    ∙ ap read_single (sym (to_z-of_z w32 n (sfits_of c.number_of.type_inv)))
