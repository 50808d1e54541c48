use Rattle.std.proofs.Common.{subst, arith}
use Rattle.kmip_ttlv_reader.specs.ReadLaws.{AreBytes}
use Rattle.kmip_ttlv_parts.specs.Kept.{given_values, items_outcome}
use Rattle.kmip_ttlv_parts.proofs.KeptLemmas.{given_is, items_agree, made_kept, written_read}
use Rattle.kmip_ttlv_parts.proofs.kept.Kept.from_items.Goals as goal

pub invariant_of-result : goal.invariant_of-result
invariant_of-result g c =
    let o = items_outcome c.args.bytes.now c.args.pos c.args.end in
    let read = given_is o c.requires.whole in
    let agree = items_agree c.args.bytes.now c.args.pos c.args.end (given_values o) (λ i. omega (arith, c.type_inv.bytes i)) c.requires.before
    c.requires.within read in
    let written = written_read (given_values o) agree.0 c.in-Ok.items.items agree.1 c.in-Ok.ensures in
    record { kept = (made_kept c.in-Ok.items.items (given_values o) written.0 written.1 (subst AreBytes c.as_slice.ensures.value c.are_bytes.ensures)).0 }

pub returns-in-Ok : goal.returns-in-Ok
returns-in-Ok g c =
    let o = items_outcome c.args.bytes.now c.args.pos c.args.end in
    let read = given_is o c.requires.whole in
    let agree = items_agree c.args.bytes.now c.args.pos c.args.end (given_values o) (λ i. omega (arith, c.type_inv.bytes i)) c.requires.before
    c.requires.within read in
    let written = written_read (given_values o) agree.0 c.in-Ok.items.items agree.1 c.in-Ok.ensures in
    (made_kept c.in-Ok.items.items (given_values o) written.0 written.1 (subst AreBytes c.as_slice.ensures.value c.are_bytes.ensures)).1
