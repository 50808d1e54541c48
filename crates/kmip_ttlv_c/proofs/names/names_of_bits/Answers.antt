use Rattle.std.proofs.Common.{arith, ◌≡◌, ◌-◌, ◌^◌, ℕ, List, Option, sym, ap, ◌∙◌}
use Rattle.std.specs.Prelude.{string_bytes}
use Rattle.kmip_ttlv_names.specs.ValueNames.{name_of_value}
use Rattle.kmip_ttlv_c.specs.NameTexts.{joined}
use Rattle.kmip_ttlv_c.proofs.Bits.{first_bit, next_bit, last_bit}
use Rattle.kmip_ttlv_c.proofs.names.names_of_bits.Goals as goal

pub loop-place-init : goal.loop-place-init
loop-place-init c = first_bit (λ bit. name_of_value bit c.args.list.now) c.args.mask (string_bytes c.new-text.result) c.new-text.ensures.bytes

pub loop-place-preserved : goal.loop-place-preserved
loop-place-preserved c =
    let before = string_bytes c.loop-place.text in
    let behind = string_bytes c.join_name.new.text in
    next_bit (λ bit. name_of_value bit c.args.list.now) c.loop-place.place c.loop-place.rest before behind
    (omega (arith, c.loop-place-test.true))
    (c.in_ok-join_name.ensures {u = c.in_ok-join_name.field-0} ∙ ap (λ (name : Option (List ℕ)). joined before name) c.set_name.ensures)
    ∙ c.loop-place.invariant

pub returns : goal.returns
returns c =
    let left : 32 - c.loop-place.place ≡ 0 = omega (arith, c.loop-place-test.false) in
    sym (last_bit (λ bit. name_of_value bit c.args.list.now) (32 - c.loop-place.place) (2 ^ c.loop-place.place) c.loop-place.rest
    (string_bytes c.loop-place.text) left) ∙ c.loop-place.invariant
