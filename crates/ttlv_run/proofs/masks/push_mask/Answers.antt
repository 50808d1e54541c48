use Rattle.std.proofs.Common.{rules, arith, ◌≡◌, ◌<◌, ◌^◌, ◌++◌, [], ℕ, ◌%◌, ◌==◌, List, Option, Some, Bor, ap, sym, refl, ◌∙◌, append-nil}
use Rattle.std.specs.Prelude.{option_map}
use Rattle.kmip_ttlv_names.specs.OwnNames.{value_key}
use Rattle.kmip_ttlv_names.specs.ValueNames.{or_else}
use Rattle.kmip_ttlv_util.specs.TagNames.{name_in}
use Rattle.kmip_ttlv_util.proofs.Saying.{adds_same, breaks_rest, err_now}
use Rattle.ttlv_run.specs.Masks.{behind_mark, bit_names, mask_names, value_named}
use Rattle.ttlv_run.proofs.Bits.{first_place, next_place, bits_on, none_left, none_named, name_same, next_power, power_some, listed}
use Rattle.ttlv_run.proofs.masks.push_mask.Goals.{then-bits-test+else-not-is_unnamed, else-bits-test}
use Rattle.ttlv_run.proofs.masks.push_mask.Goals as goal

pub bits-init : goal.bits-init
unfolding mask_names
bits-init g c =
    let small : c.args.mask < 2 ^ 32 = search rules in (
      search rules,
      first_place c.args.mask small,
      record { text = []; is = refl; holds = g.met.S.TextSink.adds_none c.args.out.now },
      λ value le. listed c.args.list _ c.unwrap_or-entries.result c.unwrap_or-entries.ensures refl value,
    )

pub bits-preserved : goal.bits-preserved
bits-preserved g c =
    let names : ℕ → Option (List ℕ) = value_named (name_in c.args.names.now.own) (option_map (λ (s : Bor (List ℕ)). s.now) c.args.list) c.args.tag in
    let i = c.bits.invariant in
    let n = next_place names c.bits.place c.bits.rest c.bits.is_first i.1 c.bits-test.true in
    let w = i.2 in
    let name = name_same (name_in c.args.names.now.own) c.args.tag (2 ^ c.bits.place) (option_map (λ (s : Bor (List ℕ)). s.now) c.args.list)
    (Some c.bits.entries.now) (option_map (λ (s : Bor (List ℕ)). s.now) c.set_name.result.0) (c.bits.rest % 2 == 1)
    c.set_name.ensures.name (i.3 (2 ^ c.bits.place) (omega arith)) in
    let behind = behind_mark c.bits.is_first (option_map (λ s. s.now) c.set_name.result.0) in (
      search rules,
      n.to,
      record {
        text = w.text ++ behind;
        is = bits_on n w.text w.is name c.still_first-is_first.ensures;
        holds = g.met.S.TextSink.adds_both _ _ _ w.text behind w.holds c.in_ok-push_bit.ensures.ok;
      },
      λ value le. i.3 value (omega (arith, le, next_power c.bits.place))
          ∙ c.set_name.ensures.rest value (omega (arith, le, next_power c.bits.place, power_some c.bits.place)),
    )

-- the sink failed in a name, behind which others follow
pub returns-in_err-push_bit-clause-err : goal.returns-in_err-push_bit-clause-err
returns-in_err-push_bit-clause-err g c =
    let names : ℕ → Option (List ℕ) = value_named (name_in c.args.names.now.own) (option_map (λ (s : Bor (List ℕ)). s.now) c.args.list) c.args.tag in
    let i = c.bits.invariant in
    let n = next_place names c.bits.place c.bits.rest c.bits.is_first i.1 c.bits-test.true in
    let w = i.2 in
    let name = name_same (name_in c.args.names.now.own) c.args.tag (2 ^ c.bits.place) (option_map (λ (s : Bor (List ℕ)). s.now) c.args.list)
    (Some c.bits.entries.now) (option_map (λ (s : Bor (List ℕ)). s.now) c.set_name.result.0) (c.bits.rest % 2 == 1)
    c.set_name.ensures.name (i.3 (2 ^ c.bits.place) (omega arith)) in
    let here = g.met.S.TextSink.breaks_second _ _ _ w.text _ w.holds c.in_err-push_bit.ensures.err in
    err_now g.S.TextSink.adds g.S.TextSink.breaks _ _ _ _ (breaks_rest g.S.TextSink.adds g.S.TextSink.breaks g.met.S.TextSink.breaks_first _ _ _ _ _ here
    (sym (bits_on n w.text w.is name refl)))

-- no bit is left, or no bit that has a name
pub returns-clause-ok : goal.returns-clause-ok
returns-clause-ok g c =
    let names : ℕ → Option (List ℕ) = value_named (name_in c.args.names.now.own) (option_map (λ (s : Bor (List ℕ)). s.now) c.args.list) c.args.tag in
    let i = c.bits.invariant in
    let w = i.2 in
    let rest : bit_names names i.1.left (2 ^ c.bits.place) c.bits.rest c.bits.is_first ≡ [] = elim c.bits-test.branch [
      | then-bits-test+else-not-is_unnamed t ↦ none_named names i.1.left (2 ^ c.bits.place) c.bits.rest c.bits.is_first
          (λ other le. ap (or_else (name_in c.args.names.now.own (value_key c.args.tag other))) (i.3 other le)
          ∙ t.is_unnamed.ensures (search rules) c.args.tag other)
      | else-bits-test t ↦ let none : c.bits.rest ≡ 0 = omega (arith, t.bits-test.false) in
          rw none (none_left names i.1.left (2 ^ c.bits.place) c.bits.is_first)
    ] in
    adds_same g.S.TextSink.adds g.S.TextSink.breaks _ _ w.text _ w.holds (sym (w.is ∙ ap (λ (s : List ℕ). w.text ++ s) rest ∙ append-nil w.text))
