use Rattle.std.proofs.Common.{◌∙◌, Ok, ap, arith, rules}
use Rattle.kmip_ttlv_json.specs.Events.{unplaced}
use Rattle.kmip_ttlv_json.proofs.Events.{too_long, is_read}
use Rattle.kmip_ttlv_json.proofs.read.from_json_by.Goals as goal

pub returns-in-Ok-true-clause-err : goal.returns-in-Ok-true-clause-err
returns-in-Ok-true-clause-err g c = (
  too_long c.args.text.now c.reserve_exact.new.self.items c.read_text.new.out.items (unplaced c.in-Ok.item) c.in-Ok.ensures.ok
      (c.reserve_exact.ensures.items ∙ c.new-out.ensures.items) (ap unplaced (c.in-Ok-true.is ∙ ap (λ b. Ok b) c.in-Ok-true.field-0-test))
      (omega (arith, c.read_text.new.out.ok.0, c.len.ensures, c.if-len.true)),
  search rules,
)

pub returns-in-Ok-true-2-clause-ok : goal.returns-in-Ok-true-2-clause-ok
returns-in-Ok-true-2-clause-ok g c =
    is_read c.args.text.now c.reserve_exact.new.self.items c.read_text.new.out.items (unplaced c.in-Ok.item) c.in-Ok.ensures.ok
    (c.reserve_exact.ensures.items ∙ c.new-out.ensures.items) (ap unplaced (c.in-Ok-true.is ∙ ap (λ b. Ok b) c.in-Ok-true.field-0-test))
    (omega (arith, c.read_text.new.out.ok.0, c.len.ensures, c.if-len.false))
