use Rattle.std.proofs.Common.{◌≡◌, ℕ, ap, ◌/◌, ◌*◌, ◌-◌, length, take, drop, refl, subst, sym, ◌∙◌}
use Rattle.std.proofs.lemmas.List.{length-take-le, take-append-drop}
use Rattle.base64.specs.GeneralPurpose.{IsBytes}
use Rattle.base64.proofs.EngineFacts.{front_bytes}
use Rattle.ttlv_run.specs.Inputs.{width}
use Rattle.ttlv_run.proofs.DigitRuns.{run_taken}
use Rattle.ttlv_run.proofs.decoder.Decoder.push_run.Goals as goal

pub returns-clause-some : goal.returns-clause-some
returns-clause-some c = λ mark s all r.
    let n = c.in_ok-count.count in
    let bytes = c.decode_form.new.bytes in
    let are : IsBytes (take n bytes) =
    front_bytes (take n bytes) (drop n bytes) (subst IsBytes (sym (take-append-drop n bytes)) c.decode_form.ensures.bytes) in
    let whole : n ≡ length c.args.digits.now / width c.args.self.now.form * (width c.args.self.now.form - 1) =
    c.if-count-digits.false ∙ ap (λ (w : ℕ). length c.args.digits.now / w * (w - 1)) c.width-width.ensures.is in
    run_taken _ c.args.digits.now c.args.next _ c.requires.run c.decode_form.ensures.digits are
    (length-take-le n bytes c.in_ok-count.ensures.within ∙ whole) c.in_ok-count.ensures.some r refl refl refl refl refl refl
