use Rattle.std.proofs.Common.{rules, arith, ◌≡◌, ◌∙◌, ◌∷◌, ℕ, true, false, ap, sym}
use Rattle.ttlv_run.specs.Spellings.{is_left_out, bare_name}
use Rattle.ttlv_run.proofs.Written.{bare_none, bare_behind, bare_first}
use Rattle.ttlv_run.proofs.spelling.next_letter.Goals as goal

pub returns-then-not-is_left_out : goal.returns-then-not-is_left_out
returns-then-not-is_left_out c =
    let out : is_left_out c.in-Some.b.now ≡ false = search rules in (
      c.bytes.invariant.same ∙ bare_first c.in-Some.ensures.cases.0 out
          ∙ ap (λ (b : ℕ). b ∷ bare_name c.in-Some.more.now) (sym c.to_ascii_lowercase.ensures.value),
      omega (arith, c.in-Some.ensures.cases.1, c.bytes.invariant.within),
    )

pub bytes-preserved : goal.bytes-preserved
bytes-preserved c =
    let out : is_left_out c.in-Some.b.now ≡ true = search rules in
    record {
      same = c.bytes.invariant.same ∙ bare_behind c.in-Some.ensures.cases.0 out;
      within = omega (arith, c.in-Some.ensures.cases.1, c.bytes.invariant.within);
    }

pub returns : goal.returns
returns c = c.bytes.invariant.same ∙ bare_none c.bytes.rest.now c.in_default.ensures.cases
