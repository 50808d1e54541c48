use Rattle.std.proofs.Common.{arith, ◌++◌, List, ℕ, take, subst}
use Rattle.ttlv_run.specs.Decoding.{Reading}
use Rattle.ttlv_run.proofs.DigitRuns.{shifted}
use Rattle.ttlv_run.proofs.digits.decode_run.Goals as goal

pub returns-in_ok-add-in-Some-clause-made : goal.returns-in_ok-add-in-Some-clause-made
returns-in_ok-add-in-Some-clause-made g c =
    let n = c.run_in-count.result in
    record {
      came = take c.in-Some.few c.push_run.new.bytes;
      are = c.in_ok-add-in-Some.ensures.ok;
      holds = λ mark s all r.
          subst (λ (t : List ℕ). Reading c.push_run.new.self mark (s ++ t) (all ++ take c.in-Some.few c.push_run.new.bytes))
          (shifted c.args.chars.now n (omega (arith, c.if-count-eq0.false)) (omega (arith, c.run_in-count.ensures.within, c.if-count-eq0.false)))
          (c.in-Some.ensures.some mark s all r);
    }
