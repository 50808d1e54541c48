use Rattle.std.proofs.Common.{arith, ◌≡◌, ℕ, List, ◌++◌, take, replicate, ap, ◌∙◌}
use Rattle.std.proofs.lemmas.List.{take-replicate}
use Rattle.kmip_ttlv_write.proofs.emit.put_zeros.Goals as goal

pub returns-clause-front : goal.returns-clause-front
returns-clause-front c =
    let k : take c.args.count (replicate 8 0) ≡ replicate c.args.count 0 = take-replicate c.args.count 8 0 (omega (arith, c.requires.few)) in
    c.put.ensures.front ∙ ap (λ (s : List ℕ). take c.args.at c.args.out.now ++ s) k
