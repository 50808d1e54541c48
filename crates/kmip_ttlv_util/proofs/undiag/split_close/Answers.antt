use Rattle.std.proofs.Common.{◌≡◌, ◌≢◌, ◌∷◌, Bor, ℕ, List, Option, Some, None, arith}
use Rattle.std.specs.{Prelude.IfNone, Option.MatchOption}
use Rattle.std.proofs.lemmas.Str.Pattern.{strip_prefix_char}
use Rattle.kmip_ttlv_util.proofs.undiag.split_close.Goals as goal

-- nothing was split off, so the text doesn't begin with `]`
not_shut : (s : List ℕ) (depth : ℕ) (r : Option (Bor (List ℕ))) → MatchOption r ((rest : List ℕ) → s ≢ 93 ∷ rest) (λ x. s ≡ 93 ∷ x.now)
    → IfNone r ((rest : List ℕ) → s ≡ 93 ∷ rest → depth ≡ 0)
not_shut s depth None h = λ rest e. absurd (h rest e)
not_shut s depth (Some x) h = tt

pub returns-clause-none : goal.returns-clause-none
returns-clause-none c = not_shut c.args.s.now c.args.depth c.strip_prefix.result
    (strip_prefix_char 93 c.args.s.now c.strip_prefix.result c.strip_prefix.ensures.cases (omega arith))
