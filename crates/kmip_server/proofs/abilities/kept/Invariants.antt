use Rattle.std.proofs.Common.{◌≡◌, ◌++◌, drop}
use Rattle.std.specs.Prelude.{filter}
use Rattle.kmip_server.specs.Abilities.{speaks}
use Rattle.kmip_server.proofs.abilities.kept.Given as goal

-- those found so far and those in what is left are those in all
abbrev pub invariant-loop-version : goal.invariant-loop-version
invariant-loop-version g l = filter (λ v. speaks l.known v) l.versions ≡ l.found.items ++ filter (λ v. speaks l.known v) (drop l.version-index l.versions)
