-- Pairs of messages that are compared, one behind the other.
use Rattle.std.specs.Borrow.{Bor}
use Rattle.std.proofs.Common.{◌≡◌, ◌∙◌, inr, ℕ, ◌+◌, ◌<◌, Bool, true, not, ◌&&◌, List, [], ◌∷◌, ◌++◌, length, map}
use Rattle.std.proofs.Common.{Result, refl, ap, sym, subst, arith}
use Rattle.std.specs.{Prelude.max, List.slice_get}
use Rattle.kmip_ttlv_types.specs.Held.{Held, Gets}
use Rattle.kmip_ttlv_types.proofs.Held.{gets_none, gets_both}
use Rattle.kmip_ttlv_util.specs.Pieces.{SomeText}
use Rattle.ttlv_run.specs.declared.compared.Pair.{Pair}
use Rattle.ttlv_run.specs.declared.job.Asked.{Asked}
use Rattle.ttlv_run.specs.declared.run_error.RunError.{RunError}
use Rattle.ttlv_run.specs.declared.run_error.RunError.TheVariants.{NoMemory}
use Rattle.ttlv_run.specs.Compares.{decoded, messages_in, ComparesPair, FailsPair, unmade, unsent, ComparesFirst, no_pair, one_pair, PrintsSome}
use Rattle.ttlv_run.specs.Compares.{EndsComparing, ComparesFiles}
use Rattle.ttlv_run.specs.Differences.{lines_in}
use Rattle.ttlv_run.specs.Files.{At, Opening}
use Rattle.ttlv_run.specs.Reasons.{PrintsFront}
use Rattle.ttlv_run.specs.Texts.{Names}
use Rattle.ttlv_run.proofs.Appending.{prints_behind, memory_ended}

map-map : (rows : List (Bor (List ℕ))) → map decoded (map (λ (s : Bor (List ℕ)). s.now) rows) ≡ map (λ (d : Bor (List ℕ)). decoded d.now) rows
map-map [] = refl
map-map (row ∷ rows) = ap (λ (s : List (List ℕ)). decoded row.now ∷ s) (map-map rows)

-- the messages of lines that are known in other words
pub messages_of : (rows : List (Bor (List ℕ))) (text : List ℕ) → map (λ (s : Bor (List ℕ)). s.now) rows ≡ lines_in text
    → map (λ (d : Bor (List ℕ)). decoded d.now) rows ≡ messages_in text
messages_of rows text e = sym (map-map rows) ∙ ap (map decoded) e

module _ (names : Names) (first second : List (List ℕ)) where
  -- what was printed of the first pairs
  abbrev pub Printed : Held → Held → ℕ → Bool → Type 0
  Printed old new count alike = SomeText (λ t. ComparesFirst names first second count t alike) (Gets old new)

  pub none_printed : (old : Held) → Printed old old 0 true
  none_printed old = record { text = []; is = no_pair; holds = gets_none old }

  pub one_printed : {old mid new : Held} {count : ℕ} {alike differ : Bool} → Printed old mid count alike
      → SomeText (λ t. ComparesPair names (slice_get first count) (slice_get second count) t differ) (Gets mid new)
      → Printed old new (count + 1) (not differ && alike)
  one_printed {count = count} {alike} {differ} a b = record {
    text = a.text ++ b.text;
    is = one_pair count a.text b.text alike differ a.is b.is;
    holds = gets_both a.text b.text a.holds b.holds;
  }

  -- one more was not printed to its end
  pub one_failed : {old mid new : Held} {count : ℕ} {alike : Bool} {why : RunError} → count < max (length first) (length second)
      → Printed old mid count alike → FailsPair names (slice_get first count) (slice_get second count) mid new why
      → PrintsSome names first second old new why
  one_failed {old} {mid} {new} {count} {alike} {why} lt a (unmade memory same) = record {
    count = count;
    text = a.text;
    alike = alike;
    within = omega (arith, lt);
    compared = a.is;
    reason = inr (inr memory);
    appended = subst (λ (w : RunError). PrintsFront w old new a.text) (sym memory)
        (subst (λ (h : Held). PrintsFront NoMemory old h a.text) (sym same) (memory_ended a.text a.holds));
  }
  one_failed {count = count} {alike} lt a (unsent text differ is why front) = record {
    count = count + 1;
    text = a.text ++ text;
    alike = not differ && alike;
    within = omega (arith, lt);
    compared = one_pair count a.text text alike differ a.is is;
    reason = why;
    appended = prints_behind a.text text a.holds front;
  }

  -- memory ran out before the first
  pub none_made : (old : Held) {why : RunError} → why ≡ NoMemory → PrintsSome names first second old old why
  none_made old memory = record {
    count = 0;
    text = [];
    alike = true;
    within = omega arith;
    compared = no_pair;
    reason = inr (inr memory);
    appended = subst (λ (w : RunError). PrintsFront w old old []) (sym memory) (memory_ended [] (gets_none old));
  }

-- how comparing ends, of texts that are known in other words
pub ends_as : (names : Names) (old new errors errors_now : Held) {a b s t : List ℕ} (result : Result Bool RunError) → a ≡ s → b ≡ t
    → EndsComparing names (messages_in a) (messages_in b) old new errors errors_now result
    → EndsComparing names (messages_in s) (messages_in t) old new errors errors_now result
ends_as names old new errors errors_now {a} {b} {s} {t} result p q h =
    subst (λ (x : List ℕ). EndsComparing names (messages_in s) (messages_in x) old new errors errors_now result) q
    (subst (λ (x : List ℕ). EndsComparing names (messages_in x) (messages_in b) old new errors errors_now result) p h)

-- what came of two files, by names and at a place that are known in other words
pub compares_as : {O I : Type 0} (how : Opening O I) (n m : Names) (asked : Asked) (pair : Pair) (old was new : At O) (status : ℕ)
    → n ≡ m → old ≡ was → ComparesFiles how n asked pair old new status → ComparesFiles how m asked pair was new status
compares_as how n m asked pair old was new status p q h =
    subst (λ (x : At _). ComparesFiles how m asked pair x new status) q
    (subst (λ (x : Names). ComparesFiles how x asked pair old new status) p h)
