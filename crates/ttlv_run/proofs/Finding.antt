-- A message that was found, printed alone.
use Rattle.std.proofs.Common.{arith, ◌≡◌, ◌∙◌, ◌⊎◌, inl, inr, ℕ, ◌+◌, ◌≤◌, Bool, true, false, if◌then◌else◌, List, [], ◌++◌, length, take}
use Rattle.std.proofs.Common.{Option, Some, None, refl, ap, sym, subst, append-nil}
use Rattle.std.proofs.Math.Seq.{take-length}
use Rattle.kmip_ttlv_types.specs.Places.{length_at}
use Rattle.kmip_ttlv_items.specs.{declared.found.Fault.Fault, declared.found.FoundItem.FoundItem, FoundItems.Lists, ItemWalks.AreBytes, ItemWalks.Ended}
use Rattle.ttlv_captures.proofs.Messages.{size_is}
use Rattle.ttlv_run.specs.declared.{job.Look.Look, job.Task.TheVariants.Show, messages.Place.Place, messages.Reached.Reached}
use Rattle.ttlv_run.specs.declared.{messages.Reached.TheVariants.Behind, messages.Reached.TheVariants.Fault as AtFault}
use Rattle.kmip_ttlv_types.specs.Held.{Held, Gets}
use Rattle.ttlv_run.specs.Finds.{GivesUpTo}
use Rattle.ttlv_run.specs.Messages.{is_there, first_size, message_at, Whole, whole_none, whole_more, IsWrong, not_taken, Breaks, Prints}
use Rattle.ttlv_run.specs.Streaming.{StandsAt, EndsAt, PrintsOn, ContinuesBehind}
use Rattle.ttlv_run.specs.Texts.{Names, IsMessageText, message_text}

module _ {m : List ℕ} {xs : List FoundItem} (lists : Lists m xs) where
  -- it is all that its header states
  whole_size : first_size m ≡ length m
  whole_size = by (is_there m)
    where
      by : (b : Bool) → (if b then 8 + length_at m 0 else length m) ≡ length m
      by true = size_is m xs lists
      by false = refl

  alone : message_at m 0 ≡ m
  alone = ap (λ (n : ℕ). take n m) whole_size ∙ take-length m

  alone_there : StandsAt m 0 m true
  alone_there = record { more = []; within = omega arith; are = sym (append-nil m); ends = λ _. refl }

  module _ (names : Names) (look : Look) where
    -- something is printed of it
    pub prints_one : (lines : List ℕ) × Prints names (Show look) m lines None
    prints_one =
        let t = message_text names (Show look) 0 m xs None lists in
        let tells : IsMessageText names (Show look) 0 m t None = record { found = xs; ended = lists; is = refl } in (
          t,
          whole_more 0 (length m) [] t t whole_none (omega (arith, size_is m xs lists))
              (subst (λ (s : List ℕ). IsMessageText names (Show look) 0 s t None) (sym alone) tells) refl refl (omega (arith, ap length alone)),
        )

    -- whole messages in it are none, or all of it
    whole_ends : (q : ℕ) (t : List ℕ) → Whole names (Show look) m q t → (q ≡ 0) ⊎ (length m ≤ q)
    whole_ends _ _ whole_none = inl refl
    whole_ends _ _ (whole_more p q old new reported before lt tells taken is q_is) = elim (whole_ends p old before) [
      | inl first ↦ let far : length m ≤ q = omega (arith, q_is, first, ap (λ (k : ℕ). length (message_at m k)) first, ap length alone) in inr far
      | inr past ↦ absurd (omega (arith, past, lt))
    ]

    -- so it has no fault
    right : (at : ℕ) (found : List FoundItem) (fault : Option Fault) (place : Place) → Ended m found fault
        → IsWrong (Show look) (message_at m at) at place fault
        → ⊥
    right at found (Some f) place ended wrong = ended.1 xs lists
    right at found None place ended (not_taken other a b c) = absurd cc

    no_breaks : {t : List ℕ} {place : Place} → Breaks names (Show look) m t place → ⊥
    no_breaks {t} {place} b = elim (whole_ends b.at b.front b.whole) [
      | inr past ↦ absurd (omega (arith, past, b.left))
      | inl first ↦
          let here = ap (message_at m) first ∙ alone in
          right b.at b.tells.found b.fault place (subst (λ (s : List ℕ). Ended s b.tells.found b.fault) here b.tells.ended) b.wrong
    ]

    -- what is printed of it alone is all that is printed of it
    pub printed_one : (reached : Reached) (t : List ℕ) → EndsAt m true reached → PrintsOn names (Show look) 0 m true reached t
        → Prints names (Show look) m t None
    printed_one (Behind count) t end prints = let all : 0 + count ≡ length m = omega (arith, end) in
        subst (λ (k : ℕ). Whole names (Show look) m k t) all (prints m [] alone_there whole_none)
    printed_one (AtFault place) t end prints = absurd (no_breaks (prints m [] alone_there whole_none))

    pub printed_part : (t : List ℕ) → AreBytes m → ContinuesBehind names (Show look) 0 m true t → (more : List ℕ) × Prints names (Show look) m (t ++ more) None
    printed_part t plain goes =
        let k = goes m [] alone_there plain whole_none in
        by k.place k.more k.prints
      where
        by : (place : Option Place) (more : List ℕ) → Prints names (Show look) m (t ++ more) place
            → (more : List ℕ) × Prints names (Show look) m (t ++ more) None
        by None more prints = (more, prints)
        by (Some place) more prints = absurd (no_breaks prints)

-- messages that were printed up to an offset
pub record Given (names : Names) (look : Look) (input : List ℕ) (at : ℕ) (old new : Held) : Type 0 where
  pub text : List ℕ
  pub gives : GivesUpTo names look input at text
  pub appended : Gets old new text
