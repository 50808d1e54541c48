-- Which items are shown where tags are asked for.
use Rattle.std.specs.Borrow.{Bor}
use Rattle.std.proofs.Common.{◌≡◌, ◌∙◌, ℕ, ◌+◌, ◌==◌, Bool, true, false, not, ◌&&◌, ◌||◌, if◌then◌else◌, List, [], ◌∷◌, Option, Some, ap, refl, arith}
use Rattle.std.specs.Prelude.{nat_lt, nat_le}
use Rattle.std.specs.List.{list_any}
use Rattle.std.proofs.lemmas.Bool.Decides.{nat_tests}
use Rattle.kmip_ttlv_items.specs.declared.found.FoundItem.{FoundItem}
use Rattle.ttlv_run.specs.declared.{job.Look.Look, lines.Reach.Reach}
use Rattle.ttlv_run.specs.Texts.{Names, reach_end, is_asked, reach_after, reach_all, no_reach, covers, is_passed}

greater_reaches : (place own end : ℕ) → nat_lt place (if nat_lt end own then own else end) ≡ (nat_lt place end || nat_lt place own)
greater_reaches place own end = grind (arith, nat_tests)

or_false : (b : Bool) → b ≡ (b || false)
or_false true = refl
or_false false = refl

or_both : (a b c : Bool) → ((a || b) || c) ≡ (a || (b || c))
or_both true b c = refl
or_both false b c = refl

-- with one more item, the items of the tags reach behind a place if they did, or if that item does
one_reaches : (is_one : Bool) (place end : ℕ) (i : FoundItem)
    → nat_lt place (reach_end is_one end i) ≡ (nat_lt place end || (is_one && nat_lt place (i.offset + 8 + i.length)))
one_reaches true place end i = greater_reaches place (i.offset + 8 + i.length) end
one_reaches false place end i = or_false (nat_lt place end)

not_behind : (a b : ℕ) → nat_le a b ≡ not (nat_lt b a)
not_behind a b = grind (arith, nat_tests)

none_behind : (place : ℕ) → nat_lt place 0 ≡ false
none_behind place = grind (arith, nat_tests)

module _ (names : Names) (look : Look) (bytes : List ℕ) (tags : Bor (List ℕ)) (is : look.only ≡ Some tags) (place : ℕ) where
  after_reaches : (r : Reach) (i : FoundItem)
      → nat_lt place (reach_after names look bytes r i).asked ≡ (nat_lt place r.asked || covers tags.now place i)
  after_reaches r i =
      ap (λ (only : Option (Bor (List ℕ))). nat_lt place (reach_end (is_asked only i.tag) r.asked i)) is
      ∙ one_reaches (list_any (λ tag. tag == i.tag) tags.now) place r.asked i

  all_reach : (r : Reach) (met : List FoundItem)
      → nat_lt place (reach_all names look bytes r met).asked ≡ (nat_lt place r.asked || list_any (covers tags.now place) met)
  all_reach r [] = or_false (nat_lt place r.asked)
  all_reach r (i ∷ more) =
      all_reach (reach_after names look bytes r i) more
      ∙ ap (λ (b : Bool). b || list_any (covers tags.now place) more) (after_reaches r i)
      ∙ or_both (nat_lt place r.asked) (covers tags.now place i) (list_any (covers tags.now place) more)

  pub passed_by : (i : FoundItem) (met : List FoundItem) → i.offset ≡ place
      → is_passed look.only (reach_all names look bytes no_reach met) i ≡ not (list_any (covers tags.now place) met)
  passed_by i met at =
      let r = reach_all names look bytes no_reach met in
      ap (λ (only : Option (Bor (List ℕ))). is_passed only r i) is
      ∙ ap (λ (p : ℕ). nat_le r.asked p) at
      ∙ not_behind r.asked place
      ∙ ap not (all_reach no_reach met ∙ ap (λ (b : Bool). b || list_any (covers tags.now place) met) (none_behind place))
