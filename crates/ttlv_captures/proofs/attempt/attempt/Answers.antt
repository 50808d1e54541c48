use Rattle.std.proofs.Common.{◌≡◌, ◌∙◌, ◌≤◌, ℕ, true, false, List, length, Option, Some, None, sym, ap, subst, arith}
use Rattle.kmip_ttlv_items.specs.declared.found.{Fault.Fault, FoundItem.FoundItem}
use Rattle.kmip_ttlv_items.specs.{FoundItems.Lists, ItemWalks.Judges}
use Rattle.ttlv_captures.specs.Notations.{tokens, bytes_of}
use Rattle.ttlv_captures.specs.Captures.{is_start, size_stated}
use Rattle.ttlv_captures.proofs.Messages.{none_unstarted, none_short, none_faulty, written, cost_none, cost_some}
use Rattle.ttlv_captures.proofs.attempt.attempt.Goals as goal

pub returns-then-not-is_start : goal.returns-then-not-is_start
returns-then-not-is_start g c =
    let un : is_start c.args.notation c.args.text.now ≡ false = sym c.is_start.ensures ∙ c.if-not-is_start.true in
    (none_unstarted c.args.notation c.args.text.now un, cost_none c.args.notation c.args.text.now un)

pub returns-then-len-size : goal.returns-then-len-size
returns-then-len-size g c =
    let n = c.args.notation in
    let s = c.args.text.now in
    let size = c.size_stated-size.result in
    let is : size ≡ size_stated (bytes_of (tokens n 8 s)) =
    c.size_stated-size.ensures.is ∙ ap size_stated (c.as_slice.ensures.value ∙ c.in_ok-header.ensures.bytes) in
    let start : is_start n s ≡ true = sym c.is_start.ensures ∙ c.if-not-is_start.false in
    let all = ap length c.in_ok-all.ensures.bytes in
    (none_short n s size is (omega (arith, all)), cost_some n s size c.in_ok-all.all.taken start is c.in_ok-all.ensures.taken)

-- where it is judged so, with the items that it has
no_lists : (bytes all : List ℕ) (fault : Option Fault) (f : Fault) → Judges bytes fault → fault ≡ Some f → bytes ≡ all
    → (xs : List FoundItem) → Lists all xs → ⊥
no_lists bytes all fault f judges is same xs lists =
    let j = subst (Judges bytes) is judges in
    j.ended.1 xs (subst (λ (bs : List ℕ). Lists bs xs) (sym same) lists)

its_lists : (bytes all : List ℕ) (fault : Option Fault) → Judges bytes fault → fault ≡ None → bytes ≡ all → (xs : List FoundItem) × Lists all xs
its_lists bytes all fault judges is same =
    let j = subst (Judges bytes) is judges in
    (j.found, subst (λ (bs : List ℕ). Lists bs j.found) same j.ended)

pub returns-in-Some : goal.returns-in-Some
returns-in-Some g c =
    let n = c.args.notation in
    let s = c.args.text.now in
    let size = c.size_stated-size.result in
    let is : size ≡ size_stated (bytes_of (tokens n 8 s)) =
    c.size_stated-size.ensures.is ∙ ap size_stated (c.as_slice.ensures.value ∙ c.in_ok-header.ensures.bytes) in
    let start : is_start n s ≡ true = sym c.is_start.ensures ∙ c.if-not-is_start.false in
    let none = no_lists c.as_slice-2.result.now (bytes_of (tokens n size s)) _ c.in-Some.field-0 c.in_ok-find_fault.ensures c.in-Some.is
    (c.as_slice-2.ensures.value ∙ c.in_ok-all.ensures.bytes) in
    (none_faulty n s size is none, cost_some n s size c.in_ok-all.all.taken start is c.in_ok-all.ensures.taken)

pub returns : goal.returns
returns g c =
    let n = c.args.notation in
    let s = c.args.text.now in
    let size = c.size_stated-size.result in
    let start : is_start n s ≡ true = sym c.is_start.ensures ∙ c.if-not-is_start.false in
    let bytes = c.in_ok-all.all.bytes.items in
    let lists = its_lists c.as_slice-2.result.now bytes _ c.in_ok-find_fault.ensures c.in_default.is c.as_slice-2.ensures.value in
    let long : size ≤ length bytes = omega arith in
    record {
      stands = written n s bytes size c.in_ok-all.all.taken lists.0 c.size_stated-size.ensures.least start c.in_ok-all.ensures.bytes long
          c.in_ok-all.ensures.taken lists.1;
      some = omega (arith, c.size_stated-size.ensures.least, c.in_ok-all.ensures.onward);
      within = c.in_ok-all.ensures.within;
    }
