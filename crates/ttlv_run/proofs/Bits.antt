-- The bits of a number of 32 bits, one after the other.
use Rattle.std.proofs.Common.{◌≡◌, ℕ, zero, suc, ◌+◌, ◌*◌, ◌/◌, ◌%◌, ◌<◌, ◌≤◌, ◌^◌, ◌==◌, Bool, true, false}
use Rattle.std.proofs.Common.{List, [], ◌∷◌, ◌++◌, length, Option, Some, None, Bor, ap, refl, sym, ◌∙◌, arith, add-one, append_assoc}
use Rattle.std.specs.Prelude.{option_map}
use Rattle.std.specs.Option.{unwrap_or}
use Rattle.std.specs.HashMap.{hash_map_len}
use Rattle.std.proofs.Math.Nat.{two-pow-succ}
use Rattle.kmip_ttlv_util.specs.TagNames.{NameMap, name_in}
use Rattle.kmip_ttlv_names.specs.{OwnNames.value_key, ValueNames.name_of_value, ValueNames.or_else}
use Rattle.kmip_ttlv_names.proofs.Lists.{no_entry, last_names}
use Rattle.ttlv_run.specs.Masks.{behind_mark, set_name, still_first, bit_names, value_in, value_named}

-- so many places from the lowest, and what is left of a number from there on
pub record Place (place rest : ℕ) : Type 0 where
  pub left : ℕ
  pub all : place + left ≡ 32
  pub few : rest < 2 ^ left

abbrev pub first_place : (n : ℕ) → n < 2 ^ 32 → Place 0 n
first_place n lt = record { left = 32; all = refl; few = lt }

pub place_below : {place rest : ℕ} (p : Place place rest) → 0 < rest → place < 32
place_below {place = place} {rest = rest} p some = by p.left p.all p.few
  where
    by : (n : ℕ) → place + n ≡ 32 → rest < 2 ^ n → place < 32
    by zero all few = absurd (omega (arith, few, some))
    by (suc n) all few = omega (arith, all)

pub next_power : (n : ℕ) → 2 ^ (n + 1) ≡ 2 ^ n * 2
next_power n = omega (arith, ap (λ (k : ℕ). 2 ^ k) (add-one n), two-pow-succ n)

-- the next one, and the names from there on
pub record Next (names : ℕ → Option (List ℕ)) (place rest : ℕ) (first : Bool) (p : Place place rest) : Type 0 where
  pub to : Place (place + 1) (rest / 2)
  pub names_are : bit_names names p.left (2 ^ place) rest first ≡ behind_mark first (set_name names (2 ^ place) (rest % 2 == 1))
      ++ bit_names names to.left (2 ^ (place + 1)) (rest / 2) (still_first first (set_name names (2 ^ place) (rest % 2 == 1)))

pub next_place : (names : ℕ → Option (List ℕ)) (place rest : ℕ) (first : Bool) (p : Place place rest) → 0 < rest → Next names place rest first p
next_place names place rest first p some = by p.left p.all p.few
  where
    by : (n : ℕ) (all : place + n ≡ 32) (few : rest < 2 ^ n) → Next names place rest first (record { left = n; all = all; few = few })
    by zero all few = absurd (omega (arith, few, some))
    by (suc n) all few = record {
      to = record { left = n; all = omega (arith, all); few = omega (arith, few, two-pow-succ n) };
      names_are = rw (next_power place) refl;
    }

-- what is printed up to a bit, with its name, and the names behind it
pub bits_on : {names : ℕ → Option (List ℕ)} {place rest : ℕ} {first then_ : Bool} {p : Place place rest} {all : List ℕ} {name : Option (List ℕ)}
    (n : Next names place rest first p) (text : List ℕ) → all ≡ text ++ bit_names names p.left (2 ^ place) rest first
    → name ≡ set_name names (2 ^ place) (rest % 2 == 1) → then_ ≡ still_first first name
    → all ≡ (text ++ behind_mark first name) ++ bit_names names n.to.left (2 ^ (place + 1)) (rest / 2) then_
bits_on n text all_is is then_is = rw (then_is, is) (all_is ∙ ap (λ (s : List ℕ). text ++ s) n.names_are ∙ sym (append_assoc text _ _))

-- where nothing is left no bit is set
pub none_left : (names : ℕ → Option (List ℕ)) (n bit : ℕ) (first : Bool) → bit_names names n bit 0 first ≡ []
none_left names zero bit first = refl
none_left names (suc n) bit first = none_left names n (bit * 2) (still_first first (set_name names bit (0 % 2 == 1)))

-- where no bit from one on has a name none is printed
pub none_named : (names : ℕ → Option (List ℕ)) (n bit rest : ℕ) (first : Bool) → ((other : ℕ) → bit ≤ other → names other ≡ None)
    → bit_names names n bit rest first ≡ []
none_named names zero bit rest first none = refl
none_named names (suc n) bit rest first none =
    ap (λ (s : List ℕ). behind_mark first (set_name names bit (rest % 2 == 1)) ++ s)
    (none_named names n (bit * 2) (rest / 2) (still_first first (set_name names bit (rest % 2 == 1))) (λ other le. none other (omega (arith, le))))
    ∙ ap (λ (o : Option (List ℕ)). behind_mark first o ++ []) (unset (rest % 2 == 1))
  where
    unset : (is_set : Bool) → set_name names bit is_set ≡ None
    unset true = none bit (omega arith)
    unset false = refl

-- an empty map has no name
pub no_name : (m : NameMap) → hash_map_len m ≡ 0 → (key : ℕ) → name_in m key ≡ None
no_name m is key = rw (empty m.entries is) refl
  where
    empty : (es : List (ℕ × Bor (List ℕ))) → length es ≡ 0 → es ≡ []
    empty [] none = refl
    empty (e ∷ es) none = absurd (omega arith)

pub some_one : {n m : ℕ} → Some n ≡ Some m → n ≡ m
some_one e = ap (λ o. elim o [ None ↦ 0 | Some k ↦ k ]) e

pub power_some : (n : ℕ) → 0 < 2 ^ n
power_some zero = omega arith
power_some (suc n) = omega (arith, two-pow-succ n, power_some n)

-- nothing has no entry
pub no_entries : (value : ℕ) → name_of_value value [] ≡ None
no_entries value = last_names value [] refl ∙ no_entry value [] refl

-- the name of a bit is the same by another list that has it
pub name_same : (own : ℕ → Option (List ℕ)) (tag bit : ℕ) (a b name : Option (List ℕ)) (is_set : Bool)
    → name ≡ set_name (value_named own b tag) bit is_set → value_in a bit ≡ value_in b bit → name ≡ set_name (value_named own a tag) bit is_set
name_same own tag bit a b name true is same = is ∙ ap (or_else (own (value_key tag bit))) (sym same)
name_same own tag bit a b name false is same = is

-- where there is no list an empty one has the same names
pub listed : (list : Option (Bor (List ℕ))) (none some : Bor (List ℕ)) → some ≡ unwrap_or list none → none.now ≡ [] → (value : ℕ)
    → value_in (option_map (λ (s : Bor (List ℕ)). s.now) list) value ≡ name_of_value value some.now
listed None none some is empty value = rw (is, empty) (sym (no_entries value))
listed (Some list) none some is empty value = rw is refl
