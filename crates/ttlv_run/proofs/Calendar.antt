-- Years and months, counted one after the other, and the texts of dates.
use Rattle.std.proofs.Common.{◌≡◌, ℕ, zero, suc, ◌+◌, ◌-◌, ◌*◌, ◌/◌, ◌%◌, ◌<◌, ◌≤◌, List, [], ◌∷◌, ◌++◌, lit<, refl, arith}
use Rattle.std.specs.Str.{IsAscii}
use Rattle.std.proofs.lemmas.{Str.Ascii.IsAscii-nil, Str.Ascii.IsAscii-cons, Bool.lt-ltb, Bool.le-ltb, Bool.Decides.nat_tests}
use Rattle.ttlv_run.specs.Dates.{days_in_year, days_in_month, in_year, in_month, digit_at, two, calendar_text, year_text, day_text, clock_text, time_text}

-- a year has days, and so has a month
pub year_some : (y : ℕ) → 0 < days_in_year y
year_some y = grind (arith, nat_tests)

pub month_some : (y m : ℕ) → 0 < days_in_month y m
month_some y m = grind (arith, nat_tests)

-- what is left to count
pub record Year (n y d : ℕ) : Type 0 where
  pub fuel : ℕ
  pub few : d - days_in_year y ≤ fuel
  pub same : in_year n y d ≡ in_year fuel (y + 1) (d - days_in_year y)

pub year_on : (n y d : ℕ) → days_in_year y ≤ d → d ≤ n → Year n y d
year_on zero y d le few = absurd (omega (arith, le, few, year_some y))
year_on (suc n) y d le few = record { fuel = n; few = omega (arith, few, le, year_some y); same = rw (le-ltb d (days_in_year y) le) refl }

pub year_end : (n y d : ℕ) → d < days_in_year y → in_year n y d ≡ (y, d)
year_end zero y d lt = refl
year_end (suc n) y d lt = rw (lt-ltb d (days_in_year y) lt) refl

pub record Month (y n m d : ℕ) : Type 0 where
  pub fuel : ℕ
  pub few : d - days_in_month y m ≤ fuel
  pub same : in_month y n m d ≡ in_month y fuel (m + 1) (d - days_in_month y m)

pub month_on : (y n m d : ℕ) → days_in_month y m ≤ d → d ≤ n → Month y n m d
month_on y zero m d le few = absurd (omega (arith, le, few, month_some y m))
month_on y (suc n) m d le few = record { fuel = n; few = omega (arith, few, le, month_some y m); same = rw (le-ltb d (days_in_month y m) le) refl }

pub month_end : (y n m d : ℕ) → d < days_in_month y m → in_month y n m d ≡ (m, d)
month_end y zero m d lt = refl
month_end y (suc n) m d lt = rw (lt-ltb d (days_in_month y m) lt) refl

-- ---- texts

digit_first : (v u : ℕ) (rest : List ℕ) → IsAscii rest → IsAscii (digit_at v u ∷ rest)
digit_first v u rest h = IsAscii-cons (digit_at v u) rest (below (v / u)) h
  where
    below : (d : ℕ) → 48 + d % 10 < 128
    below d = omega arith

two_first : (v : ℕ) (rest : List ℕ) → IsAscii rest → IsAscii (two v ++ rest)
two_first v rest h = digit_first v 10 (digit_at v 1 ∷ rest) (digit_first v 1 rest h)

-- dates and times are ASCII
calendar_ascii : (y m d : ℕ) → IsAscii (calendar_text y m d)
calendar_ascii y m d =
    let days = digit_first d 10 (digit_at d 1 ∷ []) (digit_first d 1 [] IsAscii-nil) in
    let months = two_first m (45 ∷ two d) (IsAscii-cons 45 (two d) (lit< tt) days) in
    let years = two_first y (45 ∷ (two m ++ 45 ∷ two d)) (IsAscii-cons 45 (two m ++ 45 ∷ two d) (lit< tt) months) in
    let last : List ℕ = two y ++ 45 ∷ (two m ++ 45 ∷ two d) in
    IsAscii-cons 32 (digit_at y 1000 ∷ digit_at y 100 ∷ last) (lit< tt) (digit_first y 1000 (digit_at y 100 ∷ last) (digit_first y 100 last years))

pub day_ascii : (days : ℕ) → IsAscii (day_text days)
unfolding day_text
day_ascii days = year_ascii (in_year (days % 146_097) (1970 + 400 * (days / 146_097)) (days % 146_097))
  where
    year_ascii : (p : ℕ × ℕ) → IsAscii (year_text p)
    year_ascii p = calendar_ascii p.0 (in_month p.0 p.1 1 p.1).0 ((in_month p.0 p.1 1 p.1).1 + 1)

clock_ascii : (h m s : ℕ) → IsAscii (clock_text h m s)
clock_ascii h m s =
    let end : List ℕ = 90 ∷ [] in
    let seconds = two_first s end (IsAscii-cons 90 [] (lit< tt) IsAscii-nil) in
    let minutes = two_first m (58 ∷ (two s ++ end)) (IsAscii-cons 58 (two s ++ end) (lit< tt) seconds) in
    let hours = two_first h (58 ∷ (two m ++ 58 ∷ (two s ++ end))) (IsAscii-cons 58 (two m ++ 58 ∷ (two s ++ end)) (lit< tt) minutes) in
    IsAscii-cons 84 (two h ++ 58 ∷ (two m ++ 58 ∷ (two s ++ end))) (lit< tt) hours

pub time_ascii : (seconds : ℕ) → IsAscii (time_text seconds)
time_ascii seconds = clock_ascii (seconds / 3600) (seconds / 60 % 60) (seconds % 60)
