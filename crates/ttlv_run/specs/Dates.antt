-- The dates that Date-Times stand for: on the Gregorian calendar, from 1970 to 9999, in Coordinated Universal Time.
use Rattle.std.specs.Prelude.{ℕ, zero, suc, ◌+◌, ◌*◌, ◌-◌, ◌/◌, ◌%◌, Bool, not, ◌==◌, ◌&&◌, ◌||◌, nat_lt}
use Rattle.std.specs.Prelude.{List, [], ◌∷◌, ◌++◌, if◌then◌else◌}

-- every fourth year has a 29 February, but of the centuries only every fourth
abbrev pub is_leap : ℕ → Bool
is_leap year = (year % 4 == 0) && (not (year % 100 == 0) || (year % 400 == 0))

-- the days of a year
abbrev pub days_in_year : ℕ → ℕ
days_in_year year = if is_leap year then 366 else 365

-- the days of a month: thirty have April, June, September and November
abbrev pub days_in_month : ℕ → ℕ → ℕ
days_in_month year month =
    if month == 2 then (if is_leap year then 29 else 28)
    else (if (month == 4) || (month == 6) || (month == 9) || (month == 11) then 30 else 31)

-- the year of the day that comes so many days behind 1 January of a year, and how many come before it there: year by
-- year, at most as many as the first number
abbrev pub in_year : ℕ → ℕ → ℕ → ℕ × ℕ
in_year zero year days = (year, days)
in_year (suc n) year days =
    if nat_lt days (days_in_year year) then (year, days) else in_year n (year + 1) (days - days_in_year year)

-- the same of months of a year
abbrev pub in_month : ℕ → ℕ → ℕ → ℕ → ℕ × ℕ
in_month year zero month days = (month, days)
in_month year (suc n) month days =
    if nat_lt days (days_in_month year month) then (month, days)
    else in_month year n (month + 1) (days - days_in_month year month)

-- the digit of a number that stands for so many, in ASCII
abbrev pub digit_at : ℕ → ℕ → ℕ
digit_at value unit = 48 + value / unit % 10

-- two digits
abbrev pub two : ℕ → List ℕ
two value = digit_at value 10 ∷ digit_at value 1 ∷ []

-- a space and a date
abbrev pub calendar_text : ℕ → ℕ → ℕ → List ℕ
calendar_text year month day =
    32 ∷ digit_at year 1000 ∷ digit_at year 100 ∷ (two year ++ 45 ∷ (two month ++ 45 ∷ two day))

-- that of a day of a year
abbrev pub year_text : ℕ × ℕ → List ℕ
year_text p = calendar_text p.0 (in_month p.0 p.1 1 p.1).0 ((in_month p.0 p.1 1 p.1).1 + 1)

-- that of a day counted from 1970, on a calendar that repeats every 400 years, which have 146,097 days
unfoldable pub day_text : ℕ → List ℕ
day_text days = year_text (in_year (days % 146_097) (1970 + 400 * (days / 146_097)) (days % 146_097))

-- a time
abbrev pub clock_text : ℕ → ℕ → ℕ → List ℕ
clock_text hour minute second = 84 ∷ (two hour ++ 58 ∷ (two minute ++ 58 ∷ (two second ++ 90 ∷ [])))

-- that of a second of a day
abbrev pub time_text : ℕ → List ℕ
time_text seconds = clock_text (seconds / 3600) (seconds / 60 % 60) (seconds % 60)

-- a space and the date so many seconds behind the beginning of 1970, as `2009-11-12T10:47:30Z`, if that lies before the
-- year 10000
unfoldable pub date_shown : ℕ → List ℕ
date_shown seconds =
    if nat_lt seconds 253_402_300_800 then day_text (seconds / 86_400) ++ time_text (seconds % 86_400) else []
