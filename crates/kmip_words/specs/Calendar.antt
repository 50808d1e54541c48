-- The days of the Gregorian calendar, counted from 1 January of the year 1, which is day 0.
use Rattle.std.specs.Prelude.{ℕ, ◌+◌, ◌-◌, ◌*◌, ◌/◌, ◌%◌, Bool, false, not, ◌==◌, ◌&&◌, ◌||◌, nat_lt, nat_le, slice_index, if◌then◌else◌}
use Rattle.kmip_words.specs.declared.calendar.TheConstants.{STARTS, LENGTHS}

-- every fourth year has a 29 February, but of the centuries only every fourth
abbrev pub is_leap : ℕ → Bool
is_leap year = (year % 4 == 0) && (not (year % 100 == 0) || (year % 400 == 0))

-- the days of a year before a month, and the days of a month
abbrev pub month_start : Bool → ℕ → ℕ
month_start leap month =
    if leap && nat_lt 2 month then slice_index STARTS (month - 1) + 1 else slice_index STARTS (month - 1)

abbrev pub days_in_month : Bool → ℕ → ℕ
days_in_month leap month =
    if leap && month == 2 then slice_index LENGTHS (month - 1) + 1 else slice_index LENGTHS (month - 1)

-- a day of a month of a year
abbrev pub is_day : ℕ → ℕ → ℕ → Bool
is_day year month day =
    if (year == 0) || (month == 0) || nat_lt 12 month then false
    else (nat_lt 0 day && nat_le day (days_in_month (is_leap year) month))

-- the number of a year's first day, and of a day
abbrev pub year_start : ℕ → ℕ
year_start year = 365 * (year - 1) + (year - 1) / 4 + (year - 1) / 400 - (year - 1) / 100

abbrev pub day_number : ℕ → ℕ → ℕ → ℕ
day_number year month day = year_start year + month_start (is_leap year) month + (day - 1)

-- the year of a day: 400 years have 146,097 days, so it is near their share
abbrev pub year_near : ℕ → ℕ
year_near day = day * 400 / 146_097 + 1

abbrev pub year_of : ℕ → ℕ
year_of day =
    if nat_lt day (year_start (year_near day)) && nat_lt 1 (year_near day) then year_near day - 1
    else (if nat_le (year_start (year_near day + 1)) day then year_near day + 1 else year_near day)

-- the month of a day of a year, where so many come before it there
abbrev pub month_of : Bool → ℕ → ℕ
month_of leap before =
    if nat_lt (before / 31 + 1) 12 && nat_le (month_start leap (before / 31 + 1 + 1)) before then before / 31 + 1 + 1
    else before / 31 + 1
