-- The dates of Date-Times: ISO 8601's text of a point in time, both ways.
use Rattle.std.specs.Prelude.{ℕ, ◌+◌, ◌-◌, ◌*◌, ◌/◌, ◌%◌, ◌^◌, min, Bool, not, ◌==◌, ◌&&◌, ◌||◌, nat_lt, nat_le, slice_index, if◌then◌else◌}
use Rattle.std.specs.Prelude.{List, [], ◌∷◌, length, drop, Option, Some, None, option_and_then}
use Rattle.kmip_words.specs.Calendar.{is_leap, month_start, is_day, year_start, day_number, year_of, month_of}
use Rattle.kmip_words.specs.Words.{is_number}

infixl 10 ◌>>=◌
abbrev pub ◌>>=◌ : {A B : Type 0} → Option A → (A → Option B) → Option B
o >>= f = option_and_then f o

-- a number, if a test holds
abbrev pub number_when : Bool → ℕ → Option ℕ
number_when b n = if b then Some n else None

-- a byte is no digit
abbrev pub is_no_digit : ℕ → Bool
is_no_digit c = nat_lt c 48 || nat_lt 57 c

-- the number that two digits are
abbrev pub two_of : ℕ → ℕ → Option ℕ
two_of high low = if is_no_digit high || is_no_digit low then None else Some ((high - 48) * 10 + (low - 48))

unfoldable pub two_at : List ℕ → ℕ → Option ℕ
two_at s at = two_of (slice_index s at) (slice_index s (at + 1))

-- `2009-11-12T10:47:30`: the marks of a date and a time are where they stand
unfoldable pub has_marks : List ℕ → Bool
has_marks s =
    slice_index s 4 == 45 && slice_index s 7 == 45 && slice_index s 10 == 84 && slice_index s 13 == 58 && slice_index s 16 == 58

-- the number of the day, and the second of that
unfoldable pub day_at : List ℕ → Option ℕ
day_at s = do
  century ← two_at s 0
  low ← two_at s 2
  month ← two_at s 5
  day ← two_at s 8
  number_when (is_day (century * 100 + low) month day) (day_number (century * 100 + low) month day)

unfoldable pub second_at : List ℕ → Option ℕ
second_at s = do
  hour ← two_at s 11
  minute ← two_at s 14
  second ← two_at s 17
  number_when (nat_lt hour 24 && nat_lt minute 60 && nat_lt second 60) (hour * 3600 + minute * 60 + second)

-- the seconds from the beginning of the year 1
unfoldable pub local_at : List ℕ → Option ℕ
local_at s = if has_marks s then (day_at s >>= (λ day. second_at s >>= (λ second. Some (day * 86_400 + second)))) else None

-- what follows zeros, and what follows a fraction of a second, which may be zero
abbrev pub without_zeros : List ℕ → List ℕ
without_zeros [] = []
without_zeros (c ∷ cs) = if c == 48 then without_zeros cs else c ∷ cs

abbrev pub without_fraction : List ℕ → Option (List ℕ)
without_fraction s =
    if slice_index s 0 == 46
    then (if slice_index s 1 == 48 then Some (without_zeros (drop 2 s)) else None)
    else Some s

-- the same seconds in Coordinated Universal Time, where the time is ahead of it (`+`) or behind it by so many
abbrev pub moved : ℕ → ℕ → ℕ → Option ℕ
moved sign local offset =
    if sign == 43 then number_when (nat_le offset local) (local - offset)
    else (if sign == 45 then Some (local + offset) else None)

-- by the text of the offset: `Z`, or hours and minutes
unfoldable pub offset_at : List ℕ → Option ℕ
offset_at zone = do
  hour ← two_at zone 1
  minute ← two_at zone 4
  number_when (nat_lt hour 24 && nat_lt minute 60) (hour * 3600 + minute * 60)

unfoldable pub utc_of : ℕ → List ℕ → Option ℕ
utc_of local zone =
    if length zone == 1 && slice_index zone 0 == 90 then Some local
    else (if not (length zone == 6) || not (slice_index zone 3 == 58) then None
    else (offset_at zone >>= (λ offset. moved (slice_index zone 0) local offset)))

-- the seconds from the beginning of the year 1 to that of 1970
abbrev pub epoch : ℕ
epoch = 62_135_596_800

-- the seconds since 1970, as the number that the eight bytes of a Date-Time are
unfoldable pub date_at : List ℕ → Option ℕ
date_at s =
    if nat_lt (length s) 20 then None
    else (do
      local ← local_at s
      zone ← without_fraction (drop 19 s)
      utc ← utc_of local zone
      Some ((utc + 2 ^ 64 - epoch) % 2 ^ 64))

abbrev pub date_of : List ℕ → Option ℕ
date_of s = date_at s

-- ---- written

-- the digit of a number that stands for so many, in ASCII
abbrev pub digit_at : ℕ → ℕ → ℕ
digit_at value unit = 48 + value / unit % 10

-- the days of a year before a day, and the day of a month
abbrev pub days_before : ℕ → ℕ → ℕ
days_before number year = min (number - year_start year) 365

abbrev pub day_in : Bool → ℕ → ℕ → ℕ
day_in leap before month = before - month_start leap month + 1

abbrev pub month_on : ℕ → ℕ → ℕ
month_on number year = month_of (is_leap year) (days_before number year)

-- a date, in a month of a year, and a time
abbrev pub date_and_time : ℕ → ℕ → ℕ → ℕ → List ℕ
date_and_time year month day second =
    digit_at year 1000 ∷ digit_at year 100 ∷ digit_at year 10 ∷ digit_at year 1 ∷ 45 ∷
    digit_at month 10 ∷ digit_at month 1 ∷ 45 ∷ digit_at day 10 ∷ digit_at day 1 ∷ 84 ∷
    digit_at second 36_000 ∷ digit_at (second / 3600) 1 ∷ 58 ∷
    digit_at (second / 60 % 60) 10 ∷ digit_at (second / 60 % 60) 1 ∷ 58 ∷
    digit_at (second % 60) 10 ∷ digit_at (second % 60) 1 ∷ 43 ∷ 48 ∷ 48 ∷ 58 ∷ 48 ∷ 48 ∷ []

-- those of a day of a year
abbrev pub day_and_time : ℕ → ℕ → ℕ → List ℕ
day_and_time number year second =
    date_and_time year (month_on number year) (day_in (is_leap year) (days_before number year) (month_on number year)) second

-- the text of the date so many seconds behind the beginning of the year 1
unfoldable pub written_at : ℕ → List ℕ
written_at since = day_and_time (since / 86_400) (year_of (since / 86_400)) (since % 86_400)

-- the text of a date, if that is read as it
abbrev pub text_back : ℕ → List ℕ → Option (List ℕ)
text_back seconds text = if is_number seconds (date_at text) then Some text else None

-- the text of the date so many seconds since 1970, up to the year 9999
unfoldable pub date_text : ℕ → Option (List ℕ)
date_text seconds =
    if nat_le 315_537_897_600 ((seconds + epoch) % 2 ^ 64) then None
    else text_back seconds (written_at ((seconds + epoch) % 2 ^ 64))
