-- The Gregorian calendar from 1970 on, and the time of day, without leap seconds (RFC 3339, appendix C; ISO 8601).
use Rattle.std.specs.Prelude.{ℕ, zero, suc, ◌+◌, ◌%◌, ◌/◌, Bool, not, ◌&&◌, ◌||◌, ◌==◌, nat_lt, if◌then◌else◌}

-- each fourth year is a leap year, but of the years that end a century only each fourth
abbrev pub is_leap_year : ℕ → Bool
is_leap_year year = (year % 4 == 0) && (not (year % 100 == 0) || (year % 400 == 0))

-- thirty days have April, June, September and November
abbrev pub days_in_month : ℕ → ℕ → ℕ
days_in_month year month =
    if month == 2 then (if is_leap_year year then 29 else 28)
    else (if (month == 4) || (month == 6) || (month == 9) || (month == 11) then 30 else 31)

pub record CivilDate : Type 0 where
  pub year : ℕ
  pub month : ℕ
  pub day : ℕ

-- the day after: the next of the month, else the first of the next month, else of the next year
unfoldable pub day_after : CivilDate → CivilDate
day_after date =
    if nat_lt date.day (days_in_month date.year date.month) then record date { day = date.day + 1 }
    else (if nat_lt date.month 12 then record { year = date.year; month = date.month + 1; day = 1 }
    else record { year = date.year + 1; month = 1; day = 1 })

-- the date so many days after 1 January 1970
unfoldable pub date_of : ℕ → CivilDate
date_of zero = record { year = 1970; month = 1; day = 1 }
date_of (suc days) = day_after (date_of days)

-- the parts of a moment, given in milliseconds since 1970
abbrev pub day_number : ℕ → ℕ
day_number millis = millis / 86_400_000

abbrev pub hour : ℕ → ℕ
hour millis = millis / 3_600_000 % 24

abbrev pub minute : ℕ → ℕ
minute millis = millis / 60_000 % 60

abbrev pub second : ℕ → ℕ
second millis = millis / 1000 % 60
