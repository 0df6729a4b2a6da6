-- The date in the field Date, as IMF-fixdate (RFC 9110, section 5.6.7).
use Rattle.std.specs.Prelude.{ℕ, ◌+◌, ◌-◌, ◌/◌, ◌%◌, List, [], ◌∷◌, ◌++◌, slice_index_or, codes}
use Rattle.sysapi_base.specs.Calendar.{CivilDate, date_of, day_number, hour, minute, second}

-- the weekday so many days after 1 January 1970, which was a Thursday, counted from Sunday as 0
abbrev pub weekday : ℕ → ℕ
weekday days = (days + 4) % 7

-- three letters of each
abbrev pub day_name : ℕ → List ℕ
day_name weekday =
    slice_index_or
    (codes "Sun" ∷ codes "Mon" ∷ codes "Tue" ∷ codes "Wed" ∷ codes "Thu" ∷ codes "Fri" ∷ codes "Sat" ∷ [])
    weekday []

abbrev pub month_name : ℕ → List ℕ
month_name month =
    slice_index_or
    (codes "Jan" ∷ codes "Feb" ∷ codes "Mar" ∷ codes "Apr" ∷ codes "May" ∷ codes "Jun"
    ∷ codes "Jul" ∷ codes "Aug" ∷ codes "Sep" ∷ codes "Oct" ∷ codes "Nov" ∷ codes "Dec" ∷ [])
    (month - 1) []

-- a number below 100 in two digits, and one below 10000 in four
abbrev pub two_digits : ℕ → List ℕ
two_digits n = (48 + n / 10) ∷ (48 + n % 10) ∷ []

abbrev pub four_digits : ℕ → List ℕ
four_digits n = two_digits (n / 100) ++ two_digits (n % 100)

-- `01 Jan 2000`
abbrev pub date_text : CivilDate → List ℕ
date_text date = two_digits date.day ++ codes " " ++ month_name date.month ++ codes " " ++ four_digits date.year

-- `00:00:00`, of a moment in milliseconds since 1970
abbrev pub time_text : ℕ → List ℕ
time_text millis =
    two_digits (hour millis) ++ codes ":" ++ two_digits (minute millis) ++ codes ":" ++ two_digits (second millis)

-- `Sat, 01 Jan 2000 00:00:00 GMT`, of a moment in milliseconds since 1970
unfoldable pub http_date : ℕ → List ℕ
http_date millis =
    day_name (weekday (day_number millis)) ++ codes ", " ++ date_text (date_of (day_number millis)) ++ codes " "
    ++ time_text millis ++ codes " GMT"
