-- The calendar by the day after is the calendar by sums, so that the kit's date of a second is the date of its day.
use Rattle.std.proofs.Common.{◌≡◌, ℕ, zero, suc, ◌+◌, ◌-◌, ◌/◌, ◌%◌, ◌<◌, ◌≤◌, nat_lt, Bool, true, false, cond, List, ◌++◌, append_assoc, refl, sym, ap, ◌∙◌, arith}
use Rattle.std.proofs.lemmas.Bool.{ltb-true, ltb-false}
use Rattle.std.proofs.lemmas.Bool.Decides.{nat_tests}
use Rattle.std.specs.Prelude.{codes}
use Rattle.std.specs.Int.{IsInRange}
use Rattle.sysapi_base.specs.Calendar.{CivilDate, day_after, date_of, day_number, hour, minute, second}
use Rattle.httpdate.specs.Calendar.{days_in_month, days_in_year, days_of_years, days_of_months, days_from_civil, weekday}
use Rattle.httpdate.specs.Date.{unix_secs, date_text}
use Rattle.httpdate.specs.Text.{imf_fixdate, day_name as kit_day_name}
use Rattle.httpdate.specs.declared.date.HttpDate.{HttpDate}
use Rattle.httpdate.specs.declared.parts.Parts.{Parts}
use Rattle.httpdate.proofs.CalendarLemmas.{days_of_years_closed, days_of_months_more, days_of_months_all}
use Rattle.httpdate.proofs.Theorems.{unix_secs_injective}
use Rattle.http_wire.specs.Dates.{http_date, day_name, month_name, two_digits, four_digits, time_text}

-- the date is in the calendar, so many days after 1 January 1970
record Counts (days : ℕ) (date : CivilDate) : Type 0 where
  year : 1970 ≤ date.year
  month : IsInRange 1 12 date.month
  day : IsInRange 1 (days_in_month date.year date.month) date.day
  count : days_from_civil date.year date.month date.day ≡ days

month_has_days : (year month : ℕ) → 28 ≤ days_in_month year month
month_has_days year month = grind (arith, nat_tests)

next_month : (days year month day : ℕ) → Counts days (record { year = year; month = month; day = day }) → days_in_month year month ≤ day → month < 12 → Counts (suc days) (record { year = year; month = month + 1; day = 1 })
next_month days year month day h last before =
    let more = days_of_months_more year month h.month.0 in
    let back : month + 1 - 1 ≡ month = omega arith in
    record {
      year = h.year;
      month = (omega arith, omega arith);
      day = (omega arith, omega (arith, month_has_days year (month + 1)));
      count = rw back (omega (arith, more, h.count, h.day));
    }

next_year : (days year month day : ℕ) → Counts days (record { year = year; month = month; day = day }) → days_in_month year month ≤ day → 12 ≤ month → Counts (suc days) (record { year = year + 1; month = 1; day = 1 })
unfolding days_of_years days_of_months
next_year days year month day h last december =
    let more = days_of_months_more year month h.month.0 in
    let twelve : month ≡ 12 = omega (arith, h.month) in
    let all : days_of_months year month ≡ days_in_year year = rw twelve (days_of_months_all year) in
    let up : year + 1 - 1970 ≡ suc (year - 1970) = omega (arith, h.year) in
    let same : 1970 + (year - 1970) ≡ year = omega (arith, h.year) in
    record {
      year = omega (arith, h.year);
      month = (omega arith, omega arith);
      day = (omega arith, omega (arith, month_has_days (year + 1) 1));
      count = rw (up, same) (omega (arith, more, all, h.count, h.day));
    }

next_day : (days year month day : ℕ) → Counts days (record { year = year; month = month; day = day }) → day < days_in_month year month → Counts (suc days) (record { year = year; month = month; day = day + 1 })
next_day days year month day h before = record {
  year = h.year;
  month = h.month;
  day = (omega arith, omega arith);
  count = omega (arith, h.count, h.day);
}

either : (b : Bool) (P : CivilDate → Type 0) (x y : CivilDate) → (b ≡ true → P x) → (b ≡ false → P y) → P (cond b x y)
either true P x y then_case else_case = then_case refl
either false P x y then_case else_case = else_case refl

day_after_counts : (days : ℕ) (date : CivilDate) → Counts days date → Counts (suc days) (day_after date)
unfolding day_after
day_after_counts days date h =
    either (nat_lt date.day (days_in_month date.year date.month)) (Counts (suc days)) _ _
    (λ e. next_day days date.year date.month date.day h (ltb-true _ _ e))
    (λ e. either (nat_lt date.month 12) (Counts (suc days)) _ _
    (λ f. next_month days date.year date.month date.day h (ltb-false _ _ e) (ltb-true _ _ f))
    (λ f. next_year days date.year date.month date.day h (ltb-false _ _ e) (ltb-false _ _ f)))

date_counts : (days : ℕ) → Counts days (date_of days)
unfolding date_of days_of_years days_of_months
date_counts zero = record { year = omega arith; month = (omega arith, omega arith); day = (omega arith, omega (arith, month_has_days 1970 1)); count = refl }
date_counts (suc days) = day_after_counts days (date_of days) (date_counts days)

year_bound : (days : ℕ) → days < 2932897 → (date_of days).year ≤ 9999
year_bound days before =
    let counts = date_counts days in
    let closed = days_of_years_closed ((date_of days).year - 1970) in
    omega (arith, counts.count, closed)

-- the day's name, by its number counted from Sunday as here or from Monday as in the kit
after : (n : ℕ) → n < 7 → day_name ((n + 1) % 7) ≡ kit_day_name (n + 1)
after zero h = refl
after (suc zero) h = refl
after (suc (suc zero)) h = refl
after (suc (suc (suc zero))) h = refl
after (suc (suc (suc (suc zero)))) h = refl
after (suc (suc (suc (suc (suc zero))))) h = refl
after (suc (suc (suc (suc (suc (suc zero)))))) h = refl
after (suc (suc (suc (suc (suc (suc (suc n))))))) h = absurd (omega arith)

same_day_name : (days : ℕ) → kit_day_name (weekday days) ≡ day_name ((days + 4) % 7)
same_day_name days =
    let next : ((days + 3) % 7 + 1) % 7 ≡ (days + 4) % 7 = omega arith in
    sym (after ((days + 3) % 7) (omega arith)) ∙ ap day_name next

parts : ℕ → Parts
parts millis =
    let date = date_of (day_number millis) in record {
      year = date.year;
      mon = date.month;
      day = date.day;
      hour = hour millis;
      min = minute millis;
      sec = second millis;
      wday = weekday (days_from_civil date.year date.month date.day);
    }

layout : (name day month year time : List ℕ) → name ++ codes ", " ++ day ++ codes " " ++ month ++ codes " " ++ year ++ codes " " ++ time ++ codes " GMT" ≡ name ++ codes ", " ++ (day ++ codes " " ++ month ++ codes " " ++ year) ++ codes " " ++ time ++ codes " GMT"
layout name day month year time = simp append_assoc

parts_text : (millis : ℕ) → imf_fixdate (parts millis) ≡ http_date millis
unfolding http_date parts
parts_text millis =
    let date = date_of (day_number millis) in
    let name : kit_day_name (weekday (days_from_civil date.year date.month date.day)) ≡ day_name ((day_number millis + 4) % 7) =
    ap (λ n. kit_day_name (weekday n)) (date_counts (day_number millis)).count ∙ same_day_name (day_number millis) in
    ap (λ n. n ++ codes ", " ++ two_digits date.day ++ codes " " ++ month_name date.month ++ codes " " ++ four_digits date.year ++ codes " " ++ time_text millis ++ codes " GMT") name
    ∙ layout (day_name ((day_number millis + 4) % 7)) (two_digits date.day) (month_name date.month) (four_digits date.year) (time_text millis)

-- a second's date, where the kit has it, is written as here
pub same_text : (d : HttpDate) (millis : ℕ) → millis < 253402300800000 → unix_secs d ≡ millis / 1000 → date_text d ≡ http_date millis
unfolding parts
same_text d millis before same =
    let days = day_number millis in
    let counts = date_counts days in
    let year : (date_of days).year ≤ 9999 = year_bound days (omega arith) in
    let own : HttpDate = record { parts = parts millis; civil = ((counts.year, year), counts.month, counts.day); time = (omega arith, omega arith, omega arith); right_day = refl } in
    let secs : unix_secs own ≡ millis / 1000 = omega (arith, counts.count) in
    ap imf_fixdate (unix_secs_injective d own (same ∙ sym secs)) ∙ parts_text millis
