-- The calendar's dates are those of the library.
use Rattle.std.proofs.Common.{◌≡◌, ℕ, zero, suc, ◌+◌, ◌<◌, ◌≤◌, inl, inr, refl, sym, ap, ◌∙◌, arith, lit≤, pos}
use Rattle.std.specs.Int.{IsInRange}
use Rattle.std.proofs.lemmas.Bool.{cases_lt, lt-ltb, le-ltb}
use Rattle.jiff_core.specs.declared.civil.date.Date.{Date}
use Rattle.jiff_core.specs.Calendar.{days_from_civil}
use Rattle.jiff_core.specs.Date.{epoch_day}
use Rattle.jiff_core.proofs.SignedLemmas.{signed_arith}
use Rattle.jiff_core.proofs.StandardFacts.{known_days}
use Rattle.jiff_core.proofs.CalendarLemmas.{days_from_civil-day_count, day_count-end, days_in_month_bounds}
use Rattle.jiff_core.proofs.DateLemmas.{epoch_day_injective, days_from_civil-day, days_from_civil-next_month, days_from_civil-next_year}
use Rattle.sysapi_base.specs.Calendar.{CivilDate, days_in_month, day_after, date_of}
use Rattle.sysapi_base.specs.Civil.{IsSameDate}

-- the calendar has this date, as the day of this number
pub record IsDay (n : ℕ) (date : CivilDate) : Type 0 where
  pub number : days_from_civil (pos date.year) date.month date.day ≡ pos n
  pub year : date.year ≤ 9999
  pub month : IsInRange 1 12 date.month
  pub day : IsInRange 1 (days_in_month date.year date.month) date.day

first : IsDay 0 (record { year = 1970; month = 1; day = 1 })
first = record { number = known_days.0; year = omega arith; month = (omega arith, omega arith); day = (omega arith, lit≤ tt) }

-- the three cases of the day after
in_month : (date : CivilDate) → date.day < days_in_month date.year date.month → day_after date ≡ record date { day = date.day + 1 }
unfolding day_after
in_month date lt = rw (lt-ltb _ _ lt) refl

next_month : (date : CivilDate) → days_in_month date.year date.month ≤ date.day → date.month < 12 → day_after date ≡ record { year = date.year; month = date.month + 1; day = 1 }
unfolding day_after
next_month date le lt = rw (le-ltb _ _ le, lt-ltb _ _ lt) refl

next_year : (date : CivilDate) → days_in_month date.year date.month ≤ date.day → 12 ≤ date.month → day_after date ≡ record { year = date.year + 1; month = 1; day = 1 }
unfolding day_after
next_year date le last = rw (le-ltb _ _ le, le-ltb _ _ last) refl

after_in_month : (n : ℕ) (date : CivilDate) → IsDay n date → date.day < days_in_month date.year date.month → IsDay (suc n) (record date { day = date.day + 1 })
after_in_month n date is lt =
    let moves = days_from_civil-day (pos date.year) date.month date.day (date.day + 1) is.day.0 (omega arith) in
    record {
      number = omega (arith, signed_arith, is.number, moves);
      year = is.year;
      month = is.month;
      day = (omega arith, omega arith);
    }

after_month : (n : ℕ) (date : CivilDate) → IsDay n date → days_in_month date.year date.month ≤ date.day → date.month < 12
    → IsDay (suc n) (record { year = date.year; month = date.month + 1; day = 1 })
after_month n date is le lt =
    let moves = days_from_civil-next_month (pos date.year) date.month date.day is.month.0 (omega (arith, is.day.1)) in
    let long : 28 ≤ days_in_month date.year (date.month + 1) = (days_in_month_bounds (pos date.year) (date.month + 1)).1 in
    record {
      number = moves ∙ rw is.number (omega (arith, signed_arith));
      year = is.year;
      month = (omega arith, omega arith);
      day = (omega arith, omega arith);
    }

-- the year 10000 begins later
too_late : (n year : ℕ) → n < 2_932_896 → days_from_civil (pos year) 1 1 ≡ pos (suc n) → year ≡ 10000 → ⊥
too_late n year lt is end =
    let number : days_from_civil (pos 10000) 1 1 ≡ pos (suc n) = ap (λ (y : ℕ). days_from_civil (pos y) 1 1) (sym end) ∙ is in
    omega (arith, signed_arith, number, days_from_civil-day_count (pos 10000) 1 1, day_count-end)

after_year : (n : ℕ) (date : CivilDate) → n < 2_932_896 → IsDay n date → days_in_month date.year date.month ≤ date.day → 12 ≤ date.month
    → IsDay (suc n) (record { year = date.year + 1; month = 1; day = 1 })
after_year n date lt is le last =
    let december : date.month ≡ 12 = omega (arith, is.month.1) in
    let long : days_in_month date.year date.month ≡ 31 = rw december refl in
    let thirty_first : date.day ≡ 31 = omega (arith, is.day.1) in
    let number : days_from_civil (pos date.year) 12 31 ≡ pos n = ap (λ (m : ℕ). days_from_civil (pos date.year) m 31) (sym december) ∙ ap (λ (d : ℕ). days_from_civil (pos date.year) date.month d) (sym thirty_first) ∙ is.number in
    let moves : days_from_civil (pos (date.year + 1)) 1 1 ≡ pos (suc n) = days_from_civil-next_year (pos date.year) (pos (date.year + 1)) (omega (arith, signed_arith)) refl ∙ rw number (omega (arith, signed_arith)) in
    record {
      number = moves;
      year = elim (cases_lt date.year 9999) [ inl before ↦ omega arith | inr end ↦ absurd (too_late n (date.year + 1) lt moves (omega (arith, is.year))) ];
      month = (omega arith, omega arith);
      day = (omega arith, lit≤ tt);
    }

after : (n : ℕ) (date : CivilDate) → n < 2_932_896 → IsDay n date → IsDay (suc n) (day_after date)
after n date lt is =
    elim (cases_lt date.day (days_in_month date.year date.month)) [
      | inl within ↦ rw (in_month date within) (after_in_month n date is within)
      | inr end ↦ elim (cases_lt date.month 12) [
        | inl more ↦ rw (next_month date end more) (after_month n date is end more)
        | inr last ↦ rw (next_year date end last) (after_year n date lt is end last)
      ]
    ]

pub is_day : (n : ℕ) → n ≤ 2_932_896 → IsDay n (date_of n)
unfolding date_of
is_day zero le = first
is_day (suc n) le = after n (date_of n) (omega arith) (is_day n (omega arith))

pub same_date : (n : ℕ) (date : Date) → n ≤ 2_932_896 → epoch_day date ≡ pos n → IsSameDate date (date_of n)
same_date n date le is =
    let day = is_day n le in
    let civil : Date = record { year = pos (date_of n).year; month = (date_of n).month; day = (date_of n).day; year_in = (omega (arith, signed_arith), omega (arith, signed_arith, day.year)); month_in = day.month; day_in = day.day } in
    epoch_day_injective date civil (is ∙ sym day.number)
