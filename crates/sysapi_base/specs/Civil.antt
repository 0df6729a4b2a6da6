-- The dates of the calendar library.
use Rattle.std.specs.Prelude.{◌≡◌, pos}
use Rattle.jiff_core.specs.declared.civil.date.Date.{Date}
use Rattle.sysapi_base.specs.Calendar.{CivilDate}

-- a date of the library is this date
abbrev pub IsSameDate : Date → CivilDate → Type 0
IsSameDate date civil = (date.year ≡ pos civil.year) × (date.month ≡ civil.month) × (date.day ≡ civil.day)
