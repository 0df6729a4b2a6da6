-- The texts of moments (RFC 3339).
use Rattle.std.specs.Prelude.{ℕ, zero, suc, ◌+◌, ◌%◌, ◌/◌, List, [], ◌∷◌, ◌++◌, codes}
use Rattle.sysapi_base.specs.Calendar.{CivilDate, date_of, day_number, hour, minute, second}

-- the last so many decimal digits of a number, in ASCII
abbrev pub decimal : ℕ → ℕ → List ℕ
decimal zero n = []
decimal (suc width) n = decimal width (n / 10) ++ (48 + n % 10) ∷ []

-- as 2000-01-01
abbrev pub date_text : CivilDate → List ℕ
date_text date = decimal 4 date.year ++ codes "-" ++ decimal 2 date.month ++ codes "-" ++ decimal 2 date.day

-- as 00:00:00.000, of the milliseconds since 1970
abbrev pub time_text : ℕ → List ℕ
time_text millis = decimal 2 (hour millis) ++ codes ":" ++ decimal 2 (minute millis) ++ codes ":" ++ decimal 2 (second millis) ++ codes "." ++ decimal 3 (millis % 1000)

-- as 2000-01-01T00:00:00.000Z
abbrev pub moment_text : ℕ → List ℕ
moment_text millis = date_text (date_of (day_number millis)) ++ codes "T" ++ time_text millis ++ codes "Z"
