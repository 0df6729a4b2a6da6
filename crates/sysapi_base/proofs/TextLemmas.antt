-- The texts of moments are ASCII.
use Rattle.std.proofs.Common.{ℕ, zero, suc, ◌+◌, ◌%◌, ◌/◌, ◌<◌, List, [], ◌∷◌, ◌++◌, arith}
use Rattle.std.specs.Prelude.{All}
use Rattle.std.specs.Str.{IsUtf8}
use Rattle.std.proofs.lemmas.List.Elements.{All-append, All-cons, All-nil}
use Rattle.std.proofs.lemmas.Str.{IsUtf8-from_ascii}
use Rattle.std.proofs.lemmas.Str.Ascii.{IsAscii-from_all}
use Rattle.sysapi_base.specs.Calendar.{CivilDate, date_of, day_number, hour, minute, second}
use Rattle.sysapi_base.specs.Moment.{decimal, date_text, time_text, moment_text}

record AreAscii (bytes : List ℕ) : Type 0 where
  all : All (λ b. b < 128) bytes

joined : {a b : List ℕ} → AreAscii a → AreAscii b → AreAscii (a ++ b)
joined {a} {b} p q = record { all = All-append (λ b. b < 128) a b p.all q.all }

one : (b : ℕ) → b < 128 → AreAscii (b ∷ [])
one b lt = record { all = All-cons (λ b. b < 128) b [] lt (All-nil (λ b. b < 128)) }

decimal_ascii : (width n : ℕ) → AreAscii (decimal width n)
decimal_ascii zero n = record { all = All-nil (λ b. b < 128) }
decimal_ascii (suc width) n = joined (decimal_ascii width (n / 10)) (one (48 + n % 10) (omega arith))

date_ascii : (date : CivilDate) → AreAscii (date_text date)
date_ascii date = joined (joined (joined (joined (decimal_ascii 4 date.year) (one 45 (omega arith))) (decimal_ascii 2 date.month)) (one 45 (omega arith))) (decimal_ascii 2 date.day)

time_ascii : (millis : ℕ) → AreAscii (time_text millis)
time_ascii millis =
    joined (joined (joined (joined (joined (joined (decimal_ascii 2 (hour millis)) (one 58 (omega arith))) (decimal_ascii 2 (minute millis))) (one 58 (omega arith)))
    (decimal_ascii 2 (second millis))) (one 46 (omega arith))) (decimal_ascii 3 (millis % 1000))

moment_ascii : (millis : ℕ) → AreAscii (moment_text millis)
moment_ascii millis = joined (joined (joined (date_ascii (date_of (day_number millis))) (one 84 (omega arith))) (time_ascii millis)) (one 90 (omega arith))

pub moment_utf8 : (millis : ℕ) → IsUtf8 (moment_text millis)
moment_utf8 millis = IsUtf8-from_ascii (moment_text millis) (IsAscii-from_all (moment_text millis) (moment_ascii millis).all)
