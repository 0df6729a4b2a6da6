-- The calls of an object in memory that are to fail.
use Rattle.std.specs.Prelude.{ℕ, ◌+◌, ◌-◌, ◌^◌, min, Bool, not, ◌==◌, if◌then◌else◌, List, filter}
use Rattle.std.specs.List.{list_any}

-- the number of the next call, counted from 0, how many calls have failed, and the numbers of those that are to fail yet
pub record Calls : Type 0 where
  pub next : ℕ
  pub failed : ℕ
  pub left : List ℕ

-- before the first call, where the calls of these numbers are to fail
abbrev pub failing_at : List ℕ → Calls
failing_at numbers = record { next = 0; failed = 0; left = numbers }

-- the next call fails where its number is in the list
abbrev pub is_failing : Calls → Bool
is_failing calls = list_any (λ n. n == calls.next) calls.left

-- After a call its number is in the list no more, and it is counted where it failed. The last number of a u64 is that of all
-- calls from there on.
abbrev pub after_call : Calls → Calls
after_call calls = record {
  next = min (calls.next + 1) (2 ^ 64 - 1);
  failed = if is_failing calls then calls.failed + 1 else calls.failed;
  left = filter (λ n. not (n == calls.next)) calls.left;
}
