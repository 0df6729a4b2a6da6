-- The objects of the outside in memory, as contracts see them.
use Rattle.std.specs.Prelude.{◌≡◌, ℕ, zero, suc, ◌+◌, ◌-◌, ◌*◌, ◌^◌, min, ◌==◌, if◌then◌else◌, List, [], ◌∷◌, ◌++◌, Option, Some, None}
use Rattle.sysapi_base.specs.Failing.{Calls}
use Rattle.sysapi_base.specs.declared.moment.TheConstants.{END}

-- the bytes that a source will give, how many it gives in one read at most, and which reads are to fail
pub record Giving : Type 0 where
  pub left : List ℕ
  pub most : ℕ
  pub calls : Calls

abbrev pub source_left : Giving → Option (List ℕ)
source_left source = Some source.left

abbrev pub source_faults : Giving → ℕ
source_faults source = source.calls.failed

-- no read that is to fail is left
abbrev pub IsSourceSteady : Giving → Type 0
IsSourceSteady source = source.calls.left ≡ []

-- the bytes that a sink took, while it tells them, how many it takes in one write at most, and which writes are to fail
pub record Taking : Type 0 where
  pub taken : Option (List ℕ)
  pub most : ℕ
  pub calls : Calls

abbrev pub sink_taken : Taking → Option (List ℕ)
sink_taken sink = sink.taken

abbrev pub sink_faults : Taking → ℕ
sink_faults sink = sink.calls.failed

-- no write that is to fail is left
abbrev pub IsSinkSteady : Taking → Type 0
IsSinkSteady sink = sink.calls.left ≡ []

-- a clock's first reading, the milliseconds from one to the next, and how many it has given
pub record Ticking : Type 0 where
  pub first : ℕ
  pub step : ℕ
  pub count : ℕ

-- the reading number k, from 0 on, at most the last moment
abbrev pub reading : ℕ → ℕ → ℕ → ℕ
reading first step k = min (first + k * step) (END - 1)

-- the first k readings
abbrev pub readings_of : ℕ → ℕ → ℕ → List ℕ
readings_of first step zero = []
readings_of first step (suc k) = readings_of first step k ++ reading first step k ∷ []

-- what a clock has read, until its count has its last value
abbrev pub clock_readings : Ticking → Option (List ℕ)
clock_readings c = if c.count == 2 ^ 64 - 1 then None else Some (readings_of c.first c.step c.count)
