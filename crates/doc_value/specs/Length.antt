-- Lengths that stop at the greatest number of 64 bits.
use Rattle.std.specs.Prelude.{ℕ, ◌+◌, ◌-◌, ◌^◌, min, List, length}

-- a number and the length of a text, at most 2^64 - 1
abbrev pub plus : ℕ → List ℕ → ℕ
plus n text = min (n + length text) (2 ^ 64 - 1)
