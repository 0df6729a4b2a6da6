-- The keys of a map behind one of them.
use Rattle.std.specs.Prelude.{Option, None, Some, List, Bool, true, map}
use Rattle.std.specs.declared.cmp.Ordering.{Ordering}
use Rattle.std.specs.Ordering.{is_lt}
use Rattle.std.specs.List.{filter}

-- whether a key comes after a bound. Where there is none, each does
abbrev pub comes_after : {K : Type 0} → (K → K → Ordering) → Option K → K → Bool
comes_after R None k = true
comes_after R (Some b) k = is_lt (R b k)

-- the keys of the entries that come after a bound, in their order
abbrev pub keys_after : {K X : Type 0} → (K → K → Ordering) → Option K → List (K × X) → List K
keys_after R after es = filter (comes_after R after) (map (λ e. e.0) es)
