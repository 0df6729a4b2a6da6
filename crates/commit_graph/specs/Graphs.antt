-- Graphs of commits, each as the number of its previous commit, if it has one.
use Rattle.std.specs.Prelude.{◌≡◌, ℕ, zero, suc, ◌<◌, nat_le, ◌==◌, ◌||◌, Bool, false, List, Option, Some, None, is_some, option_and_then, slice_get, IfSome, length}
use Rattle.std.specs.Option.{option_map_or}

-- the previous commit of c, if there is one
abbrev pub previous_of : List (Option ℕ) → ℕ → Option ℕ
previous_of graph c = option_and_then (λ previous. previous) (slice_get graph c)

-- The commit that is reached from c by going to the previous one k times, if there is one.
abbrev pub ancestor_at : List (Option ℕ) → ℕ → ℕ → Option ℕ
ancestor_at graph c zero = Some c
ancestor_at graph c (suc k) = option_and_then (previous_of graph) (ancestor_at graph c k)

-- The ancestry of c has d commits before c: one can go back k times just for each k up to d.
abbrev pub HasDepth : List (Option ℕ) → ℕ → ℕ → Type 0
HasDepth graph c d = (k : ℕ) → is_some (ancestor_at graph c k) ≡ nat_le k d

-- each previous commit is earlier
abbrev pub IsGraph : List (Option ℕ) → Type 0
IsGraph graph = (c p : ℕ) → previous_of graph c ≡ Some p → p < c

-- a previous commit, if there is one, is in the graph
abbrev pub IsEarlier : List (Option ℕ) → Option ℕ → Type 0
IsEarlier graph previous = IfSome previous (λ p. p < length graph)

-- Whether a is c, or is met going back from c at most n times.
abbrev pub reaches : List (Option ℕ) → ℕ → ℕ → ℕ → Bool
reaches graph zero c a = c == a
reaches graph (suc n) c a = (c == a) || option_map_or (λ p. reaches graph n p a) (previous_of graph c) false

-- Whether a is c or stands in its ancestry. Each previous commit is earlier, so c steps reach all.
abbrev pub has_ancestor : List (Option ℕ) → ℕ → ℕ → Bool
has_ancestor graph a c = reaches graph c c a

-- whether a stands in the ancestry of what is given, if anything is
abbrev pub has_ancestor_behind : List (Option ℕ) → Option ℕ → ℕ → Bool
has_ancestor_behind graph None a = false
has_ancestor_behind graph (Some p) a = has_ancestor graph a p
