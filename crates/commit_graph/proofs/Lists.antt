-- The previous commits in a longer graph.
use Rattle.std.proofs.Common.{◌≡◌, ℕ, zero, suc, ◌<◌, ◌≤◌, List, [], ◌∷◌, ◌++◌, length, Option, Some, None, refl, sym, ap, arith}
use Rattle.std.specs.Prelude.{slice_get, option_and_then, IfSome}
use Rattle.commit_graph.specs.Graphs.{previous_of, IsGraph}

module _ {X : Type 0} where
  pub get_before : (xs ys : List X) (i : ℕ) → i < length xs → slice_get (xs ++ ys) i ≡ slice_get xs i
  get_before [] ys i lt = absurd (omega (arith, lt))
  get_before (x ∷ xs) ys zero lt = refl
  get_before (x ∷ xs) ys (suc i) lt = get_before xs ys i (omega arith)

  pub get_last : (xs : List X) (x : X) → slice_get (xs ++ x ∷ []) (length xs) ≡ Some x
  get_last [] x = refl
  get_last (y ∷ xs) x = get_last xs x

  pub get_past : (xs : List X) (i : ℕ) → length xs ≤ i → slice_get xs i ≡ None
  get_past [] i le = refl
  get_past (x ∷ xs) zero le = absurd (omega (arith, le))
  get_past (x ∷ xs) (suc i) le = get_past xs i (omega arith)

pub previous_before : (graph more : List (Option ℕ)) (c : ℕ) → c < length graph → previous_of (graph ++ more) c ≡ previous_of graph c
previous_before graph more c lt = ap (option_and_then (λ p. p)) (get_before graph more c lt)

pub previous_last : (graph : List (Option ℕ)) (previous : Option ℕ) → previous_of (graph ++ previous ∷ []) (length graph) ≡ previous
previous_last graph previous = ap (option_and_then (λ p. p)) (get_last graph previous)

pub previous_past : (graph : List (Option ℕ)) (c : ℕ) → length graph ≤ c → previous_of graph c ≡ None
previous_past graph c le = ap (option_and_then (λ p. p)) (get_past graph c le)

pub is_earlier : (graph : List (Option ℕ)) (c : ℕ) (o : Option ℕ) → IsGraph graph → o ≡ previous_of graph c → IfSome o (λ p. p < c)
is_earlier graph c None is e = tt
is_earlier graph c (Some p) is e = is c p (sym e)
