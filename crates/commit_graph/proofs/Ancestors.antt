-- Going back from a commit.
use Rattle.std.proofs.Common.{◌≡◌, ℕ, zero, suc, ◌+◌, ◌-◌, ◌<◌, ◌≤◌, List, ◌++◌, length, Option, Some, None, true, false, is_some, refl, sym, ap, ◌∙◌, arith}
use Rattle.std.specs.Prelude.{option_and_then, nat_le}
use Rattle.std.proofs.lemmas.Bool.Decides.{nat_tests}
use Rattle.commit_graph.specs.Graphs.{previous_of, ancestor_at, HasDepth, IsGraph}
use Rattle.commit_graph.proofs.Lists.{previous_before}

module _ (graph : List (Option ℕ)) where
  -- first k times, then j times
  pub farther : (c k j : ℕ) → ancestor_at graph c (k + j) ≡ option_and_then (λ x. ancestor_at graph x j) (ancestor_at graph c k)
  farther c k zero =
      let here : k + 0 ≡ k = omega arith in
      ap (ancestor_at graph c) here ∙ same (ancestor_at graph c k)
    where
      same : (o : Option ℕ) → o ≡ option_and_then (λ x. Some x) o
      same None = refl
      same (Some x) = refl
  farther c k (suc j) =
      let more : k + suc j ≡ suc (k + j) = omega arith in
      ap (ancestor_at graph c) more ∙ ap (option_and_then (previous_of graph)) (farther c k j) ∙ turned (ancestor_at graph c k)
    where
      turned : (o : Option ℕ) → option_and_then (previous_of graph) (option_and_then (λ x. ancestor_at graph x j) o) ≡ option_and_then (λ x. option_and_then (previous_of graph) (ancestor_at graph x j)) o
      turned None = refl
      turned (Some x) = refl

  -- where there is none, there is none farther back
  pub none_farther : (c k n : ℕ) → k ≤ n → ancestor_at graph c k ≡ None → ancestor_at graph c n ≡ None
  none_farther c k n le none =
      let whole : n ≡ k + (n - k) = omega arith in
      ap (ancestor_at graph c) whole ∙ farther c k (n - k) ∙ ap (option_and_then (λ x. ancestor_at graph x (n - k))) none

  pub through : (c k a j : ℕ) → ancestor_at graph c k ≡ Some a → ancestor_at graph c (k + j) ≡ ancestor_at graph a j
  through c k a j is = farther c k j ∙ ap (option_and_then (λ x. ancestor_at graph x j)) is

  -- from the previous one
  pub first_step : (c k : ℕ) → ancestor_at graph c (suc k) ≡ option_and_then (λ p. ancestor_at graph p k) (previous_of graph c)
  first_step c k =
      let more : suc k ≡ 1 + k = omega arith in
      ap (ancestor_at graph c) more ∙ farther c 1 k

  -- an ancestor stands as much nearer to the first as the depths differ
  pub depth_between : (a c da dc k : ℕ) → HasDepth graph a da → HasDepth graph c dc → ancestor_at graph c k ≡ Some a → dc ≡ k + da
  depth_between a c da dc k first second is =
      let at : (j : ℕ) → nat_le (k + j) dc ≡ nat_le j da = λ j. sym (second (k + j)) ∙ ap is_some (through c k a j is) ∙ first j in
      exact dc da k at
    where
      self_le : (n : ℕ) → nat_le n n ≡ true
      self_le n = grind (arith, nat_tests)

      not_more : (n : ℕ) → nat_le (n + 1) n ≡ false
      not_more n = grind (arith, nat_tests)

      le_from : (m n : ℕ) → nat_le m n ≡ true → m ≤ n
      le_from m n e = grind (arith, nat_tests)

      lt_from : (m n : ℕ) → nat_le m n ≡ false → n < m
      lt_from m n e = grind (arith, nat_tests)

      exact : (dc da k : ℕ) → ((j : ℕ) → nat_le (k + j) dc ≡ nat_le j da) → dc ≡ k + da
      exact dc da k at =
          let low : k + da ≤ dc = le_from (k + da) dc (at da ∙ self_le da) in
          let high : dc < k + (da + 1) = lt_from (k + (da + 1)) dc (at (da + 1) ∙ not_more da) in
          omega arith

  pub same_depth : (c d e : ℕ) → HasDepth graph c d → HasDepth graph c e → d ≡ e
  same_depth c d e first second = let at : d ≡ 0 + e = depth_between c c e d 0 second first refl in omega arith

-- each step back is to an earlier commit
pub no_later : (graph : List (Option ℕ)) → IsGraph graph → (c k x : ℕ) → ancestor_at graph c k ≡ Some x → k + x ≤ c
no_later graph is c zero x e = let same : c ≡ x = cc in omega arith
no_later graph is c (suc k) x e = from (ancestor_at graph c k) (λ y h. no_later graph is c k y h) e
  where
    from : (o : Option ℕ) → ((y : ℕ) → o ≡ Some y → k + y ≤ c) → option_and_then (previous_of graph) o ≡ Some x → suc k + x ≤ c
    from None h e = absurd (no e)
      where
        no : None ≡ Some x → ⊥
        no e = cc
    from (Some y) h e = let lt : x < y = is y x e in let le : k + y ≤ c = h y refl in omega arith

-- a longer graph has the same ancestors of the commits before
pub ancestors_stay : (graph more : List (Option ℕ)) (c k : ℕ) → IsGraph graph → c < length graph → ancestor_at (graph ++ more) c k ≡ ancestor_at graph c k
ancestors_stay graph more c zero is lt = refl
ancestors_stay graph more c (suc k) is lt =
    ap (option_and_then (previous_of (graph ++ more))) (ancestors_stay graph more c k is lt)
    ∙ step (ancestor_at graph c k) (λ x h. let le : k + x ≤ c = no_later graph is c k x h in omega arith)
  where
    step : (o : Option ℕ) → ((x : ℕ) → o ≡ Some x → x < length graph) → option_and_then (previous_of (graph ++ more)) o ≡ option_and_then (previous_of graph) o
    step None h = refl
    step (Some x) h = previous_before graph more x (h x refl)

pub depths_stay : (graph more : List (Option ℕ)) (c d : ℕ) → IsGraph graph → c < length graph → HasDepth graph c d → HasDepth (graph ++ more) c d
depths_stay graph more c d is lt has k = ap is_some (ancestors_stay graph more c k is lt) ∙ has k

pub depths_before : (graph more : List (Option ℕ)) (c d : ℕ) → IsGraph graph → c < length graph → HasDepth (graph ++ more) c d → HasDepth graph c d
depths_before graph more c d is lt has k = sym (ap is_some (ancestors_stay graph more c k is lt)) ∙ has k
