-- Whether a commit is met going back, in a longer graph.
use Rattle.std.proofs.Common.{◌≡◌, ℕ, zero, suc, ◌+◌, ◌<◌, ◌≤◌, ◌↔◌, ◌||◌, ◌==◌, List, [], ◌∷◌, ◌++◌, length, Bool, false, true, Option, Some, None, IsTrue, inl, inr, eqb-true, eq-eqb, refl, sym, ap, ◌∙◌, arith}
use Rattle.std.specs.Prelude.{IfSome, option_and_then}
use Rattle.std.specs.Option.{option_map_or}
use Rattle.std.proofs.lemmas.Bool.{or_cases, or_from, or_left, or_right, false_from_ne_true, false≢true, ne_eqb}
use Rattle.std.proofs.Math.Bool.{or-false}
use Rattle.commit_graph.specs.Graphs.{previous_of, ancestor_at, IsGraph, IsEarlier, reaches, has_ancestor, has_ancestor_behind}
use Rattle.commit_graph.proofs.Lists.{previous_before, previous_last}
use Rattle.commit_graph.proofs.Ancestors.{first_step, no_later}

-- tests that agree on what is there
agree : (f g : ℕ → Bool) (o : Option ℕ) → ((p : ℕ) → o ≡ Some p → f p ≡ g p) → option_map_or f o false ≡ option_map_or g o false
agree f g None h = refl
agree f g (Some p) h = h p refl

-- where none is before, the previous one meets nothing
first : (graph : List (Option ℕ)) (f : ℕ → Bool) → IsGraph graph → (c : ℕ) → c ≤ 0 → option_map_or f (previous_of graph c) false ≡ false
first graph f is c le = nothing (previous_of graph c) (λ p at. let less : p < c = is c p at in omega arith)
  where
    nothing : (o : Option ℕ) → ((p : ℕ) → o ≡ Some p → ⊥) → option_map_or f o false ≡ false
    nothing None none = refl
    nothing (Some p) none = absurd (none p refl)

-- as many steps as the number of the commit, or more, meet the same
enough : (graph : List (Option ℕ)) (a : ℕ) → IsGraph graph → (m n c : ℕ) → c ≤ m → c ≤ n → reaches graph m c a ≡ reaches graph n c a
enough graph a is zero zero c below within = refl
enough graph a is zero (suc n) c below within = sym (or-false (c == a)) ∙ ap (λ t. (c == a) || t) (sym (first graph (λ p. reaches graph n p a) is c below))
enough graph a is (suc m) zero c below within = ap (λ t. (c == a) || t) (first graph (λ p. reaches graph m p a) is c within) ∙ or-false (c == a)
enough graph a is (suc m) (suc n) c below within =
    ap (λ t. (c == a) || t)
    (agree (λ p. reaches graph m p a) (λ p. reaches graph n p a) (previous_of graph c)
    (λ p at. let less : p < c = is c p at in enough graph a is m n p (omega arith) (omega arith)))

-- a longer graph meets the same from a commit before
stays : (graph more : List (Option ℕ)) (a : ℕ) → IsGraph graph → (n c : ℕ) → c < length graph → reaches (graph ++ more) n c a ≡ reaches graph n c a
stays graph more a is zero c lt = refl
stays graph more a is (suc n) c lt =
    ap (λ t. (c == a) || t)
    (ap (λ o. option_map_or (λ p. reaches (graph ++ more) n p a) o false) (previous_before graph more c lt)
    ∙ agree (λ p. reaches (graph ++ more) n p a) (λ p. reaches graph n p a) (previous_of graph c)
    (λ p at. let less : p < c = is c p at in stays graph more a is n p (omega arith)))

pub reached_before : (graph more : List (Option ℕ)) (a c : ℕ) → IsGraph graph → c < length graph → has_ancestor (graph ++ more) a c ≡ has_ancestor graph a c
reached_before graph more a c is lt = stays graph more a is c c lt

pub reached_last : (graph : List (Option ℕ)) (previous : Option ℕ) (a : ℕ) → IsGraph graph → IsEarlier graph previous
    → has_ancestor (graph ++ previous ∷ []) a (length graph) ≡ ((length graph == a) || has_ancestor_behind graph previous a)
reached_last graph previous a is early = from (length graph) refl
  where
    longer : List (Option ℕ)
    longer = graph ++ previous ∷ []

    behind : (n : ℕ) (o : Option ℕ) → IfSome o (λ p. p < length graph) → length graph ≡ suc n
        → option_map_or (λ p. reaches longer n p a) o false ≡ has_ancestor_behind graph o a
    behind n None early size = refl
    behind n (Some p) early size = stays graph (previous ∷ []) a is n p early ∙ enough graph a is n p p (omega arith) (omega arith)

    none : (o : Option ℕ) → IfSome o (λ p. p < length graph) → length graph ≡ 0 → has_ancestor_behind graph o a ≡ false
    none None early size = refl
    none (Some p) early size = absurd (omega (arith, early))

    from : (n : ℕ) → length graph ≡ n → reaches longer n n a ≡ ((n == a) || has_ancestor_behind graph previous a)
    from zero size = sym (or-false (0 == a)) ∙ ap (λ t. (0 == a) || t) (sym (none previous early size))
    from (suc n) size =
        ap (λ t. (suc n == a) || t)
        (ap (λ o. option_map_or (λ p. reaches longer n p a) o false) (ap (previous_of longer) (sym size) ∙ previous_last graph previous)
        ∙ behind n previous early size)

-- from an earlier commit a later one is not met
not_met : (graph : List (Option ℕ)) (a : ℕ) → IsGraph graph → (n c : ℕ) → c < a → reaches graph n c a ≡ false
not_met graph a is zero c lt = ne_eqb c a (λ same. omega arith)
not_met graph a is (suc n) c lt =
    or_from (c == a) _ (ne_eqb c a (λ same. omega arith))
    (agree (λ p. reaches graph n p a) (λ p. false) (previous_of graph c) (λ p at. let less : p < c = is c p at in not_met graph a is n p (omega arith))
    ∙ nothing (previous_of graph c))
  where
    nothing : (o : Option ℕ) → option_map_or (λ p. false) o false ≡ false
    nothing None = refl
    nothing (Some p) = refl

pub not_reached_later : (graph : List (Option ℕ)) (a c : ℕ) → IsGraph graph → c < a → has_ancestor graph a c ≡ false
not_reached_later graph a c is lt = not_met graph a is c c lt

-- what is reached is met in some number of steps
found : (graph : List (Option ℕ)) (a n c : ℕ) → reaches graph n c a ≡ true → (k : ℕ) × (ancestor_at graph c k ≡ Some a)
found graph a zero c h = (0, ap Some (eqb-true c a h))
found graph a (suc n) c h =
    elim (or_cases (c == a) _ h) [
      | inl here ↦ (0, ap Some (eqb-true c a here))
      | inr there ↦ behind (previous_of graph c) refl (λ p. found graph a n p) there
    ]
  where
    behind : (o : Option ℕ) → previous_of graph c ≡ o → ((p : ℕ) → reaches graph n p a ≡ true → (k : ℕ) × (ancestor_at graph p k ≡ Some a))
        → option_map_or (λ p. reaches graph n p a) o false ≡ true → (k : ℕ) × (ancestor_at graph c k ≡ Some a)
    behind None at more h = absurd (false≢true h)
    behind (Some p) at more h =
        let far : (k : ℕ) × (ancestor_at graph p k ≡ Some a) = more p h in
        (suc far.0, first_step graph c far.0 ∙ ap (option_and_then (λ p. ancestor_at graph p far.0)) at ∙ far.1)

-- what is met in no more steps is reached
met : (graph : List (Option ℕ)) (a k n c : ℕ) → k ≤ n → ancestor_at graph c k ≡ Some a → reaches graph n c a ≡ true
met graph a zero zero c le at = eq-eqb c a cc
met graph a zero (suc n) c le at = or_left (c == a) _ (eq-eqb c a cc)
met graph a (suc k) zero c le at = absurd (omega (arith, le))
met graph a (suc k) (suc n) c le at =
    or_right (c == a) _ (behind (previous_of graph c) (λ p. met graph a k n p (omega arith)) (sym (first_step graph c k) ∙ at))
  where
    behind : (o : Option ℕ) → ((p : ℕ) → ancestor_at graph p k ≡ Some a → reaches graph n p a ≡ true)
        → option_and_then (λ p. ancestor_at graph p k) o ≡ Some a → option_map_or (λ p. reaches graph n p a) o false ≡ true
    behind None more at = absurd (no at)
      where
        no : None ≡ Some a → ⊥
        no e = cc
    behind (Some p) more at = more p at

-- a test that is true just where there is such a number of steps
pub told_by : (graph : List (Option ℕ)) (a c : ℕ) → IsGraph graph → (b : Bool) → (IsTrue b ↔ ((k : ℕ) × (ancestor_at graph c k ≡ Some a))) → b ≡ has_ancestor graph a c
told_by graph a c is true exact =
    let way : (k : ℕ) × (ancestor_at graph c k ≡ Some a) = exact.0 refl in
    let far : way.0 + a ≤ c = no_later graph is c way.0 a way.1 in
    sym (met graph a way.0 c c (omega arith) way.1)
told_by graph a c is false exact = sym (false_from_ne_true (has_ancestor graph a c) (λ h. false≢true (exact.1 (found graph a c c h))))
