-- The ancestry of commits, and one more commit.
use Rattle.std.proofs.Common.{arith, ◌≡◌, ℕ, ◌+◌, ◌<◌, ◌≤◌, nat_le, ◌==◌, ◌&&◌, ◌||◌, Bool, true, false, cond, List, [], ◌∷◌, ◌++◌, length, Option, Some, None, refl, ap, sym, ◌∙◌}
use Rattle.std.proofs.lemmas.Bool.{eqb-true, leb-true}
use Rattle.std.proofs.lemmas.Bool.Decides.{nat_tests}
use Rattle.timeline.specs.Values.{Changes, value_at, changed}
use Rattle.commit_graph.specs.Graphs.{IsGraph, IsEarlier, has_ancestor, has_ancestor_behind}
use Rattle.commit_graph.proofs.Reached.{reached_before, reached_last, not_reached_later}
use Rattle.api_records.specs.Sets.{added}
use Rattle.repo_state.specs.Numbered.{IsNumbered}
use Rattle.repo_state.specs.Stands.{is_behind, ancestry_in, ancestry_of}
use Rattle.repo_state.specs.Shown.{from_on, number_of, KeepsCommits}
use Rattle.repo_state.specs.declared.state.State.{State}
use Rattle.repo_state.specs.declared.data.CommitData.{CommitData}

itself : (n : ℕ) → (n == n) ≡ true
itself n = grind (arith, nat_tests)

another : (n k : ℕ) → k < n → (n == k) ≡ false
another n k lt = grind (arith, nat_tests)

module _ (graph : List (Option ℕ)) (is : IsGraph graph) where
  -- in a longer graph the commits that were there stand behind one another as before
  pub behind_before : (more : List (Option ℕ)) (d e : Option CommitData) → IsNumbered graph d → is_behind (graph ++ more) d e ≡ is_behind graph d e
  behind_before more None e lt = refl
  behind_before more (Some d) None lt = refl
  behind_before more (Some d) (Some e) lt = reached_before graph more e.number d.number is lt

  -- no earlier commit has the new one behind it
  pub new_behind_none : (more : List (Option ℕ)) (d : Option CommitData) (new : CommitData) → new.number ≡ length graph → IsNumbered graph d → is_behind (graph ++ more) d (Some new) ≡ false
  new_behind_none more None new at lt = refl
  new_behind_none more (Some d) new at lt = reached_before graph more new.number d.number is lt ∙ not_reached_later graph new.number d.number is (omega arith)

  module _ (older : Option CommitData) (numbered : IsNumbered graph older) (new : CommitData) (at : new.number ≡ length graph) where
    abbrev longer : List (Option ℕ)
    longer = graph ++ number_of older ∷ []

    early : (o : Option CommitData) → IsNumbered graph o → IsEarlier graph (number_of o)
    early None lt = tt
    early (Some d) lt = lt

    last : (k : ℕ) → has_ancestor longer k new.number ≡ ((length graph == k) || has_ancestor_behind graph (number_of older) k)
    last k = ap (has_ancestor longer k) at ∙ reached_last graph (number_of older) k is (early older numbered)

    met : (o : Option CommitData) (e : CommitData) → has_ancestor_behind graph (number_of o) e.number ≡ is_behind graph o (Some e)
    met None e = refl
    met (Some d) e = refl

    none : (o : Option CommitData) → false ≡ is_behind graph o None
    none None = refl
    none (Some d) = refl

    -- behind the new commit stands it itself
    pub new_behind_new : is_behind longer (Some new) (Some new) ≡ true
    new_behind_new = last new.number ∙ ap (λ b. b || has_ancestor_behind graph (number_of older) new.number) (ap (λ n. length graph == n) at ∙ itself (length graph))

    -- and, of the others, what stands behind the commit before it
    pub behind_new : (e : Option CommitData) → IsNumbered graph e → is_behind longer (Some new) e ≡ is_behind graph older e
    behind_new None lt = none older
    behind_new (Some e) lt = last e.number ∙ ap (λ b. b || has_ancestor_behind graph (number_of older) e.number) (another (length graph) e.number lt) ∙ met older e

module _ (s : State) (keeps : KeepsCommits s) (older : Option CommitData) (numbered : IsNumbered s.graph older) (made : CommitData) (at : made.number ≡ length s.graph) where
  abbrev with_made : List (Option ℕ)
  with_made = s.graph ++ number_of older ∷ []

  -- nothing stands behind a commit that isn't there
  absent : (o e : Option CommitData) → e ≡ None → false ≡ is_behind s.graph o e
  absent None e is = refl
  absent (Some d) e is = ap (is_behind s.graph (Some d)) (sym is)

  module _ (fresh : (m : ℕ) → value_at s.commits made.commit.id m ≡ None) (behind : ℕ → Bool) (told : (a : ℕ) → is_behind s.graph older (value_at s.commits a s.front) ≡ behind a) (q m a : ℕ) where
    abbrev old : ℕ → Option CommitData
    old x = value_at s.commits x m

    -- by whether the point is a later one, and whether the one id or the other is the new commit's
    by_case : (late here there : Bool) → (late ≡ true → s.front + 1 ≤ m) → (made.commit.id == a) ≡ there → (there ≡ true → made.commit.id ≡ a)
        → is_behind with_made (cond (here && late) (Some made) (old q)) (cond (there && late) (Some made) (old a))
        ≡ cond late (cond here (added made.commit.id behind a) (is_behind s.graph (old q) (old a))) (is_behind s.graph (old q) (old a))
    by_case true true true late is same =
        new_behind_new s.graph keeps.earlier older numbered made at ∙ ap (λ b. cond b true (behind a)) (sym is)
    by_case true true false late is same =
        let from : s.front + 1 ≤ m = late refl in
        let le : s.front ≤ m = omega (arith, from) in
        behind_new s.graph keeps.earlier older numbered made at (old a) (keeps.numbered a m)
        ∙ ap (is_behind s.graph older) (keeps.stays a m le) ∙ told a ∙ ap (λ b. cond b true (behind a)) (sym is)
    by_case true false true late is same =
        new_behind_none s.graph keeps.earlier (number_of older ∷ []) (old q) made at (keeps.numbered q m)
        ∙ absent (old q) (old a) (ap old (sym (same refl)) ∙ fresh m)
    by_case true false false late is same = behind_before s.graph keeps.earlier (number_of older ∷ []) (old q) (old a) (keeps.numbered q m)
    by_case false true true late is same = behind_before s.graph keeps.earlier (number_of older ∷ []) (old q) (old a) (keeps.numbered q m)
    by_case false true false late is same = behind_before s.graph keeps.earlier (number_of older ∷ []) (old q) (old a) (keeps.numbered q m)
    by_case false false true late is same = behind_before s.graph keeps.earlier (number_of older ∷ []) (old q) (old a) (keeps.numbered q m)
    by_case false false false late is same = behind_before s.graph keeps.earlier (number_of older ∷ []) (old q) (old a) (keeps.numbered q m)

    spread : (late here : Bool) → cond late (cond here (added made.commit.id behind a) (is_behind s.graph (old q) (old a))) (is_behind s.graph (old q) (old a))
        ≡ cond late (cond here (added made.commit.id behind) (ancestry_of s m q)) (ancestry_of s m q) a
    spread true true = refl
    spread true false = refl
    spread false here = refl

    -- the ancestry that is told behind the new commit
    pub ancestry_told : (graph : List (Option ℕ)) (commits : Changes CommitData) → graph ≡ with_made
        → ((x n : ℕ) → value_at commits x n ≡ changed (value_at s.commits) made.commit.id (s.front + 1) (Some made) x n)
        → ancestry_in graph commits m q a ≡ from_on (s.front + 1) m (λ o. cond (made.commit.id == q) (added made.commit.id behind) o) (ancestry_of s m q) a
    ancestry_told graph commits is set =
        (λ i. is_behind (is i) (set q m i) (set a m i))
        ∙ by_case (nat_le (s.front + 1) m) (made.commit.id == q) (made.commit.id == a) (leb-true (s.front + 1) m) refl (eqb-true made.commit.id a)
        ∙ spread (nat_le (s.front + 1) m) (made.commit.id == q)
