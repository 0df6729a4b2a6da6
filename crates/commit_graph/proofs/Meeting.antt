-- What is met going back.
use Rattle.std.proofs.Common.{◌≡◌, ℕ, ◌+◌, ◌-◌, ◌<◌, ◌≤◌, ◌↔◌, List, ◌++◌, length, Option, Some, IsSome, IsTrue, false, nat_eq, eqb-true, eq-eqb, sym, ap, ◌∙◌, arith}
use Rattle.std.proofs.lemmas.Bool.{false≢true}
use Rattle.std.proofs.lemmas.Bool.Decides.{nat_tests}
use Rattle.commit_graph.specs.Graphs.{previous_of, ancestor_at, HasDepth, IsGraph}
use Rattle.commit_graph.specs.Kept.{IsCommit, IsMet}
use Rattle.commit_graph.specs.declared.graph.Commit.{Commit}
use Rattle.commit_graph.proofs.Lists.{previous_before}
use Rattle.commit_graph.proofs.Ancestors.{through, depth_between, ancestors_stay, depths_stay, depths_before}

module _ (graph : List (Option ℕ)) where
  -- in so many steps
  pub met_at : (c k a : ℕ) → ancestor_at graph c k ≡ Some a → IsMet graph c a
  met_at c k a is dc da from to =
      let at : dc ≡ k + da = depth_between graph a c da dc k to from is in
      let steps : dc - da ≡ k = omega arith in
      (omega arith, ap (ancestor_at graph c) steps ∙ is)

  -- from one that is met
  pub met_through : (c b a db : ℕ) → HasDepth graph b db → IsMet graph c b → IsMet graph b a → IsMet graph c a
  met_through c b a db between first second dc da from to =
      let upper : (db ≤ dc) × (ancestor_at graph c (dc - db) ≡ Some b) = first dc db from between in
      let lower : (da ≤ db) × (ancestor_at graph b (db - da) ≡ Some a) = second db da between to in
      let whole : dc - da ≡ (dc - db) + (db - da) = omega arith in
      (omega arith, ap (ancestor_at graph c) whole ∙ through graph c (dc - db) b (db - da) upper.1 ∙ lower.1)

  pub has_previous : (c d : ℕ) → HasDepth graph c d → 0 < d → IsSome (previous_of graph c)
  has_previous c d has deep = has 1 ∙ grind (arith, nat_tests)

  -- the commit that is met at the depth of a tells whether a is met
  pub told_at : (a c x da dc : ℕ) → HasDepth graph a da → HasDepth graph c dc → IsMet graph c x → HasDepth graph x da
      → IsTrue (nat_eq x a) ↔ ((k : ℕ) × (ancestor_at graph c k ≡ Some a))
  told_at a c x da dc of_a of_c met of_x =
      let there : (da ≤ dc) × (ancestor_at graph c (dc - da) ≡ Some x) = met dc da of_c of_x in (
        λ h. (dc - da, there.1 ∙ ap Some (eqb-true x a h)),
        λ w.
            let deeper : dc ≡ w.0 + da = depth_between graph a c da dc w.0 of_a of_c w.1 in
            let steps : dc - da ≡ w.0 = omega arith in
            let same : ◌≡◌ {A = Option ℕ} (Some x) (Some a) = sym there.1 ∙ ap (ancestor_at graph c) steps ∙ w.1 in
            eq-eqb x a cc,
      )

  -- what is deeper is not met
  pub not_told : (a c da dc : ℕ) → HasDepth graph a da → HasDepth graph c dc → dc < da → IsTrue false ↔ ((k : ℕ) × (ancestor_at graph c k ≡ Some a))
  not_told a c da dc of_a of_c less = (
    λ h. absurd (false≢true h),
    λ w. let deeper : dc ≡ w.0 + da = depth_between graph a c da dc w.0 of_a of_c w.1 in absurd (omega arith),
  )

-- in a longer graph
pub met_stays : (graph more : List (Option ℕ)) (c a : ℕ) → IsGraph graph → c < length graph → a < length graph → IsMet graph c a → IsMet (graph ++ more) c a
met_stays graph more c a is c_in a_in met dc da from to =
    let before : (da ≤ dc) × (ancestor_at graph c (dc - da) ≡ Some a) = met dc da (depths_before graph more c dc is c_in from) (depths_before graph more a da is a_in to) in
    (before.0, ancestors_stay graph more c (dc - da) is c_in ∙ before.1)

pub commit_stays : (graph more : List (Option ℕ)) (c : ℕ) (commit : Commit) → IsGraph graph → c < length graph → IsCommit graph c commit → IsCommit (graph ++ more) c commit
commit_stays graph more c commit is c_in right = record {
  previous = right.previous ∙ sym (previous_before graph more c c_in);
  depth = depths_stay graph more c commit.depth is c_in right.depth;
  below = right.below;
  jump = met_stays graph more c commit.jump is c_in (omega (arith, right.no_later)) right.jump;
  no_later = right.no_later;
  earlier = right.earlier;
}
