-- What is kept of commits.
use Rattle.std.specs.Prelude.{◌≡◌, ℕ, ◌-◌, ◌<◌, ◌≤◌, List, Option, Some, map, slice_get}
use Rattle.commit_graph.specs.declared.graph.Commit.{Commit}
use Rattle.commit_graph.specs.Graphs.{previous_of, ancestor_at, HasDepth, IsGraph}

-- the previous numbers of the commits, which is what a graph is seen as
abbrev pub previous_numbers : List Commit → List (Option ℕ)
previous_numbers cs = map (λ (c : Commit). c.previous) cs

-- The commit a is c or stands in its ancestry: it is met going back from c as far as their depths differ.
abbrev pub IsMet : List (Option ℕ) → ℕ → ℕ → Type 0
IsMet graph c a = (dc da : ℕ) → HasDepth graph c dc → HasDepth graph a da → (da ≤ dc) × (ancestor_at graph c (dc - da) ≡ Some a)

-- What is kept of the commit c. A depth is at most the number, so that one more fits.
pub record IsCommit (graph : List (Option ℕ)) (c : ℕ) (commit : Commit) : Type 0 where
  pub previous : commit.previous ≡ previous_of graph c
  pub depth : HasDepth graph c commit.depth
  pub below : commit.depth ≤ c
  pub jump : IsMet graph c commit.jump
  pub no_later : commit.jump ≤ c
  pub earlier : 0 < commit.depth → commit.jump < c

-- Each previous commit is earlier, and what is kept of each commit is right.
pub record IsKept (cs : List Commit) : Type 0 where
  pub earlier : IsGraph (previous_numbers cs)
  pub commits : (c : ℕ) (commit : Commit) → slice_get cs c ≡ Some commit → IsCommit (previous_numbers cs) c commit
