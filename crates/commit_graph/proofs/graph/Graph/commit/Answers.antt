use Rattle.std.proofs.Common.{◌≡◌, ◌∙◌, List, Option, option_map, Some, ap, sym, subst, ℕ, Bor}
use Rattle.std.specs.Prelude.{slice_get}
use Rattle.commit_graph.specs.declared.graph.Commit.{Commit}
use Rattle.commit_graph.specs.Kept.{IsCommit}
use Rattle.commit_graph.specs.Shared.{shared_commits}
use Rattle.commit_graph.proofs.graph.Graph.commit.Goals as goal

pub returns-clause-kept : goal.returns-clause-kept
returns-clause-kept c =
    let P : List (Option ℕ) → Type 0 = λ graph. IsCommit graph c.args.c c.unwrap.result.now in
    let held : shared_commits c.self.inside.commits ≡ c.deref.result.now = ap shared_commits c.in-Some.is ∙ sym c.deref.ensures in
    let at : slice_get (shared_commits c.self.inside.commits) c.args.c ≡ Some c.unwrap.result.now =
    ap (λ (l : List Commit). slice_get l c.args.c) held ∙ sym c.get.ensures ∙ ap (option_map (λ (v : Bor Commit). v.now)) c.unwrap.ensures in
    subst P c.self.view_is (c.self.invariant.commits c.args.c c.unwrap.result.now at)
