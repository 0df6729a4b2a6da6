use Rattle.std.proofs.Common.{arith, Some, refl, ap, ◌∙◌}
use Rattle.std.specs.Ordering.{nat_cmp}
use Rattle.std.specs.FinMap.{put}
use Rattle.timeline.specs.Values.{value_at, changed}
use Rattle.repo_state.proofs.Numbers.{numbered_longer, numbered_more}
use Rattle.repo_state.proofs.state.State.add_commit.Goals as goal

pub same-known : goal.same-known
same-known c = refl

pub invariant_of-self-2 : goal.invariant_of-self-2
invariant_of-self-2 c =
    let old = c.args.self.now in record {
      in_range = old.in_range;
      projects_before = old.projects_before;
      branches_before = old.branches_before;
      tags_before = old.tags_before;
      commits_before = omega (arith, c.in_ok-commits.ensures.last);
      numbered = numbered_more c.args.graph old.commits c.in_ok-commits.commits _ old.front c.args.made c.requires.number (numbered_longer old.graph c.args.graph old.commits c.requires.longer old.numbered) c.in_ok-commits.ensures.values;
    }

pub returns : goal.returns
returns c =
    let old = c.args.self.now in record {
      numbers = record { same = refl; front = refl; next = refl };
      projects = refl;
      branches = refl;
      tags = refl;
      commits = λ q m. c.in_ok-commits.ensures.values q m ∙ ap (λ k. changed (value_at old.commits) k.id old.front (Some c.args.made) q m) c.record.ensures;
      graph = refl;
      known = c.in_ok-known.ensures ∙ (λ i. put nat_cmp (c.record-2.ensures i).project (c.in_ok-identities.ensures.ok i) old.known);
    }
