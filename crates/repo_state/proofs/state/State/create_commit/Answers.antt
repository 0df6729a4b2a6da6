use Rattle.std.proofs.Common.{◌∷◌, ◌∙◌, sym, subst, option_map}
use Rattle.entry_codec.specs.Refusals.{first, multiple, moved, change_rows}
use Rattle.repo_state.specs.Stands.{own_shown}
use Rattle.repo_state.specs.Shown.{shown, IsMade}
use Rattle.repo_state.proofs.Committed.{meant, refusal_there, commit_follows}
use Rattle.repo_state.proofs.state.State.create_commit.Goals as goal

pub returns-in-Some-2-clause-judged : goal.returns-in-Some-2-clause-judged
returns-in-Some-2-clause-judged c =
    let s = c.args.self.now in
    let branch = c.in-Some-project_branch.found.now in
    let older = own_shown (option_map (λ d. d.now) c.at_head-older.result) in
    let is = meant (shown s) c.args.project c.args.branch c.in-Some.owner.now c.unwrap_or-branch_id.result c.in-Some.ensures.value c.unwrap_or-branch_id.ensures in
    refusal_there s c.args.project c.args.branch c.args.previous.now c.args.description.now c.args.changes.now c.in-Some.owner.now c.unwrap_or-branch_id.result branch older
    c.in-Some.ensures.value is c.in-Some-project_branch.ensures.value c.at_head-older.ensures.own_values
    ∙ (λ i. first (multiple (sym c.as_slice.ensures i) ∷ moved branch.head (sym c.as_slice.ensures i) ∷ change_rows older (sym c.as_slice-2.ensures i)))
    ∙ sym c.in_ok-refusal.ensures ∙ c.in-Some-2.is

pub returns-clause-judged : goal.returns-clause-judged
returns-clause-judged c =
    let s = c.args.self.now in
    let branch = c.in-Some-project_branch.found.now in
    let at_head = option_map (λ d. d.now) c.at_head-older.result in
    let older = own_shown at_head in
    let is = meant (shown s) c.args.project c.args.branch c.in-Some.owner.now c.unwrap_or-branch_id.result c.in-Some.ensures.value c.unwrap_or-branch_id.ensures in
    let there = c.in-Some-project_branch.ensures.value in (
      refusal_there s c.args.project c.args.branch c.args.previous.now c.args.description.now c.args.changes.now c.in-Some.owner.now c.unwrap_or-branch_id.result branch older
          c.in-Some.ensures.value is there c.at_head-older.ensures.own_values
          ∙ (λ i. first (multiple (sym c.as_slice.ensures i) ∷ moved branch.head (sym c.as_slice.ensures i) ∷ change_rows older (sym c.as_slice-2.ensures i)))
          ∙ sym c.in_ok-refusal.ensures ∙ c.in_default-2.is,
      commit_follows s c.args.moment c.args.project c.args.branch c.args.previous.now c.args.description.now c.args.changes.now c.unwrap_or-branch_id.result branch at_head c.in_ok-made.made c.in_ok-with_commit.field-0
          c.made.result c.in_ok-copy_optional.field-0 c.made.ensures c.in_ok-copy_optional.ensures is there c.project_branch.ensures.stays c.commit_count-count.ensures.keeps c.at_head-older.ensures.numbered c.at_head-older.ensures.own_values c.at_head-older.ensures.ancestry
          (subst (λ cs. IsMade s (record { id = c.made.result; project = c.args.project; description = c.in_ok-copy_optional.field-0; previous = branch.head; created = c.args.moment }) at_head cs c.in_ok-made.made) c.as_slice-3.ensures c.in_ok-made.ensures)
          c.in_ok-with_commit.ensures.committed,
    )
