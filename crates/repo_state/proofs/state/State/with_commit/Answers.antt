use Rattle.std.proofs.Common.{◌∙◌, ap}
use Rattle.api_records.specs.Records.{commit_doc}
use Rattle.entry_codec.specs.Histories.{with_head}
use Rattle.repo_state.proofs.Committed.{committed}
use Rattle.repo_state.proofs.state.State.with_commit.Goals as goal

pub returns-clause-committed : goal.returns-clause-committed
returns-clause-committed c =
    committed c.args.self.now c.in_ok-state.state c.add_commit.new.self c.set_branch.new.self c.args.made c.args.branch_id c.args.branch.now c.in_ok-branch.branch c.in_ok-reply.reply
    c.in_ok-state.ensures c.in_ok-add_commit.ensures c.in_ok-set_branch.ensures
    (c.in_ok-branch.ensures ∙ ap (λ c'. with_head c'.id c.args.branch.now) c.record-2.ensures)
    (c.in_ok-reply.ensures.doc ∙ ap commit_doc c.record.ensures)
