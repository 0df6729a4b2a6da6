use Rattle.std.proofs.Common.{rules}
use Rattle.repo_state.proofs.Following.{project_updated}
use Rattle.repo_state.proofs.state.State.update_project.Goals as goal

pub returns-clause-judged : goal.returns-clause-judged
returns-clause-judged c =
    let found = c.in-Some.found.now in
    let name = c.in_ok-copy_optional.ensures in
    let description = c.in_ok-copy_optional-2.ensures in
    let branch = c.unwrap_or.ensures in (
      search rules,
      project_updated c.args.self.now c.in_ok-state.state c.set_project.new.self c.args.moment c.args.project c.args.name.now c.args.description.now c.args.default_branch found _ c.in_ok-reply.reply
          c.in_ok-state.ensures c.in_ok-set_project.ensures c.in-Some.ensures.value
          (λ i. record { id = found.id; name = name i; description = description i; default_branch = branch i; created = found.created })
          c.in_ok-reply.ensures.doc,
    )
