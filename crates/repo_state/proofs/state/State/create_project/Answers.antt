use Rattle.std.proofs.Common.{None}
use Rattle.repo_state.proofs.Following.{project_made}
use Rattle.repo_state.proofs.state.State.create_project.Goals as goal

pub returns-clause-follows : goal.returns-clause-follows
returns-clause-follows c =
    let name = c.in_ok-copy_optional.ensures in
    let description = c.in_ok-copy_optional-2.ensures in
    let at = c.made-id.ensures in
    let at_branch = c.made-branch_id.ensures in
    project_made c.args.self.now c.in_ok-state.state c.set_project.new.self c.set_branch.new.self c.args.moment c.args.name.now c.args.description.now c.made-id.result c.made-branch_id.result _ _ c.in_ok-reply.reply
    c.in_ok-state.ensures c.in_ok-set_project.ensures c.in_ok-set_branch.ensures at at_branch
    (λ i. record { id = at i; name = name i; description = description i; default_branch = at_branch i; created = c.args.moment })
    (λ i. record { id = at_branch i; project = at i; name = None; head = None; created = c.args.moment })
    c.in_ok-reply.ensures.doc
