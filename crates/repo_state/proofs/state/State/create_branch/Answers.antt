use Rattle.std.proofs.Common.{rules}
use Rattle.repo_state.proofs.Following.{branch_made}
use Rattle.repo_state.proofs.state.State.create_branch.Goals as goal

pub returns-clause-judged : goal.returns-clause-judged
returns-clause-judged c =
    let name = c.in_ok-copy_optional.ensures in
    let at = c.made-id.ensures in (
      search rules,
      branch_made c.args.self.now c.in_ok-state.state c.set_branch.new.self c.args.moment c.args.project c.args.name.now c.args.head c.made-id.result _ c.in_ok-reply.reply
          c.in_ok-state.ensures c.in_ok-set_branch.ensures at
          (λ i. record { id = at i; project = c.args.project; name = name i; head = c.args.head; created = c.args.moment })
          c.in_ok-reply.ensures.doc,
    )
