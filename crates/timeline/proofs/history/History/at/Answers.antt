use Rattle.std.proofs.Common.{sym, ap, ◌∙◌, arith, option_map}
use Rattle.timeline.proofs.Saying.{said_at_point, none_at_point}
use Rattle.timeline.proofs.history.History.at.Goals as goal

pub returns-in_err-checked_sub : goal.returns-in_err-checked_sub
returns-in_err-checked_sub g c =
    ap (option_map (λ v. v.now)) c.from_residual.ensures
    ∙ sym (none_at_point c.args.n c.args.self.now c.past.result (omega (arith, c.in_err-checked_sub.ensures)) c.past.ensures.point)

pub returns : goal.returns
returns g c =
    c.value_of.ensures
    ∙ sym (said_at_point c.args.n c.args.self.now c.past.result c.in_ok-checked_sub.field-0 (omega (arith, c.in_ok-checked_sub.ensures)) c.past.ensures.bound c.past.ensures.point)
