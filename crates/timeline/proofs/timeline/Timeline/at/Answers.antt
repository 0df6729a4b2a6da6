use Rattle.std.proofs.Common.{◌∙◌, ap, sym, None, unwrap_or, option_map, []}
use Rattle.timeline.specs.Values.{value_at, last_said}
use Rattle.timeline.proofs.Staying.{value_stays}
use Rattle.timeline.proofs.timeline.Timeline.at.Goals as goal

pub returns-in_err-find-clause-value : goal.returns-in_err-find-clause-value
unfolding value_at
returns-in_err-find-clause-value g c =
    ap (option_map (λ v. v.now)) c.from_residual.ensures
    ∙ ap (λ o. last_said (unwrap_or o []) c.args.n None) (ap (option_map (λ h. h.now)) (sym c.in_err-find.was) ∙ c.find.ensures)
    ∙ ap (λ t. value_at t c.args.id c.args.n) c.self.view_is

pub returns-clause-value : goal.returns-clause-value
unfolding value_at
returns-clause-value g c =
    c.at.ensures
    ∙ ap (λ o. last_said (unwrap_or o []) c.args.n None) (ap (option_map (λ h. h.now)) (sym c.in_ok-find.was) ∙ c.find.ensures)
    ∙ ap (λ t. value_at t c.args.id c.args.n) c.self.view_is

pub returns-in_err-find-clause-stays : goal.returns-in_err-find-clause-stays
returns-in_err-find-clause-stays g c = value_stays c.self.inside.histories c.self.inside.last c.args.self.now c.self.view_is c.self.invariant c.args.id c.args.n

pub returns-clause-stays : goal.returns-clause-stays
returns-clause-stays g c = value_stays c.self.inside.histories c.self.inside.last c.args.self.now c.self.view_is c.self.invariant c.args.id c.args.n
