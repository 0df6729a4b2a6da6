use Rattle.std.proofs.Common.{◌∙◌, ap, sym, subst, option_map, arith}
use Rattle.std.specs.Ordering.{nat_cmp}
use Rattle.std.specs.FinMap.{put}
use Rattle.timeline.specs.Values.{value_at, value_in, changed}
use Rattle.timeline.specs.Seen.{AreUpTo}
use Rattle.timeline.proofs.Changing.{put_changes, put_up_to}
use Rattle.timeline.proofs.timeline.Timeline.change.Goals as goal

pub invariant_of-result : goal.invariant_of-result
invariant_of-result g c =
    let is = c.in_ok-with.ensures ∙ ap (λ h. put nat_cmp c.args.id h c.self.inside.histories) c.in_ok-history.ensures in
    let last = ap (λ t. t.last) c.self.view_is in
    let up = put_up_to c.self.inside.histories c.args.id c.self.inside.last c.args.n (option_map (λ v. v.value) c.args.value) (omega arith) c.self.invariant in
    subst (λ hs. AreUpTo c.args.n hs) (sym is) up

pub returns-clause-values : goal.returns-clause-values
unfolding value_at
returns-clause-values g c = λ q m.
    ap (λ hs. value_in hs q m) (c.in_ok-with.ensures ∙ ap (λ h. put nat_cmp c.args.id h c.self.inside.histories) c.in_ok-history.ensures)
    ∙ put_changes c.self.inside.histories c.args.id c.args.n (option_map (λ v. v.value) c.args.value) q m
    ∙ ap (λ t. changed (value_at t) c.args.id c.args.n (option_map (λ v. v.value) c.args.value) q m) c.self.view_is
