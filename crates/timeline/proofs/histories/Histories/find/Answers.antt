use Rattle.std.proofs.Common.{ap, ◌∙◌}
use Rattle.std.specs.Ordering.{nat_cmp}
use Rattle.std.specs.FinMap.{find}
use Rattle.timeline.proofs.histories.Histories.find.Goals as goal

pub returns : goal.returns
returns g c = c.find.ensures ∙ ap (find nat_cmp c.args.id) c.self.view_is
