use Rattle.timeline.proofs.Stays.{values_stay, lists_stay}
use Rattle.timeline.proofs.stable.is_stable.Goals as goal

pub returns-clause-values : goal.returns-clause-values
returns-clause-values g c = values_stay

pub returns-clause-lists : goal.returns-clause-lists
returns-clause-lists g c = lists_stay
