use Rattle.timeline.proofs.Staying.{value_stays}
use Rattle.timeline.proofs.timeline.Timeline.last.Goals as goal

pub returns-clause-stays : goal.returns-clause-stays
returns-clause-stays g c = value_stays c.self.inside.histories c.self.inside.last c.args.self.now c.self.view_is c.self.invariant
