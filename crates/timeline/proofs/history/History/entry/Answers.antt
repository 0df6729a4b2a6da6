use Rattle.timeline.proofs.Seeing.{seen_at}
use Rattle.timeline.proofs.history.History.entry.Goals as goal

pub returns : goal.returns
returns g c = seen_at c.self.inside.entries c.args.self.now c.self.view_is (λ e. e.now) c.get.result c.args.number c.get.ensures
