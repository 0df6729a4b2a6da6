use Rattle.entry_codec.proofs.Stability.{stays}
use Rattle.entry_codec.proofs.laws.commits_stay.Goals as goal

pub returns : goal.returns
returns c = stays
