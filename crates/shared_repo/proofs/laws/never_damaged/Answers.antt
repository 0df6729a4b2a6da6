use Rattle.shared_repo.proofs.Again.{never_damaged}
use Rattle.shared_repo.proofs.laws.never_damaged.Goals as goal

pub returns : goal.returns
returns c = never_damaged
