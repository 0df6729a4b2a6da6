use Rattle.shared_repo.proofs.Again.{spelled_once}
use Rattle.shared_repo.proofs.laws.spelled_once.Goals as goal

pub returns : goal.returns
returns c = spelled_once
