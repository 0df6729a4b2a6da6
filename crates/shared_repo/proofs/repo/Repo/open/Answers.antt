use Rattle.shared_repo.proofs.Loading.{loaded}
use Rattle.shared_repo.proofs.repo.Repo.open.Goals as goal

pub returns-in-Ok-clause-opens : goal.returns-in-Ok-clause-opens
returns-in-Ok-clause-opens g c =
    loaded g.Q.Keeper.figures g.Q.Keeper.places g.Q.Keeper.records g.Q.Keeper.reading g.Q.Keeper.doubted c.args.keeper c.load.new.keeper c.in-Ok.state c.load.ensures.read c.load.ensures.told c.in-Ok.ensures.loads
