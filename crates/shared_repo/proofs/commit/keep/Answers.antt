use Rattle.std.proofs.lemmas.Result.{on_ok_weaker}
use Rattle.shared_repo.proofs.Committing.{told_between, settled_and_appended}
use Rattle.shared_repo.proofs.commit.keep.Goals as goal

pub returns-clause-any_moment : goal.returns-clause-any_moment
returns-clause-any_moment g c = λ kept told some.
    let mid = told_between (g.Q.Keeper.records c.args.keeper.now) (g.Q.Keeper.records c.settle.new.self) (g.Q.Keeper.records c.append.new.self) _ kept
    c.in_ok-settle.ensures.records c.append.ensures.records told some in
    settled_and_appended g.Q.Keeper.moment g.Q.Keeper.images_since c.args.keeper.now c.settle.new.self c.append.new.self kept (g.Q.Keeper.doubted c.args.keeper.now) c.args.bytes.now
    (c.in_ok-settle.ensures.any_moment kept told) (c.append.ensures.any_moment kept mid)

pub returns-clause-kept : goal.returns-clause-kept
returns-clause-kept g c =
    on_ok_weaker c.append.result
    (λ leaves kept told some. leaves kept
    (told_between (g.Q.Keeper.records c.args.keeper.now) (g.Q.Keeper.records c.settle.new.self) (g.Q.Keeper.records c.append.new.self) _ kept
    c.in_ok-settle.ensures.records c.append.ensures.records told some)) c.append.ensures.kept
