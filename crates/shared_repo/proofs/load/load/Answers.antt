use Rattle.std.proofs.Common.{◌+◌, ◌∙◌, ℕ, Ok, ap}
use Rattle.shared_repo.proofs.Loading.{next_holds, reads_on, leaves_on, counted_on}
use Rattle.shared_repo.proofs.load.load.Goals as goal

pub loop-index-preserved : goal.loop-index-preserved
loop-index-preserved g c =
    let i = c.loop-index.invariant in
    let does = c.in-Ok.ensures in
    let old = c.args.keeper.now in
    let mid = c.loop-index.keeper in
    let new = c.next_state.new.keeper in
    record {
      holds = next_holds g.Q.Keeper.figures g.Q.Keeper.places g.Q.Keeper.records g.Q.Keeper.reading g.Q.Keeper.doubted old mid c.loop-index.index c.loop-index.state c.in-Ok.next i.read i.holds does.loads;
      front = does.front ∙ ap (λ (n : ℕ). n + 1) i.front;
      read = reads_on g.Q.Keeper.figures g.Q.Keeper.places g.Q.Keeper.records g.Q.Keeper.reading g.Q.Keeper.doubted old mid new i.read does.read;
      leaves = leaves_on g.Q.Keeper.moment g.Q.Keeper.images_since g.Q.Keeper.images g.met.Q.Keeper.counts_now old mid new i.leaves does.any_moment;
      counts = counted_on g.Q.Keeper.faults g.Q.Keeper.IsSteady _ old mid new (Ok c.in-Ok.next) i.counts does.counts;
    }
