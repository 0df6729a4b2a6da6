use Rattle.std.proofs.Common.{◌≡◌, List, length}
use Rattle.entry_codec.specs.declared.entry.Entry.{Entry}
use Rattle.journal_disk.specs.Disk.{LeavesOnly}
use Rattle.repo_state.specs.Stands.{front_of}
use Rattle.shared_repo.specs.Opening.{IsOnlyRead, Holds}
use Rattle.shared_repo.proofs.Loading.{HasCounted}
use Rattle.shared_repo.proofs.load.load.Given as goal

-- the records so far
abbrev pub invariant-loop-index : goal.invariant-loop-index
invariant-loop-index g l = record {
  holds : (history : List Entry) × (length history ≡ l.index) × Holds (g.Q.Keeper.figures l.fn.keeper).repository (g.Q.Keeper.records l.fn.keeper) l.state history;
  front : front_of l.state ≡ l.index;
  read : IsOnlyRead g.Q.Keeper.figures g.Q.Keeper.places g.Q.Keeper.records g.Q.Keeper.reading g.Q.Keeper.doubted l.fn.keeper l.keeper;
  leaves : LeavesOnly g.Q.Keeper.moment g.Q.Keeper.images_since l.fn.keeper l.keeper (g.Q.Keeper.images l.fn.keeper);
  counts : HasCounted g.Q.Keeper.faults g.Q.Keeper.IsSteady l.fn.keeper l.keeper;
}
