use Rattle.std.proofs.Common.{◌≡◌, ◌+◌, ◌-◌, ◌*◌, ◌≤◌, length}
use Rattle.sysapi_serve.specs.declared.session.TheConstants.{BYTES_MOST, PIECE}
use Rattle.sysapi_serve.specs.Kept.{GoesOn}
use Rattle.sysapi_serve.proofs.SendLemmas.{HasPassed}
use Rattle.sysapi_serve.proofs.SessionLeads.{RunsTo}
use Rattle.sysapi_serve.proofs.session.serve_routed.Given as goal

abbrev pub invariant-turns : goal.invariant-turns
invariant-turns g l = record {
  running : RunsTo g.Q.Keeper.figures g.Q.Keeper.records g.Q.Keeper.faults g.Q.Keeper.costs g.Q.Keeper.IsSteady
      l.fn.repo (g.S.Source.left l.fn.source) (g.K.Sink.taken l.fn.sink) (g.C.Clock.readings l.fn.clock)
      l.repo (g.S.Source.left l.source) (g.K.Sink.taken l.sink) (g.C.Clock.readings l.clock) l.total l.answered l.feed;
  goes_on : GoesOn g.Q.Keeper.records g.Q.Keeper.faults g.Q.Keeper.IsSteady l.fn.repo l.repo;
  fits : l.answered + length l.feed ≤ l.total;
  within : l.total ≤ BYTES_MOST + PIECE;
  room : length l.piece ≡ PIECE;
  source : HasPassed g.S.Source.faults g.S.Source.IsSteady l.fn.source l.source;
  sink : HasPassed g.K.Sink.faults g.K.Sink.IsSteady l.fn.sink l.sink;
}

abbrev pub decreases-turns : goal.decreases-turns
decreases-turns g l = 2 * (BYTES_MOST + PIECE - l.total) + length l.feed
