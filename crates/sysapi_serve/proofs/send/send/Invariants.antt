use Rattle.std.proofs.Common.{◌≤◌, ◌-◌, length, take}
use Rattle.sysapi_base.specs.Outside.{Grows}
use Rattle.sysapi_serve.proofs.SendLemmas.{HasPassed}
use Rattle.sysapi_serve.proofs.send.send.Given as goal

abbrev pub invariant-loop-at : goal.invariant-loop-at
invariant-loop-at g l = record {
  within : l.at ≤ length l.text;
  taken : Grows (g.K.Sink.taken l.fn.sink) (g.K.Sink.taken l.sink) (take l.at l.text);
  passed : HasPassed g.K.Sink.faults g.K.Sink.IsSteady l.fn.sink l.sink;
}

abbrev pub decreases-loop-at : goal.decreases-loop-at
decreases-loop-at g l = length l.text - l.at
