use Rattle.std.proofs.Common.{[], Result, sym, subst}
use Rattle.std.specs.Prelude.{⊤}
use Rattle.std.proofs.KnownBytes.{Consumes-nil}
use Rattle.sysapi_base.specs.Outside.{Passes}
use Rattle.sysapi_base.proofs.OutsideLemmas.{Passes-none}
use Rattle.sysapi_serve.proofs.TurnLemmas.{closes_of_turn, turn_reads, turn_not_ended}
use Rattle.sysapi_serve.proofs.SessionLeads.{starts_so, ends_closing_so}
use Rattle.sysapi_serve.proofs.session.serve_alone.Goals as goal

pub returns-in-Err-clause-session : goal.returns-in-Err-clause-session
returns-in-Err-clause-session g c =
    let left = g.S.Source.left c.args.source.now in
    let taken = g.K.Sink.taken c.args.sink.now in
    let readings = g.C.Clock.readings c.args.clock.now in
    ends_closing_so g.Q.Keeper.figures g.Q.Keeper.records g.Q.Keeper.faults g.Q.Keeper.costs g.Q.Keeper.IsSteady c.args.repo.now left taken readings
    c.args.repo.now left left taken (g.K.Sink.taken c.close_busy-outcome.new.sink) readings (g.C.Clock.readings c.now.new.self)
    0 0 [] [] c.now.result c.close_busy-outcome.result
    (starts_so g.Q.Keeper.figures g.Q.Keeper.records g.Q.Keeper.faults g.Q.Keeper.costs g.Q.Keeper.IsSteady c.args.repo.now left taken readings)
    (Consumes-nil left) c.now.ensures (c.close_busy-outcome.ensures.closes [])

pub returns-in-Err-clause-ended : goal.returns-in-Err-clause-ended
returns-in-Err-clause-ended g c =
    let of = closes_of_turn (g.K.Sink.taken c.args.sink.now) (g.K.Sink.taken c.close_busy-outcome.new.sink) [] c.now.result c.close_busy-outcome.result (c.close_busy-outcome.ensures.closes []) in
    λ is. absurd (turn_not_ended c.close_busy-outcome.result of is)

pub returns-in-Err-clause-source : goal.returns-in-Err-clause-source
returns-in-Err-clause-source g c =
    let of = closes_of_turn (g.K.Sink.taken c.args.sink.now) (g.K.Sink.taken c.close_busy-outcome.new.sink) [] c.now.result c.close_busy-outcome.result (c.close_busy-outcome.ensures.closes []) in
    subst (λ (r : Result ⊤ ⊤). Passes g.S.Source.faults g.S.Source.IsSteady c.args.source.now c.args.source.now r) (sym (turn_reads c.close_busy-outcome.result of))
    (Passes-none g.S.Source.faults g.S.Source.IsSteady {T = ⊤} {E = ⊤} c.args.source.now tt)
