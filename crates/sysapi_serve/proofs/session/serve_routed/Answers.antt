use Rattle.std.proofs.Common.{◌≡◌, ◌≢◌, ◌+◌, ◌∙◌, ◌++◌, [], ℕ, List, Option, Result, Ok, length, refl, sym, ap, subst, arith}
use Rattle.std.proofs.lemmas.Bool.{false≢true}
use Rattle.std.proofs.lemmas.List.{length-append}
use Rattle.std.specs.Prelude.{⊤}
use Rattle.std.specs.Io.KnownBytes.{Consumes}
use Rattle.std.proofs.KnownBytes.{Consumes-nil}
use Rattle.http_wire.specs.Fronts.{not_yet, IsFront}
use Rattle.sysapi_base.specs.Outside.{Passes}
use Rattle.sysapi_base.proofs.OutsideLemmas.{Passes-none, Passes-then}
use Rattle.sysapi_serve.specs.declared.outcome.Outcome.{Outcome}
use Rattle.sysapi_serve.specs.declared.outcome.Outcome.TheVariants as outcome
use Rattle.sysapi_serve.specs.Sessions.{Answer, Adds}
use Rattle.sysapi_serve.proofs.LeadLemmas.{goes_nowhere, goes_then}
use Rattle.sysapi_serve.proofs.TurnLemmas.{closes_of_turn, turn_reads, turn_not_ended}
use Rattle.sysapi_serve.proofs.SessionLeads.{RunsTo, WaitsAt, ServesTo, starts_so, waits_so, runs_so, answers_so, reads_so, ends_turn_so, ends_read_so, ends_closing_so}
use Rattle.sysapi_serve.proofs.session.serve_routed.Given.{Over}
use Rattle.sysapi_serve.proofs.session.serve_routed.Goals as goal
use Rattle.sysapi_serve.proofs.session.serve_routed.Goals.{In-Waits}

-- a turn in which nothing was judged
waiting : (g : Over) (c : In-Waits g)
    → WaitsAt g.Q.Keeper.figures g.Q.Keeper.records g.Q.Keeper.faults g.Q.Keeper.costs g.Q.Keeper.IsSteady c.args.repo.now (g.S.Source.left c.args.source.now) (g.K.Sink.taken c.args.sink.now) (g.C.Clock.readings c.args.clock.now)
    c.take_turn.new.repo (g.S.Source.left c.turns.source) (g.K.Sink.taken c.take_turn.new.sink) (g.C.Clock.readings c.take_turn.new.clock) c.turns.total c.turns.answered c.take_turn.new.feed
waiting g c =
    waits_so g.Q.Keeper.figures g.Q.Keeper.records g.Q.Keeper.faults g.Q.Keeper.costs g.Q.Keeper.IsSteady c.args.repo.now (g.S.Source.left c.args.source.now) (g.K.Sink.taken c.args.sink.now) (g.C.Clock.readings c.args.clock.now)
    c.turns.repo c.take_turn.new.repo (g.S.Source.left c.turns.source) (g.K.Sink.taken c.turns.sink) (g.K.Sink.taken c.take_turn.new.sink) (g.C.Clock.readings c.turns.clock) (g.C.Clock.readings c.take_turn.new.clock) c.turns.total c.turns.answered c.turns.feed c.take_turn.new.feed
    c.turns.invariant.running c.in-Waits.ensures.does

-- the session ends behind such a turn, in a read that gave no bytes
ends_reading : (g : Over) (c : In-Waits g) (left_new : Option (List ℕ)) (result : Outcome) → Consumes (g.S.Source.left c.turns.source) left_new []
    → (IsFront c.take_turn.new.feed not_yet → (read : List ℕ) (answers : List Answer) → c.turns.total ≡ length read → Adds result read c.take_turn.new.feed answers [] [])
    → ServesTo g.Q.Keeper.figures g.Q.Keeper.records g.Q.Keeper.faults g.Q.Keeper.costs g.Q.Keeper.IsSteady c.args.repo.now (g.S.Source.left c.args.source.now) (g.K.Sink.taken c.args.sink.now) (g.C.Clock.readings c.args.clock.now)
    c.take_turn.new.repo left_new (g.K.Sink.taken c.take_turn.new.sink) (g.C.Clock.readings c.take_turn.new.clock) result c.turns.answered
ends_reading g c left_new result consumed adds =
    ends_read_so g.Q.Keeper.figures g.Q.Keeper.records g.Q.Keeper.faults g.Q.Keeper.costs g.Q.Keeper.IsSteady c.args.repo.now (g.S.Source.left c.args.source.now) (g.K.Sink.taken c.args.sink.now) (g.C.Clock.readings c.args.clock.now)
    c.take_turn.new.repo (g.S.Source.left c.turns.source) (g.K.Sink.taken c.take_turn.new.sink) (g.C.Clock.readings c.take_turn.new.clock) c.turns.total c.turns.answered c.take_turn.new.feed (waiting g c) left_new result consumed adds

pub turns-init : goal.turns-init
turns-init g c =
    let repo = c.args.repo.now in
    let left = g.S.Source.left c.args.source.now in
    let taken = g.K.Sink.taken c.args.sink.now in
    let clock = g.C.Clock.readings c.args.clock.now in
    record {
      running = subst (λ (t : List ℕ). RunsTo g.Q.Keeper.figures g.Q.Keeper.records g.Q.Keeper.faults g.Q.Keeper.costs g.Q.Keeper.IsSteady repo left taken clock repo left taken clock 0 0 t)
          (sym c.new-feed.ensures) (starts_so g.Q.Keeper.figures g.Q.Keeper.records g.Q.Keeper.faults g.Q.Keeper.costs g.Q.Keeper.IsSteady repo left taken clock);
      goes_on = goes_nowhere g.Q.Keeper.records g.Q.Keeper.faults g.Q.Keeper.IsSteady repo;
      fits = omega (arith, ap length c.new-feed.ensures);
      within = omega arith;
      room = refl;
      source = Passes-none g.S.Source.faults g.S.Source.IsSteady {T = ⊤} {E = ⊤} c.args.source.now tt;
      sink = Passes-none g.K.Sink.faults g.K.Sink.IsSteady {T = ⊤} {E = ⊤} c.args.sink.now tt;
    }

pub turns-preserved-in-Answered : goal.turns-preserved-in-Answered
turns-preserved-in-Answered g c =
    let i = c.turns.invariant in
    record {
      running = answers_so g.Q.Keeper.figures g.Q.Keeper.records g.Q.Keeper.faults g.Q.Keeper.costs g.Q.Keeper.IsSteady c.args.repo.now (g.S.Source.left c.args.source.now) (g.K.Sink.taken c.args.sink.now) (g.C.Clock.readings c.args.clock.now)
          c.turns.repo c.take_turn.new.repo (g.S.Source.left c.turns.source) (g.K.Sink.taken c.turns.sink) (g.K.Sink.taken c.take_turn.new.sink) (g.C.Clock.readings c.turns.clock) (g.C.Clock.readings c.take_turn.new.clock) c.turns.total c.turns.answered c.turns.feed c.take_turn.new.feed
          i.running (λ s. (i.goes_on.steady s).0) c.in-Answered.ensures.does;
      goes_on = goes_then g.Q.Keeper.records g.Q.Keeper.faults g.Q.Keeper.IsSteady c.args.repo.now c.turns.repo c.take_turn.new.repo i.goes_on c.in-Answered.ensures.keeper;
      fits = omega (arith, i.fits, c.in-Answered.ensures.feeds);
      within = i.within;
      room = i.room;
      source = i.source;
      sink = Passes-then g.K.Sink.faults g.K.Sink.IsSteady {T = ⊤} {E = ⊤} {U = ⊤} {F = ⊤} c.args.sink.now c.turns.sink c.take_turn.new.sink (Ok tt) (Ok tt) i.sink c.in-Answered.ensures.passes;
    }

pub turns-smaller-in-Answered : goal.turns-smaller-in-Answered
turns-smaller-in-Answered g c = omega (arith, c.in-Answered.ensures.feeds)

pub returns-in-Ends-clause-session : goal.returns-in-Ends-clause-session
returns-in-Ends-clause-session g c =
    ends_turn_so g.Q.Keeper.figures g.Q.Keeper.records g.Q.Keeper.faults g.Q.Keeper.costs g.Q.Keeper.IsSteady c.args.repo.now (g.S.Source.left c.args.source.now) (g.K.Sink.taken c.args.sink.now) (g.C.Clock.readings c.args.clock.now)
    c.turns.repo c.take_turn.new.repo (g.S.Source.left c.turns.source) (g.K.Sink.taken c.turns.sink) (g.K.Sink.taken c.take_turn.new.sink) (g.C.Clock.readings c.turns.clock) (g.C.Clock.readings c.take_turn.new.clock) c.turns.total c.turns.answered c.turns.feed c.take_turn.new.feed
    c.turns.invariant.running (λ s. (c.turns.invariant.goes_on.steady s).0) c.in-Ends.outcome c.in-Ends.ensures.does

pub returns-in-Ends-clause-ended : goal.returns-in-Ends-clause-ended
returns-in-Ends-clause-ended g c = λ is. absurd (turn_not_ended c.in-Ends.outcome c.in-Ends.ensures.feeds is)

pub returns-in-Ends-clause-source : goal.returns-in-Ends-clause-source
returns-in-Ends-clause-source g c =
    subst (λ (r : Result ⊤ ⊤). Passes g.S.Source.faults g.S.Source.IsSteady c.args.source.now c.turns.source r)
    (sym (turn_reads c.in-Ends.outcome c.in-Ends.ensures.feeds)) c.turns.invariant.source

pub returns-then-total-ge-BYTES_MOST-clause-session : goal.returns-then-total-ge-BYTES_MOST-clause-session
returns-then-total-ge-BYTES_MOST-clause-session g c =
    ends_reading g (goal.at.returns-then-total-ge-BYTES_MOST-clause-session g c).In-Waits (g.S.Source.left c.turns.source) outcome.Spent (Consumes-nil (g.S.Source.left c.turns.source))
    (λ front read answers all. (front, omega (arith, c.if-total-ge-BYTES_MOST.true, all), refl, refl))

pub turns-preserved : goal.turns-preserved
turns-preserved g c =
    let does = c.in-Got.ensures.does in
    let i = c.turns.invariant in
    let same : length c.take_turn.new.feed ≡ length c.turns.feed = ap length c.in-Waits.ensures.feeds in
    let more : length c.read_more.new.feed ≡ length c.take_turn.new.feed + c.in-Got.n =
    omega (arith, ap length does.2, length-append c.take_turn.new.feed does.0, does.3) in
    record {
      running = reads_so g.Q.Keeper.figures g.Q.Keeper.records g.Q.Keeper.faults g.Q.Keeper.costs g.Q.Keeper.IsSteady c.args.repo.now (g.S.Source.left c.args.source.now) (g.K.Sink.taken c.args.sink.now) (g.C.Clock.readings c.args.clock.now)
          c.take_turn.new.repo (g.S.Source.left c.turns.source) (g.K.Sink.taken c.take_turn.new.sink) (g.C.Clock.readings c.take_turn.new.clock) c.turns.total c.turns.answered c.take_turn.new.feed (waiting g (goal.at.turns-preserved g c).In-Waits)
          (g.S.Source.left c.read_more.new.source) c.in-Got.n c.read_more.new.feed does;
      goes_on = goes_then g.Q.Keeper.records g.Q.Keeper.faults g.Q.Keeper.IsSteady c.args.repo.now c.turns.repo c.take_turn.new.repo i.goes_on c.in-Waits.ensures.keeper;
      fits = omega (arith, i.fits, same, more);
      within = omega (arith, c.if-total-ge-BYTES_MOST.false, c.in-Got.ensures.bound, i.room);
      room = c.read_more.auto.piece ∙ i.room;
      source = Passes-then g.S.Source.faults g.S.Source.IsSteady {T = ⊤} {E = ⊤} {U = ⊤} {F = ⊤} c.args.source.now c.turns.source c.read_more.new.source (Ok tt) (Ok tt) i.source c.in-Got.ensures.passes;
      sink = Passes-then g.K.Sink.faults g.K.Sink.IsSteady {T = ⊤} {E = ⊤} {U = ⊤} {F = ⊤} c.args.sink.now c.turns.sink c.take_turn.new.sink (Ok tt) (Ok tt) i.sink c.in-Waits.ensures.passes;
    }

pub returns-in-End-clause-session : goal.returns-in-End-clause-session
returns-in-End-clause-session g c =
    let none : c.take_turn.new.feed ≡ [] = sym c.in-End.ensures.does.2 ∙ c.is_empty.ensures.0 c.if-is_empty.true in
    ends_reading g (goal.at.returns-in-End-clause-session g c).In-Waits (g.S.Source.left c.read_more.new.source) outcome.Ended c.in-End.ensures.does.0
    (λ front read answers all. (none, refl, refl, omega (arith, c.if-total-ge-BYTES_MOST.false, all)))

pub returns-in-End-2-clause-session : goal.returns-in-End-2-clause-session
returns-in-End-2-clause-session g c =
    let some : c.take_turn.new.feed ≢ [] =
    λ none. absurd (false≢true (sym c.if-is_empty.false ∙ c.is_empty.ensures.1 (c.in-End-2.ensures.does.2 ∙ none))) in
    ends_reading g (goal.at.returns-in-End-2-clause-session g c).In-Waits (g.S.Source.left c.read_more.new.source) outcome.CutShort c.in-End-2.ensures.does.0
    (λ front read answers all. (some, front, refl, refl, omega (arith, c.if-total-ge-BYTES_MOST.false, all)))

pub returns-in-Fault-clause-session : goal.returns-in-Fault-clause-session
returns-in-Fault-clause-session g c =
    ends_reading g (goal.at.returns-in-Fault-clause-session g c).In-Waits (g.S.Source.left c.read_more.new.source) outcome.ReadFault c.in-Fault.ensures.does.0
    (λ front read answers all. (front, refl, refl, omega (arith, c.if-total-ge-BYTES_MOST.false, all)))

pub returns-in-NoMemory-clause-session : goal.returns-in-NoMemory-clause-session
returns-in-NoMemory-clause-session g c =
    let runs = runs_so g.Q.Keeper.figures g.Q.Keeper.records g.Q.Keeper.faults g.Q.Keeper.costs g.Q.Keeper.IsSteady c.args.repo.now (g.S.Source.left c.args.source.now) (g.K.Sink.taken c.args.sink.now) (g.C.Clock.readings c.args.clock.now)
    c.take_turn.new.repo (g.S.Source.left c.turns.source) (g.K.Sink.taken c.take_turn.new.sink) (g.C.Clock.readings c.take_turn.new.clock) c.turns.total c.turns.answered c.take_turn.new.feed
    (waiting g (goal.at.returns-in-NoMemory-clause-session g c).In-Waits) in
    let does = c.in-NoMemory.ensures.does in
    ends_closing_so g.Q.Keeper.figures g.Q.Keeper.records g.Q.Keeper.faults g.Q.Keeper.costs g.Q.Keeper.IsSteady c.args.repo.now (g.S.Source.left c.args.source.now) (g.K.Sink.taken c.args.sink.now) (g.C.Clock.readings c.args.clock.now)
    c.take_turn.new.repo (g.S.Source.left c.turns.source) (g.S.Source.left c.read_more.new.source) (g.K.Sink.taken c.take_turn.new.sink) (g.K.Sink.taken c.close_busy-outcome.new.sink)
    (g.C.Clock.readings c.take_turn.new.clock) (g.C.Clock.readings c.now.new.self) c.turns.total c.turns.answered c.take_turn.new.feed does.0 c.now.result c.close_busy-outcome.result runs does.1 c.now.ensures
    (c.close_busy-outcome.ensures.closes (c.take_turn.new.feed ++ does.0))

pub returns-in-NoMemory-clause-ended : goal.returns-in-NoMemory-clause-ended
returns-in-NoMemory-clause-ended g c =
    let of = closes_of_turn (g.K.Sink.taken c.take_turn.new.sink) (g.K.Sink.taken c.close_busy-outcome.new.sink) c.read_more.new.feed c.now.result c.close_busy-outcome.result
    (c.close_busy-outcome.ensures.closes c.read_more.new.feed) in
    λ is. absurd (turn_not_ended c.close_busy-outcome.result of is)

pub returns-in-NoMemory-clause-source : goal.returns-in-NoMemory-clause-source
returns-in-NoMemory-clause-source g c =
    let of = closes_of_turn (g.K.Sink.taken c.take_turn.new.sink) (g.K.Sink.taken c.close_busy-outcome.new.sink) c.read_more.new.feed c.now.result c.close_busy-outcome.result
    (c.close_busy-outcome.ensures.closes c.read_more.new.feed) in
    subst (λ (r : Result ⊤ ⊤). Passes g.S.Source.faults g.S.Source.IsSteady c.args.source.now c.read_more.new.source r) (sym (turn_reads c.close_busy-outcome.result of))
    (Passes-then g.S.Source.faults g.S.Source.IsSteady {T = ⊤} {E = ⊤} {U = ⊤} {F = ⊤} c.args.source.now c.turns.source c.read_more.new.source (Ok tt) (Ok tt)
    c.turns.invariant.source c.in-NoMemory.ensures.passes)
