-- The session's steps, each as what it leads the repository to.
use Rattle.std.proofs.Common.{◌≡◌, ℕ, ◌+◌, ◌<◌, List, [], ◌∷◌, ◌++◌, length, Option}
use Rattle.std.specs.Io.KnownBytes.{Consumes}
use Rattle.sysapi_base.specs.Outside.{Grows}
use Rattle.http_wire.specs.Fronts.{not_yet, IsFront}
use Rattle.journal_disk.specs.Keeper.{Figures}
use Rattle.journal_disk.specs.declared.keeper.Keeper as keeper
use Rattle.shared_repo.specs.declared.repo.Repo.{Repo}
use Rattle.sysapi_serve.specs.declared.outcome.Outcome.{Outcome}
use Rattle.sysapi_serve.specs.declared.turn.Turn.TheVariants as turn
use Rattle.sysapi_serve.specs.Kept.{Kept, Leads, IsSteadyRepo}
use Rattle.sysapi_serve.specs.Alone.{Serves}
use Rattle.sysapi_serve.specs.Sessions.{Answer, Adds}
use Rattle.sysapi_serve.specs.Parts.{Closes, TurnDoes}
use Rattle.sysapi_serve.proofs.LeadLemmas.{leads_here, leads_as, leads_then}
use Rattle.sysapi_serve.proofs.SessionLemmas.{IsRunning, starts, waits, reads_more, answers_more, ends_turn, ends_read, ends_closing}

module _ {Q : Type 0} {keeps : keeper.Ghosts Q} (figures : Q → Figures) (records : Q → Option (List (List ℕ))) (faults : Q → ℕ) (costs : ℕ → ℕ) (IsSteady : Q → Type 0)
    (first : Repo Q keeps) (left taken clock : Option (List ℕ)) where
  -- the session came this far
  abbrev pub RunsTo : Repo Q keeps → Option (List ℕ) → Option (List ℕ) → Option (List ℕ) → ℕ → ℕ → List ℕ → Type 0
  RunsTo repo left_now taken_now clock_now total answered rest =
      Leads figures records faults first repo (IsRunning costs (IsSteadyRepo IsSteady first) left left_now taken taken_now clock clock_now total answered rest)

  -- the same, where what is untaken isn't a request yet
  abbrev pub WaitsAt : Repo Q keeps → Option (List ℕ) → Option (List ℕ) → Option (List ℕ) → ℕ → ℕ → List ℕ → Type 0
  WaitsAt repo left_now taken_now clock_now total answered rest =
      Leads figures records faults first repo (λ a b. IsRunning costs (IsSteadyRepo IsSteady first) left left_now taken taken_now clock clock_now total answered rest a b × IsFront rest not_yet)

  -- the session ended
  abbrev pub ServesTo : Repo Q keeps → Option (List ℕ) → Option (List ℕ) → Option (List ℕ) → Outcome → ℕ → Type 0
  ServesTo repo left_new taken_new clock_new result answered =
      Leads figures records faults first repo (Serves costs (IsSteadyRepo IsSteady first) left left_new taken taken_new clock clock_new (record { outcome = result; answered = answered }))

  pub starts_so : RunsTo first left taken clock 0 0 []
  starts_so = leads_here figures records faults first (IsRunning costs (IsSteadyRepo IsSteady first) left left taken taken clock clock 0 0 [])
      (starts costs (IsSteadyRepo IsSteady first) left taken clock)

  pub ends_closing_so : (now : Repo Q keeps) (left_now left_new taken_now taken_new clock_now clock_new : Option (List ℕ)) (total answered : ℕ) (rest bytes : List ℕ) (moment : ℕ) (result : Outcome)
      → RunsTo now left_now taken_now clock_now total answered rest
      → Consumes left_now left_new bytes → Grows clock_now clock_new (moment ∷ []) → Closes taken_now taken_new (rest ++ bytes) moment result
      → ServesTo now left_new taken_new clock_new result answered
  ends_closing_so now left_now left_new taken_now taken_new clock_now clock_new total answered rest bytes moment result runs consumed ticks closes =
      let steady = IsSteadyRepo IsSteady first in
      leads_as figures records faults first now (IsRunning costs steady left left_now taken taken_now clock clock_now total answered rest)
      (Serves costs steady left left_new taken taken_new clock clock_new (record { outcome = result; answered = answered })) runs
      (λ a b r. ends_closing costs steady left taken clock a b left_now left_new taken_now taken_new clock_now clock_new total answered rest bytes moment result r consumed ticks closes)

  -- from there on without a request yet
  module _ (now : Repo Q keeps) (left_now taken_now clock_now : Option (List ℕ)) (total answered : ℕ) (rest : List ℕ) (waiting : WaitsAt now left_now taken_now clock_now total answered rest) where
    pub runs_so : RunsTo now left_now taken_now clock_now total answered rest
    runs_so =
        let P : Kept → Kept → Type 0 = IsRunning costs (IsSteadyRepo IsSteady first) left left_now taken taken_now clock clock_now total answered rest in
        leads_as figures records faults first now (λ a b. P a b × IsFront rest not_yet) P waiting (λ a b r. r.0)

    pub reads_so : (left_new : Option (List ℕ)) (n : ℕ) (rest_new : List ℕ)
        → (bytes : List ℕ) × Consumes left_now left_new bytes × (rest_new ≡ rest ++ bytes) × (n ≡ length bytes) × (0 < n)
        → RunsTo now left_new taken_now clock_now (total + n) answered rest_new
    reads_so left_new n rest_new does =
        let steady = IsSteadyRepo IsSteady first in
        leads_as figures records faults first now (IsRunning costs steady left left_now taken taken_now clock clock_now total answered rest)
        (IsRunning costs steady left left_new taken taken_now clock clock_now (total + n) answered rest_new) runs_so
        (λ a b r. reads_more costs steady left taken clock a b left_now left_new taken_now clock_now total answered n rest rest_new r does)

    pub ends_read_so : (left_new : Option (List ℕ)) (result : Outcome) → Consumes left_now left_new []
        → (IsFront rest not_yet → (read : List ℕ) (answers : List Answer) → total ≡ length read → Adds result read rest answers [] [])
        → ServesTo now left_new taken_now clock_now result answered
    ends_read_so left_new result consumed adds =
        let steady = IsSteadyRepo IsSteady first in
        leads_as figures records faults first now (λ a b. IsRunning costs steady left left_now taken taken_now clock clock_now total answered rest a b × IsFront rest not_yet)
        (Serves costs steady left left_new taken taken_now clock clock_now (record { outcome = result; answered = answered })) waiting
        (λ a b r. ends_read costs steady left taken clock a b left_now left_new taken_now clock_now total answered rest result r.0 consumed (adds r.1))

  -- a turn from there on, which is steady where the session is
  module _ (now new : Repo Q keeps) (left_now taken_now taken_new clock_now clock_new : Option (List ℕ)) (total answered : ℕ) (rest rest_new : List ℕ)
      (runs : RunsTo now left_now taken_now clock_now total answered rest) where
    pub waits_so : Leads figures records faults now new (λ a b. TurnDoes costs (IsSteadyRepo IsSteady now) taken_now taken_new clock_now clock_new rest rest_new turn.Waits a b)
        → WaitsAt new left_now taken_new clock_new total answered rest_new
    waits_so does =
        let steady = IsSteadyRepo IsSteady first in
        leads_then figures records faults first now new (IsRunning costs steady left left_now taken taken_now clock clock_now total answered rest)
        (λ a b. TurnDoes costs (IsSteadyRepo IsSteady now) taken_now taken_new clock_now clock_new rest rest_new turn.Waits a b)
        (λ a b. IsRunning costs steady left left_now taken taken_new clock clock_new total answered rest_new a b × IsFront rest_new not_yet) runs does
        (λ a b c r is. waits costs steady left taken clock a b c left_now taken_now taken_new clock_now clock_new total answered rest rest_new r is)

    pub answers_so : (IsSteadyRepo IsSteady first → IsSteadyRepo IsSteady now)
        → Leads figures records faults now new (λ a b. TurnDoes costs (IsSteadyRepo IsSteady now) taken_now taken_new clock_now clock_new rest rest_new turn.Answered a b)
        → RunsTo new left_now taken_new clock_new total (answered + 1) rest_new
    answers_so on does =
        let steady = IsSteadyRepo IsSteady first in
        leads_then figures records faults first now new (IsRunning costs steady left left_now taken taken_now clock clock_now total answered rest)
        (λ a b. TurnDoes costs (IsSteadyRepo IsSteady now) taken_now taken_new clock_now clock_new rest rest_new turn.Answered a b)
        (IsRunning costs steady left left_now taken taken_new clock clock_new total (answered + 1) rest_new) runs does
        (λ a b c r is. answers_more costs steady left taken clock a (IsSteadyRepo IsSteady now) on b c clock_now clock_new rest rest_new (Grows taken_now taken_new) left_now taken_now taken_new total answered r is is.sends)

    pub ends_turn_so : (IsSteadyRepo IsSteady first → IsSteadyRepo IsSteady now) → (result : Outcome)
        → Leads figures records faults now new (λ a b. TurnDoes costs (IsSteadyRepo IsSteady now) taken_now taken_new clock_now clock_new rest rest_new (turn.Ends result) a b)
        → ServesTo new left_now taken_new clock_new result answered
    ends_turn_so on result does =
        let steady = IsSteadyRepo IsSteady first in
        leads_then figures records faults first now new (IsRunning costs steady left left_now taken taken_now clock clock_now total answered rest)
        (λ a b. TurnDoes costs (IsSteadyRepo IsSteady now) taken_now taken_new clock_now clock_new rest rest_new (turn.Ends result) a b)
        (Serves costs steady left left_now taken taken_new clock clock_new (record { outcome = result; answered = answered })) runs does
        (λ a b c r is. ends_turn costs steady left taken clock a (IsSteadyRepo IsSteady now) on b c left_now taken_now taken_new clock_now clock_new total answered rest rest_new result r is)
