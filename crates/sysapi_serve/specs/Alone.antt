-- A session over a repository that nobody else uses.
use Rattle.std.specs.Prelude.{◌≡◌, ◌<◌, ◌≤◌, ◌^◌, ℕ, ◌+◌, ◌-◌, false, nat_lt, List, ◌++◌, length, drop, sum_by, Option}
use Rattle.std.specs.Io.KnownBytes.{Consumes}
use Rattle.sysapi_base.specs.Outside.{Grows}
use Rattle.entry_codec.specs.declared.entry.Entry.{Entry}
use Rattle.entry_bytes.specs.Spelling.{entry_bytes}
use Rattle.sysapi_serve.specs.declared.outcome.Served.{Served}
use Rattle.sysapi_serve.specs.Kept.{Kept, number_of}
use Rattle.sysapi_serve.specs.Sessions.{Keeping, Way, responded, full, faulty, unaccepted, unsaid, Answer, IsSession, IsAlone, IsFaultless}

-- what the record of an entry costs
abbrev pub cost_of : (ℕ → ℕ) → Entry → ℕ
cost_of costs e = costs (length (entry_bytes e))

-- how much is used behind these entries, where this much was used before them
abbrev pub used_behind : (ℕ → ℕ) → ℕ → List Entry → ℕ
used_behind costs used more = used + sum_by (cost_of costs) more

-- The repository that answers in a session: where this was used when the session began, the record of an entry doesn't fit where what
-- is used with it, and with the records of the entries since, is above the room.
abbrev pub keeping : (ℕ → ℕ) → Kept → Keeping
keeping costs start = record {
  repository = number_of start;
  is_full = λ before e. nat_lt start.figures.room (used_behind costs start.figures.used (drop (length start.history) before) + cost_of costs e);
}

-- a request answered 500
abbrev pub fault_of : Way → ℕ
fault_of responded = 0
fault_of full = 0
fault_of faulty = 1
fault_of unaccepted = 0
fault_of unsaid = 0

-- The keeper's count never falls, and rises by at least the number of requests answered 500. One kept in a u64 can't rise from its last
-- value, so from there on nothing is said.
pub record CountsFaults (answers : List Answer) (before now : ℕ) : Type 0 where
  pub later : before ≤ now
  pub risen : now < 2 ^ 64 - 1 → before + sum_by (λ a. fault_of a.way) answers ≤ now

-- What the session did, from what was kept, left, taken and read before to what is now. The history has grown by the commands accepted
-- in this session alone, and each point is the number of entries accepted before. No request was answered 500 where the keeper was
-- steady. Without one, nothing is in doubt where nothing was before.
pub record IsServed (costs : ℕ → ℕ) (steady : Type 0) (old new : Kept) (left left_now taken taken_now clock clock_now : Option (List ℕ)) (served : Served) : Type 0 where
  pub repository : number_of new ≡ number_of old
  pub room : new.figures.room ≡ old.figures.room
  pub more : List Entry
  pub grown : new.history ≡ old.history ++ more
  pub used : new.figures.used ≡ used_behind costs old.figures.used more
  pub read : List ℕ
  pub readings : List ℕ
  pub written : List ℕ
  pub consumed : Consumes left left_now read
  pub ticked : Grows clock clock_now readings
  pub took : Grows taken taken_now written
  pub session : IsSession (keeping costs old) new.history (length old.history) served.outcome served.answered read readings written
  pub alone : IsAlone (keeping costs old) new.history (length old.history) session.answers (length new.history)
  pub faults : CountsFaults session.answers old.faults new.faults
  pub steady_keeper : steady → IsFaultless session.answers
  pub settled : IsFaultless session.answers → old.figures.doubt ≡ false → new.figures.doubt ≡ false

-- the same, as what one time leads to
abbrev pub Serves : (ℕ → ℕ) → Type 0 → Option (List ℕ) → Option (List ℕ) → Option (List ℕ) → Option (List ℕ) → Option (List ℕ) → Option (List ℕ) → Served → Kept → Kept → Type 0
Serves costs steady left left_now taken taken_now clock clock_now served old new = IsServed costs steady old new left left_now taken taken_now clock clock_now served
