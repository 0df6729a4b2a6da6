-- What the parts of the code do, each by cases on its answer. Want of memory is told apart, and says nothing.
use Rattle.std.specs.Prelude.{◌≡◌, ◌≢◌, ℕ, ◌+◌, ◌⊎◌, ◌<◌, ◌≤◌, true, false, List, [], ◌∷◌, ◌++◌, length, Option, Some, None, IsSome, Result, Ok, Err, MatchResult, ⊤}
use Rattle.std.specs.Io.KnownBytes.{Consumes, IsAtEnd}
use Rattle.sysapi_base.specs.Outside.{Grows, Rises}
use Rattle.http_wire.specs.declared.request.Request.{Request}
use Rattle.http_wire.specs.Fronts.{refused, not_yet, IsFront, Takes}
use Rattle.http_wire.specs.Responses.{fixed_text}
use Rattle.sysapi_serve.specs.declared.outcome.Outcome.{Outcome}
use Rattle.sysapi_serve.specs.declared.outcome.Outcome.TheVariants as outcome
use Rattle.sysapi_serve.specs.declared.turn.Turn.{Turn}
use Rattle.sysapi_serve.specs.declared.turn.Turn.TheVariants as turn
use Rattle.sysapi_serve.specs.declared.turn.More.{More}
use Rattle.sysapi_serve.specs.declared.turn.More.TheVariants as more
use Rattle.sysapi_serve.specs.declared.turn.Instead.{Instead}
use Rattle.sysapi_serve.specs.declared.turn.Instead.TheVariants as instead
use Rattle.entry_codec.specs.declared.entry.Entry.{Entry}
use Rattle.entry_codec.specs.declared.call.Call.{Call}
use Rattle.api_rest.specs.declared.error.RestError.{RestError}
use Rattle.api_rest.specs.Routes.{routed}
use Rattle.sysapi_serve.specs.Kept.{Kept, past, number_of, entries}
use Rattle.sysapi_serve.specs.Texts.{text_of, fixed_for, wire_text}
use Rattle.sysapi_serve.specs.Sessions.{Way, responded, full, faulty, unaccepted, unsaid, accepted_by, entry_for, IsCut}
use Rattle.sysapi_serve.specs.Alone.{cost_of, used_behind}

-- ---- judging

-- the record of the entry, if there is one, fits
abbrev pub HasRoom : (ℕ → ℕ) → Kept → Option Entry → Type 0
HasRoom costs k None = ⊤
HasRoom costs k (Some e) = k.figures.used + cost_of costs e ≤ k.figures.room

-- there is an entry, and its record doesn't fit
abbrev pub LacksRoom : (ℕ → ℕ) → Kept → Option Entry → Type 0
LacksRoom costs k None = ⊥
LacksRoom costs k (Some e) = k.figures.room < k.figures.used + cost_of costs e

-- the text that answers a request that asks this, by the way in which it was answered, where it would leave this entry
abbrev pub Says : (ℕ → ℕ) → Kept → Request → ℕ → Result Call RestError → Way → Option Entry → List ℕ → Type 0
Says costs k request moment asked responded e text = (text ≡ text_of (number_of k) (past k) request moment asked) × HasRoom costs k e
Says costs k request moment asked full e text = (text ≡ fixed_for 507 request moment) × LacksRoom costs k e
Says costs k request moment asked faulty e text = (text ≡ fixed_for 500 request moment) × IsSome e × HasRoom costs k e
Says costs k request moment asked unaccepted e text = text ≡ fixed_for 503 request moment
Says costs k request moment asked unsaid e text = (text ≡ fixed_for 503 request moment) × IsSome e × HasRoom costs k e

-- What a request, answered in this way, did to what is kept: the history has grown by the entry that it left, if it left one, and what
-- is used by its cost. The count of faults rose where it was answered 500, which it isn't over a steady keeper.
pub record Moves (costs : ℕ → ℕ) (steady : Type 0) (way : Way) (e : Option Entry) (old new : Kept) : Type 0 where
  pub history : new.history ≡ old.history ++ entries e
  pub repository : number_of new ≡ number_of old
  pub room : new.figures.room ≡ old.figures.room
  pub used : new.figures.used ≡ used_behind costs old.figures.used (entries e)
  pub settled : way ≢ faulty → old.figures.doubt ≡ false → new.figures.doubt ≡ false
  pub later : old.faults ≤ new.faults
  pub risen : way ≡ faulty → Rises old.faults new.faults
  pub steady_keeper : steady → way ≢ faulty

-- the entry that a request that asks this would leave
abbrev pub entry_asked : Kept → ℕ → Result Call RestError → Option Entry
entry_asked k moment asked = entry_for (number_of k) (past k) moment asked

-- a request that asks this was answered in this way by this text
pub record IsAnsweredBy (costs : ℕ → ℕ) (steady : Type 0) (old new : Kept) (request : Request) (moment : ℕ) (asked : Result Call RestError) (way : Way) (text : List ℕ) : Type 0 where
  pub says : Says costs old request moment asked way (entry_asked old moment asked) text
  pub moves : Moves costs steady way (accepted_by way (entry_asked old moment asked)) old new

-- What judging a request that asks this gives: the text of the response, or what stands in place of it.
abbrev pub Judges : {T : Type 0} → (T → List ℕ) → (ℕ → ℕ) → Type 0 → Request → ℕ → Result Call RestError → Result T Instead → Kept → Kept → Type 0
Judges bytes costs steady request moment asked (Ok text) old new = IsAnsweredBy costs steady old new request moment asked responded (bytes text)
Judges bytes costs steady request moment asked (Err instead.Fault) old new = IsAnsweredBy costs steady old new request moment asked faulty (fixed_for 500 request moment)
Judges bytes costs steady request moment asked (Err instead.Full) old new = IsAnsweredBy costs steady old new request moment asked full (fixed_for 507 request moment)
Judges bytes costs steady request moment asked (Err instead.Memory) old new =
    IsAnsweredBy costs steady old new request moment asked unaccepted (fixed_for 503 request moment)
    ⊎ IsAnsweredBy costs steady old new request moment asked unsaid (fixed_for 503 request moment)

-- the status of what stands in place of a response
abbrev pub status_of : Instead → ℕ
status_of instead.Fault = 500
status_of instead.Full = 507
status_of instead.Memory = 503

-- ---- writing

-- a text was written, all of it or the part before a fault
abbrev pub Sends : {T E : Type 0} → Option (List ℕ) → Option (List ℕ) → List ℕ → Result T E → Type 0
Sends told now text result = MatchResult result (λ _. Grows told now text) (λ _. (part : List ℕ) × IsCut text part × Grows told now part)

-- a request was judged, and its text sent as the result says
abbrev pub Sent : {T E : Type 0} → (ℕ → ℕ) → Type 0 → Request → ℕ → Option (List ℕ) → Option (List ℕ) → Result T E → Kept → Kept → Type 0
Sent costs steady request moment told now result old new =
    (way : Way) × (text : List ℕ) × IsAnsweredBy costs steady old new request moment (routed request) way text × Sends told now text result

-- the text that an outcome adds at these untaken bytes
abbrev pub IsLast : Outcome → List ℕ → ℕ → List ℕ → Type 0
IsLast outcome.Ended rest moment last = ⊥
IsLast outcome.Closed rest moment last = ⊥
IsLast (outcome.Refused e) rest moment last = IsFront rest (refused e) × (last ≡ wire_text e moment)
IsLast outcome.CutShort rest moment last = ⊥
IsLast outcome.ReadFault rest moment last = ⊥
IsLast outcome.WriteFault rest moment last = ⊥
IsLast outcome.Spent rest moment last = ⊥
IsLast outcome.Memory rest moment last = last ≡ fixed_text 503 moment true false

-- the session ends with the text that an outcome adds, or with a part of it where the sink failed
pub record Closes (told now : Option (List ℕ)) (rest : List ℕ) (moment : ℕ) (result : Outcome) : Type 0 where
  pub due : Outcome
  pub last : List ℕ
  pub is_last : IsLast due rest moment last
  pub written : ((result ≡ due) × Grows told now last) ⊎ ((result ≡ outcome.WriteFault) × ((part : List ℕ) × IsCut last part × Grows told now part))

-- ---- turns

-- the request at the front was judged, and its response was sent as `sent` says
pub record Answers (costs : ℕ → ℕ) (steady : Type 0) (sent : List ℕ → Type 0) (old new : Kept) (clock clock_now : Option (List ℕ)) (feed feed_now : List ℕ) : Type 0 where
  pub request : Request
  pub moment : ℕ
  pub way : Way
  pub text : List ℕ
  pub takes : Takes feed request feed_now
  pub judges : IsAnsweredBy costs steady old new request moment (routed request) way text
  pub ticks : Grows clock clock_now (moment ∷ [])
  pub sends : sent text

-- a fault cut the response
abbrev pub CutsAnswer : Option (List ℕ) → Option (List ℕ) → List ℕ → Type 0
CutsAnswer told now text = (part : List ℕ) × IsCut text part × Grows told now part

-- the session ends in a turn: a response is cut, or the front is refused
abbrev pub EndsTurn : (ℕ → ℕ) → Type 0 → Option (List ℕ) → Option (List ℕ) → Option (List ℕ) → Option (List ℕ) → List ℕ → List ℕ → Outcome → Kept → Kept → Type 0
EndsTurn costs steady told now clock clock_now feed feed_now result old new =
    ((result ≡ outcome.WriteFault) × Answers costs steady (CutsAnswer told now) old new clock clock_now feed feed_now)
    ⊎ ((new ≡ old) × (feed_now ≡ feed) × ((moment : ℕ) × Grows clock clock_now (moment ∷ []) × Closes told now feed moment result))

-- what a turn does to the repository, the bytes that the sink tells, the readings that the clock tells and the untaken bytes
abbrev pub TurnDoes : (ℕ → ℕ) → Type 0 → Option (List ℕ) → Option (List ℕ) → Option (List ℕ) → Option (List ℕ) → List ℕ → List ℕ → Turn → Kept → Kept → Type 0
TurnDoes costs steady told now clock clock_now feed feed_now turn.Answered old new = Answers costs steady (Grows told now) old new clock clock_now feed feed_now
TurnDoes costs steady told now clock clock_now feed feed_now turn.Waits old new =
    (feed_now ≡ feed) × IsFront feed not_yet × (now ≡ told) × (clock_now ≡ clock) × (new ≡ old)
TurnDoes costs steady told now clock clock_now feed feed_now (turn.Ends result) old new = EndsTurn costs steady told now clock clock_now feed feed_now result old new

-- a turn ends a session in one of these ways
abbrev pub IsOfTurn : Outcome → Type 0
IsOfTurn outcome.Ended = ⊥
IsOfTurn outcome.Closed = ⊥
IsOfTurn (outcome.Refused e) = ⊤
IsOfTurn outcome.CutShort = ⊥
IsOfTurn outcome.ReadFault = ⊥
IsOfTurn outcome.WriteFault = ⊤
IsOfTurn outcome.Spent = ⊥
IsOfTurn outcome.Memory = ⊤

-- What a turn does to the untaken bytes, whatever the repository stores: it takes at least one where it answered, and leaves them
-- where it waits. Where it ends the session it says how.
abbrev pub FeedDoes : List ℕ → List ℕ → Turn → Type 0
FeedDoes feed feed_now turn.Answered = length feed_now < length feed
FeedDoes feed feed_now turn.Waits = feed_now ≡ feed
FeedDoes feed feed_now (turn.Ends result) = IsOfTurn result

-- what a read does to the bytes left and to the untaken bytes
abbrev pub ReadDoes : Option (List ℕ) → Option (List ℕ) → List ℕ → List ℕ → More → Type 0
ReadDoes left now old new (more.Got n) = (bytes : List ℕ) × Consumes left now bytes × (new ≡ old ++ bytes) × (n ≡ length bytes) × (0 < n)
ReadDoes left now old new more.End = Consumes left now [] × IsAtEnd now × (new ≡ old)
ReadDoes left now old new more.Fault = Consumes left now [] × (new ≡ old)
ReadDoes left now old new more.NoMemory = (bytes : List ℕ) × Consumes left now bytes × (new ≡ old)

abbrev pub IsGotWithin : ℕ → More → Type 0
IsGotWithin most (more.Got n) = n ≤ most
IsGotWithin most more.End = ⊤
IsGotWithin most more.Fault = ⊤
IsGotWithin most more.NoMemory = ⊤

-- ---- counts of faults

-- an outcome is a fault of the source, or of the sink
abbrev pub read_result : Outcome → Result ⊤ ⊤
read_result outcome.Ended = Ok tt
read_result outcome.Closed = Ok tt
read_result (outcome.Refused e) = Ok tt
read_result outcome.CutShort = Ok tt
read_result outcome.ReadFault = Err tt
read_result outcome.WriteFault = Ok tt
read_result outcome.Spent = Ok tt
read_result outcome.Memory = Ok tt

abbrev pub write_result : Outcome → Result ⊤ ⊤
write_result outcome.Ended = Ok tt
write_result outcome.Closed = Ok tt
write_result (outcome.Refused e) = Ok tt
write_result outcome.CutShort = Ok tt
write_result outcome.ReadFault = Ok tt
write_result outcome.WriteFault = Err tt
write_result outcome.Spent = Ok tt
write_result outcome.Memory = Ok tt

abbrev pub turn_result : Turn → Result ⊤ ⊤
turn_result turn.Answered = Ok tt
turn_result turn.Waits = Ok tt
turn_result (turn.Ends result) = write_result result

abbrev pub more_result : More → Result ⊤ ⊤
more_result (more.Got n) = Ok tt
more_result more.End = Ok tt
more_result more.Fault = Err tt
more_result more.NoMemory = Ok tt
