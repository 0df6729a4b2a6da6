-- A session: one connection, from the first byte read to the last byte written. H is the history in order, the oldest entry first; a
-- point n of it stands for its first n entries.
use Rattle.std.specs.Prelude.{◌≡◌, ◌≢◌, ℕ, ◌+◌, ◌≤◌, ◌<◌, ◌⊎◌, Bool, true, false, List, [], ◌∷◌, ◌++◌, length, map, take, reverse, Option, Some, None, Result, Ok, Err, All, IsErr, IsSome, ⊤}
use Rattle.std.specs.List.{flat_map}
use Rattle.http_wire.specs.declared.request.Request.{Request}
use Rattle.http_wire.specs.Fronts.{refused, not_yet, IsFront}
use Rattle.http_wire.specs.Streams.{TakesAll, EndsClosed}
use Rattle.entry_codec.specs.declared.entry.Entry.{Entry}
use Rattle.entry_codec.specs.declared.call.Call.{Call}
use Rattle.entry_codec.specs.declared.call.Call.TheVariants.{Write, Read}
use Rattle.api_records.specs.declared.refusal.Refusal.{Refusal}
use Rattle.api_rest.specs.declared.error.RestError.{RestError}
use Rattle.sysapi_serve.specs.declared.outcome.Outcome.{Outcome}
use Rattle.sysapi_serve.specs.declared.outcome.Outcome.TheVariants.{Ended, Closed, Refused, CutShort, ReadFault, WriteFault, Spent, Memory}
use Rattle.sysapi_serve.specs.declared.session.TheConstants.{BYTES_MOST}
use Rattle.entry_codec.specs.Refusals.{refusal}
use Rattle.api_rest.specs.Routes.{routed}
use Rattle.sysapi_serve.specs.Texts.{response_to, fixed_for, wire_text}
use Rattle.http_wire.specs.Responses.{fixed_text}

-- the repository that answers: its number, and whether the record of an entry behind these entries is above the room
pub record Keeping : Type 0 where
  pub repository : ℕ
  pub is_full : List Entry → Entry → Bool

-- How a request was answered: by the response to it, or by one of three fixed texts. 503 may stand in place of any response; then a
-- command was not accepted, or it was and no memory was found for its response.
pub data Way : Type 0 where
  responded : Way
  full : Way
  faulty : Way
  unaccepted : Way
  unsaid : Way

-- a judged request: the moment and the point at which it was judged, how it was answered, and the bytes of its response
pub record Answer : Type 0 where
  pub request : Request
  pub moment : ℕ
  pub point : ℕ
  pub way : Way
  pub text : List ℕ

-- the entry of a command that isn't refused
abbrev pub unless_refused : Option Refusal → Entry → Option Entry
unless_refused None e = Some e
unless_refused (Some why) e = None

-- the entry that a routed request would leave at a history, whose newest entry stands first
abbrev pub entry_for : ℕ → List Entry → ℕ → Result Call RestError → Option Entry
entry_for r past moment (Err e) = None
entry_for r past moment (Ok (Read call)) = None
entry_for r past moment (Ok (Write command)) = unless_refused (refusal r past command) (record { moment = moment; command = command })

-- the entry that a judged request would leave behind these entries: that of a command with no refusal there
abbrev pub entry_of : Keeping → List Entry → Answer → Option Entry
entry_of k before a = entry_for k.repository (reverse before) a.moment (routed a.request)

-- the entry that it did leave
abbrev pub accepted_by : Way → Option Entry → Option Entry
accepted_by responded e = e
accepted_by full e = None
accepted_by faulty e = None
accepted_by unaccepted e = None
accepted_by unsaid e = e

abbrev pub accepted : Keeping → List Entry → Answer → Option Entry
accepted k before a = accepted_by a.way (entry_of k before a)

-- the entry stands at this point of the history
abbrev pub StandsAt : List Entry → ℕ → Option Entry → Type 0
StandsAt H n None = ⊤
StandsAt H n (Some e) = take (n + 1) H ≡ take n H ++ e ∷ []

-- the least point of what comes next
abbrev pub point_after : ℕ → Option Entry → ℕ
point_after n None = n
point_after n (Some e) = n + 1

-- the record of the entry fits behind these entries, or doesn't
abbrev pub Fits : Keeping → List Entry → Option Entry → Type 0
Fits k before None = ⊤
Fits k before (Some e) = k.is_full before e ≡ false

abbrev pub Overflows : Keeping → List Entry → Option Entry → Type 0
Overflows k before None = ⊥
Overflows k before (Some e) = k.is_full before e ≡ true

-- The text by the way: the response behind these entries, or a fixed text. 507 stands exactly where the record of a command that has
-- no refusal doesn't fit, and 500 only where it fits.
abbrev pub IsText : Keeping → List Entry → Answer → Way → Option Entry → Type 0
IsText k before a responded e = (a.text ≡ response_to k.repository (reverse before) a.request a.moment) × Fits k before e
IsText k before a full e = (a.text ≡ fixed_for 507 a.request a.moment) × Overflows k before e
IsText k before a faulty e = (a.text ≡ fixed_for 500 a.request a.moment) × IsSome e × Fits k before e
IsText k before a unaccepted e = a.text ≡ fixed_for 503 a.request a.moment
IsText k before a unsaid e = (a.text ≡ fixed_for 503 a.request a.moment) × IsSome e × Fits k before e

-- A request was judged at a point not below s. One that asks for no call reaches no state, and keeps the point s.
pub record IsAnswered (k : Keeping) (H : List Entry) (s : ℕ) (a : Answer) : Type 0 where
  pub later : s ≤ a.point
  pub stateless : IsErr (routed a.request) → a.point ≡ s
  pub text : IsText k (take a.point H) a a.way (entry_of k (take a.point H) a)
  pub stands : StandsAt H a.point (accepted k (take a.point H) a)

-- the judged requests in order: points never go back, none is above |H|, and each accepted entry stands at its point
abbrev pub IsTranscript : Keeping → List Entry → ℕ → List Answer → Type 0
IsTranscript k H s [] = s ≤ length H
IsTranscript k H s (a ∷ answers) = IsAnswered k H s a × IsTranscript k H (point_after a.point (accepted k (take a.point H) a)) answers

-- From the point s to the point n no other commands stand between: each point is the number of entries accepted before.
abbrev pub IsAlone : Keeping → List Entry → ℕ → List Answer → ℕ → Type 0
IsAlone k H s [] n = s ≡ n
IsAlone k H s (a ∷ answers) n = (a.point ≡ s) × IsAlone k H (point_after a.point (accepted k (take a.point H) a)) answers n

-- no request was answered 500
abbrev pub IsFaultless : List Answer → Type 0
IsFaultless answers = All (λ a. a.way ≢ faulty) answers

abbrev pub requests_of : List Answer → List Request
requests_of answers = map (λ a. a.request) answers

abbrev pub moments_of : List Answer → List ℕ
moments_of answers = map (λ a. a.moment) answers

abbrev pub texts_of : List Answer → List ℕ
texts_of answers = flat_map (λ a. a.text) answers

-- What an outcome adds behind the responses, where these bytes were read and these are left: readings of the clock, and bytes. A
-- further read was due where the front was not there yet; it was made exactly where fewer bytes than the limit had been taken.
abbrev pub Adds : Outcome → List ℕ → List ℕ → List Answer → List ℕ → List ℕ → Type 0
Adds Ended read rest answers readings last = (rest ≡ []) × (readings ≡ []) × (last ≡ []) × (length read < BYTES_MOST)
Adds Closed read rest answers readings last = EndsClosed (requests_of answers) × (readings ≡ []) × (last ≡ [])
Adds (Refused e) read rest answers readings last = (moment : ℕ) × IsFront rest (refused e) × (readings ≡ moment ∷ []) × (last ≡ wire_text e moment)
Adds CutShort read rest answers readings last = (rest ≢ []) × IsFront rest not_yet × (readings ≡ []) × (last ≡ []) × (length read < BYTES_MOST)
Adds ReadFault read rest answers readings last = IsFront rest not_yet × (readings ≡ []) × (last ≡ []) × (length read < BYTES_MOST)
Adds WriteFault read rest answers readings last = ⊥
Adds Spent read rest answers readings last = IsFront rest not_yet × (BYTES_MOST ≤ length read) × (readings ≡ []) × (last ≡ [])
Adds Memory read rest answers readings last = (moment : ℕ) × (readings ≡ moment ∷ []) × (last ≡ fixed_text 503 moment true false)

-- part of a text, and not all of it
abbrev pub IsCut : List ℕ → List ℕ → Type 0
IsCut text part = (more : List ℕ) × (text ≡ part ++ more) × (0 < length more)

-- the outcomes whose last text a fault may cut
abbrev pub HasLast : Outcome → Type 0
HasLast Ended = ⊥
HasLast Closed = ⊥
HasLast (Refused e) = ⊤
HasLast CutShort = ⊥
HasLast ReadFault = ⊥
HasLast WriteFault = ⊥
HasLast Spent = ⊥
HasLast Memory = ⊤

-- The bytes written, the further readings of the clock, and how many responses stand whole: all responses, and what the outcome adds.
-- The session goes on only behind a request that doesn't close it.
pub record IsWhole (outcome : Outcome) (read rest : List ℕ) (answers : List Answer) (readings written : List ℕ) (answered : ℕ) : Type 0 where
  pub closed : EndsClosed (requests_of answers) → outcome ≡ Closed
  pub last : List ℕ
  pub adds : Adds outcome read rest answers readings last
  pub text : written ≡ texts_of answers ++ last
  pub count : answered ≡ length answers

-- a fault cut the response to the last judged request
pub record IsCutInAnswer (answers : List Answer) (readings written : List ℕ) (answered : ℕ) : Type 0 where
  pub before : List Answer
  pub a : Answer
  pub split : answers ≡ before ++ a ∷ []
  pub part : List ℕ
  pub cut : IsCut a.text part
  pub no_more : readings ≡ []
  pub text : written ≡ texts_of before ++ part
  pub count : answered ≡ length before

-- a fault cut the text that another outcome would have added
pub record IsCutAtEnd (read rest : List ℕ) (answers : List Answer) (readings written : List ℕ) (answered : ℕ) : Type 0 where
  pub open_still : ¬ (EndsClosed (requests_of answers))
  pub outcome : Outcome
  pub has_last : HasLast outcome
  pub last : List ℕ
  pub adds : Adds outcome read rest answers readings last
  pub part : List ℕ
  pub cut : IsCut last part
  pub text : written ≡ texts_of answers ++ part
  pub count : answered ≡ length answers

-- only a fault of the sink leaves less than the whole
abbrev pub IsWritten : Outcome → List ℕ → List ℕ → List Answer → List ℕ → List ℕ → ℕ → Type 0
IsWritten outcome read rest answers readings written answered =
    IsWhole outcome read rest answers readings written answered
    ⊎ ((outcome ≡ WriteFault) × (IsCutInAnswer answers readings written answered ⊎ IsCutAtEnd read rest answers readings written answered))

-- A session over H from the point s, which read these bytes and readings of the clock and wrote these bytes: the judged requests stand
-- first in the bytes read, one after another, and the clock's k-th reading is the moment of the k-th.
pub record IsSession (k : Keeping) (H : List Entry) (s : ℕ) (outcome : Outcome) (answered : ℕ) (read readings written : List ℕ) : Type 0 where
  pub answers : List Answer
  pub rest : List ℕ
  pub requests : TakesAll read (requests_of answers) rest
  pub transcript : IsTranscript k H s answers
  pub further : List ℕ
  pub clock : readings ≡ moments_of answers ++ further
  pub bytes : IsWritten outcome read rest answers further written answered
