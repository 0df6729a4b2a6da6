-- What follows from the definition of a session, whatever history it ran over.
use Rattle.std.specs.Prelude.{◌≡◌, ◌≢◌, ◌⊎◌, ◌≤◌, ◌<◌, ℕ, List, [], ◌∷◌, ◌++◌, length, map, All}
use Rattle.std.specs.List.Sorted.{IsNonDecreasing}
use Rattle.http_wire.specs.declared.request.Request.{Request}
use Rattle.http_wire.specs.Fronts.{refused, not_yet}
use Rattle.http_wire.specs.Streams.{TakesAll, EndsClosed, Fronts}
use Rattle.entry_codec.specs.declared.entry.Entry.{Entry}
use Rattle.sysapi_serve.specs.declared.outcome.Outcome.{Outcome}
use Rattle.sysapi_serve.specs.declared.outcome.Outcome.TheVariants.{Ended, Closed, Refused, CutShort, ReadFault, WriteFault, Spent, Memory}
use Rattle.sysapi_serve.specs.declared.session.TheConstants.{BYTES_MOST}
use Rattle.sysapi_serve.specs.Sessions.{Keeping, Answer, requests_of, texts_of, IsTranscript, IsSession}

-- these are the first requests of the bytes
abbrev pub AreFirst : List ℕ → List Request → Type 0
AreFirst read requests = (rest : List ℕ) × TakesAll read requests rest

-- The judged requests are all requests of the bytes read, up to the front that ended the session or through the request that closed
-- the connection. After a fault of the sink or want of memory they are the first ones.
abbrev pub JudgesAll : Outcome → List ℕ → List Request → Type 0
JudgesAll Ended read requests = Fronts read requests not_yet
JudgesAll Closed read requests = AreFirst read requests × EndsClosed requests
JudgesAll (Refused e) read requests = Fronts read requests (refused e)
JudgesAll CutShort read requests = Fronts read requests not_yet
JudgesAll ReadFault read requests = Fronts read requests not_yet
JudgesAll WriteFault read requests = AreFirst read requests
JudgesAll Spent read requests = Fronts read requests not_yet
JudgesAll Memory read requests = AreFirst read requests

-- what a session judged, of the bytes that it read
abbrev pub AllAreJudged : Type 0
AllAreJudged = (k : Keeping) (H : List Entry) (s : ℕ) (outcome : Outcome) (answered : ℕ) (read readings written : List ℕ)
    (session : IsSession k H s outcome answered read readings written) → JudgesAll outcome read (requests_of session.answers)

-- the session ended well: the judged requests are these, and all their responses were written, and nothing else
pub record AnswersAll (outcome : Outcome) (answered : ℕ) (written : List ℕ) (answers : List Answer) (requests : List Request) : Type 0 where
  pub well : (outcome ≡ Ended) ⊎ (outcome ≡ Closed)
  pub judged : requests_of answers ≡ requests
  pub count : answered ≡ length requests
  pub text : written ≡ texts_of answers

-- Where the bytes of the source are whole requests to their end, few enough, no call of the outside failed and memory was found, the
-- session ended well and answered them all, be it by 503. A session that came to the end of the source read all its bytes.
abbrev pub IsComplete : Type 0
IsComplete = (k : Keeping) (H : List Entry) (s : ℕ) (outcome : Outcome) (answered : ℕ) (read readings written : List ℕ)
    (session : IsSession k H s outcome answered read readings written) (source more : List ℕ) (requests : List Request)
    → source ≡ read ++ more → (outcome ≡ Ended ⊎ (outcome ≡ CutShort) → more ≡ []) → TakesAll source requests [] → length source < BYTES_MOST
    → outcome ≢ ReadFault → outcome ≢ WriteFault → outcome ≢ Memory → AnswersAll outcome answered written session.answers requests

-- the points at which the requests were judged
abbrev pub points_of : List Answer → List ℕ
points_of answers = map (λ a. a.point) answers

-- from the start of the session on points never fall, and none is above the number of entries
abbrev pub PointsNeverGoBack : Type 0
PointsNeverGoBack = (k : Keeping) (H : List Entry) (s : ℕ) (answers : List Answer) → IsTranscript k H s answers
    → IsNonDecreasing (s ∷ points_of answers) × All (λ n. n ≤ length H) (points_of answers)
