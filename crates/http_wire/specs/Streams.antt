-- A stream of bytes, its fronts one after another, and the calls that give them.
use Rattle.std.specs.Prelude.{◌≡◌, ◌≢◌, ◌⊎◌, ℕ, true, List, [], ◌∷◌, ◌++◌, Option, Some, None, Result, Ok, Err, ⊤}
use Rattle.http_wire.specs.declared.error.WireError.{WireError}
use Rattle.http_wire.specs.declared.error.WireError.TheVariants.{BadHead, UnknownCoding, Memory}
use Rattle.http_wire.specs.declared.request.Request.{Request}
use Rattle.http_wire.specs.Fronts.{Front, whole, refused, not_yet, IsFront, Takes}

-- these requests are taken from the front, one after another, and then the rest is left
abbrev pub TakesEach : List ℕ → List Request → List ℕ → Type 0
TakesEach stream [] rest = stream ≡ rest
TakesEach stream (request ∷ requests) rest = (next : List ℕ) × Takes stream request next × TakesEach next requests rest

-- the same, where no request follows one that closes the connection
abbrev pub TakesAll : List ℕ → List Request → List ℕ → Type 0
TakesAll stream [] rest = stream ≡ rest
TakesAll stream (request ∷ requests) rest =
    (next : List ℕ) × Takes stream request next × (request.close ≡ true → requests ≡ []) × TakesAll next requests rest

-- the last of these requests closes the connection
abbrev pub EndsClosed : List Request → Type 0
EndsClosed requests = (front : List Request) × (last : Request) × (requests ≡ front ++ last ∷ []) × (last.close ≡ true)

-- a list of requests ends with one that closes the connection, or because the front behind it is no request
abbrev pub Stops : List Request → Front → Type 0
Stops requests end = EndsClosed requests ⊎ ((request : Request) (len : ℕ) → end ≢ whole request len)

-- the requests of a stream, through the first that closes the connection or up to the first front that is none, and the
-- front behind them
pub record Fronts (stream : List ℕ) (requests : List Request) (end : Front) : Type 0 where
  pub rest : List ℕ
  pub taken : TakesAll stream requests rest
  pub front : IsFront rest end
  pub stops : Stops requests end

-- a call of a feed and what it answered
pub data Call : Type 0 where
  pushes : List ℕ → Call
  gives : Request → Call
  refuses : WireError → Call
  waits : Call
  lacks_memory : Call

-- from the untaken bytes old to new, as the clauses of push and next say
abbrev pub Step : List ℕ → Call → List ℕ → Type 0
Step old (pushes piece) new = new ≡ old ++ piece
Step old (gives request) new = Takes old request new
Step old (refuses e) new = (new ≡ old) × IsFront old (refused e)
Step old waits new = (new ≡ old) × IsFront old not_yet
Step old lacks_memory new = new ≡ old

-- the call that push was, by its answer
abbrev pub push_call : {E : Type 0} → List ℕ → Result ⊤ E → Call
push_call piece (Ok u) = pushes piece
push_call piece (Err e) = lacks_memory

-- an error of the stream is its front, and want of memory is none
abbrev pub error_call : WireError → Call
error_call BadHead = refuses BadHead
error_call UnknownCoding = refuses UnknownCoding
error_call Memory = lacks_memory

-- the call that next was, by its answer
abbrev pub next_call : Option (Result Request WireError) → Call
next_call None = waits
next_call (Some (Ok request)) = gives request
next_call (Some (Err e)) = error_call e

-- one call after another
abbrev pub Steps : List ℕ → List Call → List ℕ → Type 0
Steps old [] new = old ≡ new
Steps old (call ∷ calls) new = (next : List ℕ) × Step old call next × Steps next calls new

-- all that was pushed
abbrev pub pushed : List Call → List ℕ
pushed [] = []
pushed (pushes piece ∷ calls) = piece ++ pushed calls
pushed (gives request ∷ calls) = pushed calls
pushed (refuses e ∷ calls) = pushed calls
pushed (waits ∷ calls) = pushed calls
pushed (lacks_memory ∷ calls) = pushed calls

-- all that was given
abbrev pub given : List Call → List Request
given [] = []
given (pushes piece ∷ calls) = given calls
given (gives request ∷ calls) = request ∷ given calls
given (refuses e ∷ calls) = given calls
given (waits ∷ calls) = given calls
given (lacks_memory ∷ calls) = given calls

-- nothing but that error is answered
abbrev pub OnlyRefuses : WireError → List Call → Type 0
OnlyRefuses e [] = ⊤
OnlyRefuses e (pushes piece ∷ calls) = OnlyRefuses e calls
OnlyRefuses e (gives request ∷ calls) = ⊥
OnlyRefuses e (refuses f ∷ calls) = (f ≡ e) × OnlyRefuses e calls
OnlyRefuses e (waits ∷ calls) = ⊥
OnlyRefuses e (lacks_memory ∷ calls) = OnlyRefuses e calls

-- bytes have one front
abbrev pub OneFront : Type 0
OneFront = (bytes : List ℕ) (a b : Front) → IsFront bytes a → IsFront bytes b → a ≡ b

-- where nothing is, a request can still come
abbrev pub NothingYet : Type 0
NothingYet = IsFront [] not_yet

-- a request or an error stays the front, whatever bytes follow
abbrev pub FrontStays : Type 0
FrontStays = (bytes more : List ℕ) (front : Front) → IsFront bytes front → front ≢ not_yet → IsFront (bytes ++ more) front

-- that error was answered by one of the calls
abbrev pub WasRefused : WireError → List Call → Type 0
WasRefused e calls = (before : List Call) × (after : List Call) × (calls ≡ before ++ refuses e ∷ after)

-- what calls on a new feed answered, against all that was pushed: the requests are taken one after another and the rest is
-- left, and an error is the front behind them
pub record Gave (calls : List Call) (untaken : List ℕ) : Type 0 where
  pub taken : TakesEach (pushed calls) (given calls) untaken
  pub error : (e : WireError) → WasRefused e calls → IsFront untaken (refused e)

-- however a stream was cut and whenever it was asked, a feed gave the fronts of the whole stream, one after another
abbrev pub AnyCut : Type 0
AnyCut = (calls : List Call) (untaken : List ℕ) → Steps [] calls untaken → Gave calls untaken

-- a stream has these requests and no others
abbrev pub OneReading : Type 0
OneReading = (stream : List ℕ) (a b : List Request) (m n : Front) → Fronts stream a m → Fronts stream b n → (a ≡ b) × (m ≡ n)

-- after an error there is the same error ever after
abbrev pub SameError : Type 0
SameError = (bytes : List ℕ) (e : WireError) (calls : List Call) (untaken : List ℕ) → IsFront bytes (refused e) → Steps bytes calls untaken → OnlyRefuses e calls
