-- What a request asks for: a call, or why it is none.
use Rattle.std.specs.Prelude.{◌≡◌, ℕ, List, Option, Result, Ok, Err, ⊤}
use Rattle.doc_value.specs.Document.{Document}
use Rattle.doc_value.specs.Read.{reading}
use Rattle.doc_value.specs.declared.error.DocError.{DocError}
use Rattle.doc_value.specs.declared.error.DocError.TheVariants as errors
use Rattle.http_wire.specs.declared.request.Request.{Request}
use Rattle.api_records.specs.declared.command.Command.{Command}
use Rattle.api_records.specs.declared.body.BodyKind.{BodyKind}
use Rattle.api_records.specs.Bodies.{Judged, HasIds, command_in}
use Rattle.api_records.specs.Storable.{IsStorable}
use Rattle.entry_codec.specs.declared.call.Call.{Call}
use Rattle.entry_codec.specs.declared.call.Call.TheVariants.{Write, Read}
use Rattle.api_rest.specs.declared.asked.Asked.{Asked}
use Rattle.api_rest.specs.declared.asked.Asked.TheVariants as asked
use Rattle.api_rest.specs.declared.error.BodyError.TheVariants.{BadJson, NotWhole, TooDeep, BadShape}
use Rattle.api_rest.specs.declared.error.RestError.{RestError}
use Rattle.api_rest.specs.declared.error.RestError.TheVariants.{NoRoute, NoMethod, BadId, BadParameter, BadBody, Memory}
use Rattle.api_rest.specs.Asked.{and_then, asked as asked_for}

-- ---- bodies

abbrev pub no_document : DocError → RestError
no_document errors.Syntax = BadBody BadJson
no_document errors.NotUtf8 = BadBody BadJson
no_document errors.NotWhole = BadBody NotWhole
no_document errors.TooDeep = BadBody TooDeep
no_document errors.Memory = Memory

abbrev pub written : Judged Command → Result Call RestError
written (Ok command) = Ok (Write command)
written (Err key) = Err (BadBody (BadShape key))

abbrev pub in_document : BodyKind → List ℕ → Option ℕ → Result Document DocError → Result Call RestError
in_document k ids branch (Ok d) = written (command_in k ids branch d)
in_document k ids branch (Err e) = Err (no_document e)

-- the command that a body asks for
abbrev pub in_body : BodyKind → List ℕ → Option ℕ → List ℕ → Result Call RestError
in_body k ids branch body = in_document k ids branch (reading body)

-- ---- requests

-- the body of a request whose call takes none is ignored
abbrev pub called : List ℕ → Asked → Result Call RestError
called body (asked.Call call) = Ok call
called body (asked.Body k ids branch) = in_body k ids branch body

-- the call of a request
abbrev pub routed : Request → Result Call RestError
routed request = and_then (asked_for request) (called request.body)

-- ---- answers of the code

-- An answer is the defined one, unless memory was wanting.
abbrev pub IsError : {A : Type 0} → RestError → Result A RestError → Type 0
IsError NoRoute expected = expected ≡ Err NoRoute
IsError (NoMethod allowed) expected = expected ≡ Err (NoMethod allowed)
IsError (BadId key) expected = expected ≡ Err (BadId key)
IsError (BadParameter key) expected = expected ≡ Err (BadParameter key)
IsError (BadBody why) expected = expected ≡ Err (BadBody why)
IsError Memory expected = ⊤

abbrev pub Gives : {A : Type 0} → Result A RestError → Result A RestError → Type 0
Gives (Ok a) expected = expected ≡ Ok a
Gives (Err e) expected = IsError e expected

-- a call that writes has a command that can be stored
abbrev pub IsStorableCall : Call → Type 0
IsStorableCall (Write command) = IsStorable command
IsStorableCall (Read call) = ⊤

-- a call can be stored, and a body has the ids of its kind
abbrev pub IsReady : Asked → Type 0
IsReady (asked.Call call) = IsStorableCall call
IsReady (asked.Body k ids branch) = HasIds k ids
