-- The bytes that answer requests.
use Rattle.std.specs.Prelude.{ℕ, true, false, List, Result, Ok, Err}
use Rattle.http_wire.specs.declared.request.Request.{Request}
use Rattle.http_wire.specs.declared.error.WireError.{WireError}
use Rattle.http_wire.specs.declared.error.WireError.TheVariants as wire
use Rattle.http_wire.specs.Responses.{response_text, fixed_text}
use Rattle.entry_codec.specs.declared.entry.Entry.{Entry}
use Rattle.entry_codec.specs.declared.call.Call.{Call}
use Rattle.entry_codec.specs.declared.reply.Reply.{Reply}
use Rattle.entry_codec.specs.Replies.{reply}
use Rattle.api_rest.specs.declared.error.RestError.{RestError}
use Rattle.api_rest.specs.declared.error.RestError.TheVariants.{Memory}
use Rattle.api_rest.specs.Routes.{routed}
use Rattle.api_rest.specs.Responses.{is_head, reply_response, rest_response, wire_response}

abbrev pub reply_text : Request → ℕ → Reply → List ℕ
reply_text request moment r = response_text (reply_response request moment r)

-- the text of a fixed response to this request: 500, 503 or 507
abbrev pub fixed_for : ℕ → Request → ℕ → List ℕ
fixed_for status request moment = fixed_text status moment request.close (is_head request)

-- No request is routed to want of memory, which the code alone may answer.
abbrev pub error_text : Request → ℕ → RestError → List ℕ
error_text request moment Memory = fixed_for 503 request moment
error_text request moment error = response_text (rest_response request moment error)

-- the text that answers a routed request at a history, whose newest entry stands first
abbrev pub text_of : ℕ → List Entry → Request → ℕ → Result Call RestError → List ℕ
text_of r past request moment (Ok call) = reply_text request moment (reply r past moment call)
text_of r past request moment (Err error) = error_text request moment error

abbrev pub response_to : ℕ → List Entry → Request → ℕ → List ℕ
response_to r past request moment = text_of r past request moment (routed request)

-- the text that answers a front that is no request, and ends the session
abbrev pub wire_text : WireError → ℕ → List ℕ
wire_text wire.Memory moment = fixed_text 503 moment true false
wire_text error moment = response_text (wire_response error moment)
