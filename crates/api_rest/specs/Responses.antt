-- The responses to requests: the status, and the body as the compact text of a document (RFC 9110, section 15; RFC 8259).
use Rattle.std.specs.Prelude.{ℕ, pos, Bool, true, false, List, [], ◌∷◌, Some, None, codes, bytes_eq}
use Rattle.doc_value.specs.Document.{Document, text, whole}
use Rattle.doc_value.specs.Data.{compact}
use Rattle.doc_value.specs.Seen.{document}
use Rattle.doc_value.specs.declared.doc.Doc.{Doc}
use Rattle.doc_value.specs.declared.doc.Doc.TheVariants as doc
use Rattle.http_wire.specs.declared.request.Request.{Request}
use Rattle.http_wire.specs.declared.response.Response.{Response}
use Rattle.http_wire.specs.declared.error.WireError.{WireError}
use Rattle.http_wire.specs.declared.error.WireError.TheVariants as wire
use Rattle.api_records.specs.Records.{reference_or_null}
use Rattle.api_records.specs.Refusals.{refusal_text}
use Rattle.api_records.specs.declared.refusal.Refusal.{Refusal}
use Rattle.api_records.specs.declared.refusal.Refusal.TheVariants.{UnknownProject, UnknownBranch, UnknownTag, UnknownCommit, HeadMoved, DefaultBranch, MultiplePrevious, IdentityMismatch, IdentityTwice, DeleteUnknown, UnknownPin, UnknownElement, UnknownChange}
use Rattle.entry_codec.specs.declared.reply.Reply.{Reply}
use Rattle.entry_codec.specs.declared.reply.Reply.TheVariants.{Made, Found, Page, Refused}
use Rattle.api_rest.specs.declared.error.BodyError.{BodyError}
use Rattle.api_rest.specs.declared.error.BodyError.TheVariants.{BadJson, NotWhole, TooDeep, BadShape}
use Rattle.api_rest.specs.declared.error.RestError.{RestError}
use Rattle.api_rest.specs.declared.error.RestError.TheVariants.{NoRoute, NoMethod, BadId, BadParameter, BadBody, Memory}

-- ---- errors

-- The document that tells an error of this name: `@type`, `error`, and what else is told, which stands behind them in byte order.
abbrev pub error_doc : List ℕ → List (List ℕ × Document) → Doc
error_doc name more = doc.Object ((codes "@type", text (codes "Error")) ∷ (codes "error", text name) ∷ more)

abbrev pub told : List ℕ → Document → List (List ℕ × Document)
told key value = (key, value) ∷ []

abbrev pub place_told : ℕ → List (List ℕ × Document)
place_told place = told (codes "place") (whole (pos place))

-- what a refusal tells besides its name
abbrev pub refusal_told : Refusal → List (List ℕ × Document)
refusal_told (HeadMoved head) = told (codes "head") (reference_or_null head)
refusal_told (IdentityMismatch place) = place_told place
refusal_told (IdentityTwice place) = place_told place
refusal_told (DeleteUnknown place) = place_told place
refusal_told (UnknownPin place) = place_told place
refusal_told other = []

-- 404 where something isn't there, 409 where the repository is in another state than the command supposes, 400 for all else
abbrev pub refusal_status : Refusal → ℕ
refusal_status UnknownProject = 404
refusal_status UnknownBranch = 404
refusal_status UnknownTag = 404
refusal_status UnknownCommit = 404
refusal_status (HeadMoved head) = 409
refusal_status DefaultBranch = 409
refusal_status MultiplePrevious = 400
refusal_status (IdentityMismatch place) = 400
refusal_status (IdentityTwice place) = 400
refusal_status (DeleteUnknown place) = 409
refusal_status (UnknownPin place) = 409
refusal_status UnknownElement = 404
refusal_status UnknownChange = 404

abbrev pub refusal_doc : Refusal → Doc
refusal_doc why = error_doc (refusal_text why) (refusal_told why)

-- ---- replies

-- created 201 Created, found 200 OK, or the refusal's
abbrev pub reply_status : Reply → ℕ
reply_status (Made d) = 201
reply_status (Found d) = 200
reply_status (Page members) = 200
reply_status (Refused why) = refusal_status why

abbrev pub reply_doc : Reply → Doc
reply_doc (Made d) = d
reply_doc (Found d) = d
reply_doc (Page members) = doc.List members
reply_doc (Refused why) = refusal_doc why

-- a response to HEAD has no body (RFC 9110, section 9.3.2)
abbrev pub is_head : Request → Bool
is_head request = bytes_eq request.method (codes "HEAD")

-- a response to this request with this status and document
abbrev pub response_with : Request → ℕ → ℕ → Doc → Response
response_with request moment status body =
    record { status = status; moment = moment; allow = None; close = request.close; no_body = is_head request; body = compact (document body) }

abbrev pub reply_response : Request → ℕ → Reply → Response
reply_response request moment reply = response_with request moment (reply_status reply) (reply_doc reply)

-- ---- requests that ask for no call

abbrev pub body_doc : BodyError → Doc
body_doc BadJson = error_doc (codes "bad-json") []
body_doc NotWhole = error_doc (codes "not-whole") []
body_doc TooDeep = error_doc (codes "too-deep") []
body_doc (BadShape key) = error_doc (codes "bad-body") (told (codes "key") (text key))

-- the response that tells which methods the target takes (RFC 9110, section 15.5.6)
abbrev pub not_allowed : Request → ℕ → List ℕ → Response
not_allowed request moment allowed = record (response_with request moment 405 (error_doc (codes "no-method") [])) { allow = Some allowed }

-- want of memory has no response of its own here: it is answered by a fixed text
abbrev pub rest_response : Request → ℕ → RestError → Response
rest_response request moment NoRoute = response_with request moment 404 (error_doc (codes "no-route") [])
rest_response request moment (NoMethod allowed) = not_allowed request moment allowed
rest_response request moment (BadId key) = response_with request moment 400 (error_doc (codes "bad-id") (told (codes "key") (text key)))
rest_response request moment (BadParameter key) = response_with request moment 400 (error_doc (codes "bad-parameter") (told (codes "key") (text key)))
rest_response request moment (BadBody why) = response_with request moment 400 (body_doc why)
rest_response request moment Memory = response_with request moment 503 (error_doc (codes "memory") [])

-- the response to a front that is no request, after which the connection ends
abbrev pub closing : ℕ → ℕ → List ℕ → Response
closing moment status name =
    record { status = status; moment = moment; allow = None; close = true; no_body = false; body = compact (document (error_doc name [])) }

abbrev pub wire_response : WireError → ℕ → Response
wire_response wire.BadHead moment = closing moment 400 (codes "bad-head")
wire_response wire.UnknownCoding moment = closing moment 501 (codes "unknown-coding")
wire_response wire.Memory moment = closing moment 503 (codes "memory")
