-- The fronts of a stream of bytes.
use Rattle.std.specs.Prelude.{◌≡◌, ◌≢◌, ℕ, ◌+◌, false, List, length, take, drop, map, Option, Some, None, Result, Ok, Err, if◌then◌else◌, nat_le, slice_range}
use Rattle.httparse.specs.Grammar.{RequestHead, ReadsRequest, HasNoRequest, print_request}
use Rattle.httparse.specs.Spans.{name_and_value}
use Rattle.http_wire.specs.declared.head.TheConstants.{HEAD_MOST}
use Rattle.http_wire.specs.declared.error.WireError.{WireError}
use Rattle.http_wire.specs.declared.error.WireError.TheVariants.{BadHead, UnknownCoding, Memory}
use Rattle.http_wire.specs.declared.front.Parts.{Parts}
use Rattle.http_wire.specs.declared.request.Request.{Request}
use Rattle.http_wire.specs.Heads.{IsOpen, IsBroken}
use Rattle.http_wire.specs.Fields.{body_len}

-- a request and how many bytes it takes, an error, or not yet
pub data Front : Type 0 where
  whole : Request → ℕ → Front
  refused : WireError → Front
  not_yet : Front

-- a head is looked for in the first bytes alone
abbrev pub window : List ℕ → List ℕ
window bytes = take HEAD_MOST bytes

-- what stands there: a head, a prefix with which no head begins, or what may become one
pub data HeadFront : Type 0 where
  stands : RequestHead → HeadFront
  broken : HeadFront
  open_yet : HeadFront

-- that is what stands at the start of the bytes
abbrev pub IsHeadFront : List ℕ → HeadFront → Type 0
IsHeadFront bytes (stands h) = (rest : List ℕ) × ReadsRequest (window bytes) h rest
IsHeadFront bytes broken = HasNoRequest (window bytes) × IsBroken (window bytes)
IsHeadFront bytes open_yet = HasNoRequest (window bytes) × IsOpen (window bytes)

-- the request of that head and body; its version is 1.1, and neither the host's URL nor the end of the connection is built
abbrev pub request_of : RequestHead → List ℕ → Request
request_of h body = record { method = h.method; target = h.target; old = false; host = None; close = false; body = body }

-- the front behind a head, where the body has that length, or the form isn't built
abbrev pub front_with : RequestHead → List ℕ → Option ℕ → Front
front_with h bytes None = refused UnknownCoding
front_with h bytes (Some n) =
    let start = length (print_request h) in
    if nat_le (start + n) (length bytes) then whole (request_of h (slice_range bytes start (start + n))) (start + n) else not_yet

-- the front, by what stands there: a head that is open on all bytes in which it is looked for is too long
abbrev pub front_of : HeadFront → List ℕ → Front
front_of (stands h) bytes = front_with h bytes (body_len h.minor (map name_and_value h.fields))
front_of broken bytes = refused BadHead
front_of open_yet bytes = if nat_le HEAD_MOST (length bytes) then refused UnknownCoding else not_yet

-- that is the front of the bytes
abbrev pub IsFront : List ℕ → Front → Type 0
IsFront bytes front = (head : HeadFront) × IsHeadFront bytes head × (front_of head bytes ≡ front)

-- the request stands at the front of the old bytes, and the new ones are what follows it
abbrev pub Takes : List ℕ → Request → List ℕ → Type 0
Takes old request new = (len : ℕ) × IsFront old (whole request len) × (new ≡ drop len old)

-- what the code answers on the front, unless there was no memory
abbrev pub Tells : Result (Option (Request × ℕ)) WireError → (Front → Type 0) → Type 0
Tells (Ok None) P = P not_yet
Tells (Ok (Some found)) P = P (whole found.0 found.1)
Tells (Err e) P = e ≢ Memory → P (refused e)

-- the request of these parts, whose body stands in the bytes
abbrev pub request_at : Parts → List ℕ → Request
request_at parts bytes =
    record { method = parts.method; target = parts.target; old = false; host = None; close = false; body = slice_range bytes parts.head_len parts.len }

-- what the code answers, with the body that stands in the bytes
abbrev pub with_body : List ℕ → Result (Option Parts) WireError → Result (Option (Request × ℕ)) WireError
with_body bytes (Ok None) = Ok None
with_body bytes (Ok (Some parts)) = Ok (Some (request_at parts bytes, parts.len))
with_body bytes (Err e) = Err e
