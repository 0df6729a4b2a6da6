-- The bytes of a response (RFC 9112, sections 2.1 and 4).
use Rattle.std.specs.Prelude.{◌≡◌, ◌⊎◌, ℕ, List, [], ◌++◌, length, Bool, Option, Some, None, IsSome, unwrap_or, decimal, codes, ◌==◌, if◌then◌else◌}
use Rattle.http_wire.specs.declared.response.Response.{Response}
use Rattle.http_wire.specs.Dates.{http_date}

-- the phrase of a status: that of RFC 9110, section 15, but for 413, which has its older one; of RFC 6585 for 431 and RFC 4918 for 507
abbrev pub phrase : ℕ → Option (List ℕ)
phrase status =
    if status == 200 then Some (codes "OK") else (
    if status == 201 then Some (codes "Created") else (
    if status == 400 then Some (codes "Bad Request") else (
    if status == 403 then Some (codes "Forbidden") else (
    if status == 404 then Some (codes "Not Found") else (
    if status == 405 then Some (codes "Method Not Allowed") else (
    if status == 409 then Some (codes "Conflict") else (
    if status == 413 then Some (codes "Payload Too Large") else (
    if status == 431 then Some (codes "Request Header Fields Too Large") else (
    if status == 500 then Some (codes "Internal Server Error") else (
    if status == 501 then Some (codes "Not Implemented") else (
    if status == 503 then Some (codes "Service Unavailable") else (
    if status == 507 then Some (codes "Insufficient Storage") else None))))))))))))

-- the table has the status
abbrev pub HasPhrase : ℕ → Type 0
HasPhrase status = IsSome (phrase status)

abbrev pub line_end : List ℕ
line_end = codes "\r\n"

-- `HTTP/1.1 200 OK`
abbrev pub status_line : ℕ → List ℕ
status_line status = codes "HTTP/1.1 " ++ decimal status ++ codes " " ++ unwrap_or (phrase status) [] ++ line_end

-- the fields that each response has: when it was made, and of which type and how long its body is
abbrev pub date_line : ℕ → List ℕ
date_line moment = codes "Date: " ++ http_date moment ++ line_end

abbrev pub type_line : List ℕ
type_line = codes "Content-Type: application/json" ++ line_end

abbrev pub length_line : ℕ → List ℕ
length_line size = codes "Content-Length: " ++ decimal size ++ line_end

-- the line of the methods that the target takes, where the response tells them
abbrev pub allow_line : Option (List ℕ) → List ℕ
allow_line None = []
allow_line (Some methods) = codes "Allow: " ++ methods ++ line_end

-- the line that says that the connection ends after the response, where it does
abbrev pub close_line : Bool → List ℕ
close_line close = if close then codes "Connection: close" ++ line_end else []

-- the bytes sent behind the head: none for a response that has no body, which still tells its length
abbrev pub sent_body : Response → List ℕ
sent_body response = if response.no_body then [] else response.body

-- the text of a response: the line of its status, the lines of its fields, an empty line and the body
unfoldable pub response_text : Response → List ℕ
response_text response =
    status_line response.status
    ++ date_line response.moment
    ++ type_line
    ++ length_line (length response.body)
    ++ allow_line response.allow
    ++ close_line response.close
    ++ line_end
    ++ sent_body response

-- the statuses whose responses are made without memory: the keeper failed, no memory was found, or the keeper is full
abbrev pub IsFixedStatus : ℕ → Type 0
IsFixedStatus status = (status ≡ 500) ⊎ ((status ≡ 503) ⊎ (status ≡ 507))

-- which of these failures the body tells
abbrev pub fixed_error : ℕ → List ℕ
fixed_error status = if status == 500 then codes "device" else (if status == 503 then codes "memory" else codes "full")

abbrev pub fixed_body : ℕ → List ℕ
fixed_body status = codes "{\"@type\":\"Error\",\"error\":\"" ++ fixed_error status ++ codes "\"}"

-- the text of the response with that body
unfoldable pub fixed_text : ℕ → ℕ → Bool → Bool → List ℕ
fixed_text status moment close no_body =
    response_text (record { status = status; moment = moment; allow = None; close = close; no_body = no_body; body = fixed_body status })
