-- What the bytes in which a head is looked for say of it, in the words of httparse's grammar (RFC 9112, sections 2 to 5).
use Rattle.std.specs.Prelude.{◌≡◌, ◌≢◌, ◌<◌, ℕ, ◌⊎◌, List, [], ◌∷◌, ◌++◌, length, All}
use Rattle.httparse.specs.Ascii.{space, line_feed}
use Rattle.httparse.specs.Grammar.{RequestHead, ReadsRequest, HasNoRequest, MayBecomeRequest, NeverHasRequest}
use Rattle.httparse.specs.Spans.{IsRequestWithin, IsRequestOf}
use Rattle.httparse.specs.declared.spans.HeaderSpan.{HeaderSpan}
use Rattle.httparse.specs.declared.spans.RequestSpans.{RequestSpans}
use Rattle.http_wire.specs.declared.head.TheConstants.{FIELDS_MOST}
use Rattle.http_wire.specs.declared.head.Head.{Head}
use Rattle.http_wire.specs.declared.head.Head.TheVariants as judged
use Rattle.http_wire.specs.declared.head.Parsed.{Parsed}
use Rattle.http_wire.specs.declared.head.Parsed.TheVariants as parse

-- a head begins with these bytes
abbrev pub IsHeadsFront : List ℕ → Type 0
IsHeadsFront bytes = (more : List ℕ) × (h : RequestHead) × ReadsRequest (bytes ++ more) h []

-- no byte is a space
abbrev pub IsUnspaced : List ℕ → Type 0
IsUnspaced bytes = All (λ b. b ≢ space) bytes

-- the last byte is LF
abbrev pub EndsLine : List ℕ → Type 0
EndsLine bytes = (front : List ℕ) × (bytes ≡ front ++ line_feed ∷ [])

-- the two kinds of prefix that are judged: neither ends inside a target
abbrev pub IsJudgedKind : List ℕ → Type 0
IsJudgedKind bytes = IsUnspaced bytes ⊎ EndsLine bytes

-- the bytes begin with the prefix
abbrev pub IsPrefix : List ℕ → List ℕ → Type 0
IsPrefix prefix bytes = (rest : List ℕ) × (bytes ≡ prefix ++ rest)

-- with each prefix of the two kinds a head begins
abbrev pub IsOpen : List ℕ → Type 0
IsOpen bytes = (prefix : List ℕ) → IsPrefix prefix bytes → IsJudgedKind prefix → IsHeadsFront prefix

-- with a prefix of the two kinds no head begins
abbrev pub IsBroken : List ℕ → Type 0
IsBroken bytes = (prefix : List ℕ) × IsPrefix prefix bytes × IsJudgedKind prefix × ¬ (IsHeadsFront prefix)

-- the spans are those of a head at the start of the bytes
abbrev pub IsFoundAt : List ℕ → List HeaderSpan → RequestSpans → Type 0
IsFoundAt bytes spans head = IsRequestWithin bytes spans head × IsRequestOf bytes spans head

-- at the start of the bytes stands a head with more fields than a request may have
abbrev pub HasCrowd : List ℕ → Type 0
HasCrowd bytes = (h : RequestHead) × (rest : List ℕ) × ReadsRequest bytes h rest × (FIELDS_MOST < length h.fields)

-- what the code answers on bytes whose fields don't fit the usual room
abbrev pub IsCrowdedAs : List ℕ → Parsed → Type 0
IsCrowdedAs bytes (parse.Whole head) = ⊥
IsCrowdedAs bytes parse.Crowded = HasCrowd bytes
IsCrowdedAs bytes parse.Partial = HasNoRequest bytes × MayBecomeRequest bytes
IsCrowdedAs bytes parse.Invalid = NeverHasRequest bytes

-- what the code answers on any bytes
abbrev pub IsParsedAs : List ℕ → List HeaderSpan → Parsed → Type 0
IsParsedAs bytes spans (parse.Whole head) = IsFoundAt bytes spans head
IsParsedAs bytes spans parse.Crowded = HasCrowd bytes
IsParsedAs bytes spans parse.Partial = HasNoRequest bytes × MayBecomeRequest bytes
IsParsedAs bytes spans parse.Invalid = NeverHasRequest bytes

-- what the code answers on the bytes in which a head is looked for
abbrev pub IsJudgedAs : List ℕ → List HeaderSpan → Head → Type 0
IsJudgedAs bytes spans (judged.Stands head) = IsFoundAt bytes spans head
IsJudgedAs bytes spans judged.Crowded = HasCrowd bytes
IsJudgedAs bytes spans judged.Broken = HasNoRequest bytes × IsBroken bytes
IsJudgedAs bytes spans judged.Open = HasNoRequest bytes × IsOpen bytes
