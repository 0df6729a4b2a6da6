-- What bytes are read as.
use Rattle.std.specs.Prelude.{◌≡◌, ℕ, List, Option, Some, None, Result, Ok, Err, if◌then◌else◌, nat_lt}
use Rattle.std.specs.Str.{is_utf8}
use Rattle.serde_json.specs.Data.{Data, depth}
use Rattle.serde_json.specs.Read.{read}
use Rattle.doc_value.specs.Document.{Document, max_depth}
use Rattle.doc_value.specs.Data.{document_of}
use Rattle.doc_value.specs.declared.error.DocError.{DocError}
use Rattle.doc_value.specs.declared.error.DocError.TheVariants as errors

-- the value, where all numbers are whole
abbrev pub if_whole : {A : Type 0} → Option A → Result A DocError
if_whole None = Err errors.NotWhole
if_whole (Some d) = Ok d

-- the document of a JSON value that was read, if there is one
abbrev pub if_read : Option Data → Result Document DocError
if_read None = Err errors.Syntax
if_read (Some d) = if nat_lt max_depth (depth d) then Err errors.TooDeep else if_whole (document_of d)

-- The document that bytes are, or the first fault: they are not UTF-8; they are no JSON text (RFC 8259) in the words of `serde_json`,
-- which takes nesting up to 127; the value is deeper than 100; a number is not whole or not in range. Of a name that occurs twice
-- in an object `read` keeps the last value alone, so the others count for neither depth nor numbers.
unfoldable pub reading : List ℕ → Result Document DocError
reading bytes = if is_utf8 bytes then if_read (read bytes) else Err errors.NotUtf8

-- An error that a call gave is the one that is expected, unless memory ran out.
abbrev pub Fails : {Y : Type 0} → DocError → Result Y DocError → Type 0
Fails errors.Memory expected = Unit {0}
Fails errors.NotUtf8 expected = expected ≡ Err errors.NotUtf8
Fails errors.Syntax expected = expected ≡ Err errors.Syntax
Fails errors.TooDeep expected = expected ≡ Err errors.TooDeep
Fails errors.NotWhole expected = expected ≡ Err errors.NotWhole

-- What a call gave, seen by `view`, is what is expected, unless memory ran out.
abbrev pub Gives : {X Y : Type 0} → (X → Y) → Result X DocError → Result Y DocError → Type 0
Gives view (Ok x) expected = expected ≡ Ok (view x)
Gives view (Err e) expected = Fails e expected
