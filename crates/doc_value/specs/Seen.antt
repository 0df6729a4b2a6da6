-- The plain documents that the types of the code are seen as.
use Rattle.std.specs.Prelude.{ℕ, List, map, String, string_bytes}
use Rattle.std.specs.declared.alloc.Global.{Global}
use Rattle.doc_value.specs.Document.{Document, null, truth, whole, text, list, object, members_of, fields_of}
use Rattle.doc_value.specs.declared.doc.Doc.{Doc}
use Rattle.doc_value.specs.declared.doc.Doc.TheVariants as doc

-- a `Doc` as a document
abbrev pub document : Doc → Document
document doc.Null = null
document (doc.Bool b) = truth b
document (doc.Whole z) = whole z
document (doc.Text s) = text s
document (doc.List ds) = list (members_of ds)
document (doc.Object es) = object (fields_of es)

-- `Doc`s as documents
abbrev pub documents : List Doc → List Document
documents = map document

-- an entry of a map of `Doc`s, as a name and a document
abbrev pub named : String Global × Doc → List ℕ × Document
named e = (string_bytes e.0, document e.1)

-- the entries of such a map
abbrev pub all_named : List (String Global × Doc) → List (List ℕ × Document)
all_named = map named
