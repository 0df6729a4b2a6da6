-- Documents among the JSON values of the crate `serde_json`, whose text and numbers they share.
use Rattle.std.specs.Prelude.{ℕ, List, Option, Some, option_map, option_and_then}
use Rattle.doc_value.specs.Document.{Document, null, truth, whole, text, list, object, Members, no_members, member, Fields, no_fields, field}
use Rattle.serde_json.specs.Data as json
use Rattle.serde_json.specs.Data.{Data}
use Rattle.serde_json.specs.Find.{of_integer, as_integer}
use Rattle.serde_json.specs.Written.{compact_text}

-- A document as a value. Its parts stay in order.
abbrev mutual
  pub data_of : Document → Data
  data_of null = json.null
  data_of (truth b) = json.boolean b
  data_of (whole z) = json.number (of_integer z)
  data_of (text s) = json.string s
  data_of (list ds) = json.array (items_of ds)
  data_of (object fs) = json.object (json_members_of fs)

  pub items_of : Members → json.Items
  items_of no_members = json.no_items
  items_of (member d ds) = json.item (data_of d) (items_of ds)

  pub json_members_of : Fields → json.Members
  json_members_of no_fields = json.no_members
  json_members_of (field k d fs) = json.member k (data_of d) (json_members_of fs)

-- The document that a value is. None where a number in it has no place among documents: `serde_json` keeps one with a fraction or an
-- exponent, `-0`, and one outside -2^63 to 2^64 - 1 as a float.
abbrev mutual
  pub document_of : Data → Option Document
  document_of json.null = Some null
  document_of (json.boolean b) = Some (truth b)
  document_of (json.number n) = option_map whole (as_integer n)
  document_of (json.string s) = Some (text s)
  document_of (json.array ds) = option_map list (members_in ds)
  document_of (json.object ms) = option_map object (fields_in ms)

  pub members_in : json.Items → Option Members
  members_in json.no_items = Some no_members
  members_in (json.item d ds) = option_and_then (λ e. option_map (member e) (members_in ds)) (document_of d)

  pub fields_in : json.Members → Option Fields
  fields_in json.no_members = Some no_fields
  fields_in (json.member k d ms) = option_and_then (λ e. option_map (field k e) (fields_in ms)) (document_of d)

-- The compact text: no space outside texts (RFC 8259, section 2), numbers in decimal, texts with the escapes of `serde_json`, and
-- the fields in the order of the document, which for a proper one is that of the bytes of their names.
abbrev pub compact : Document → List ℕ
compact d = compact_text (data_of d)
