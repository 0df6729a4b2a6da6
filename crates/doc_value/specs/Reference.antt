-- References among documents.
use Rattle.std.specs.Prelude.{ℕ, List, [], ◌∷◌, Option, Some, None, option_and_then, codes}
use Rattle.sysapi_base.specs.Id.{id_of}
use Rattle.doc_value.specs.Document.{Document, text, list, Members, no_members, member, field_at}

-- the text that a document is, if it is one
abbrev pub text_in : Document → Option (List ℕ)
text_in (text s) = Some s
text_in other = None

-- A reference is an object whose `@id` is an id's text. This is the id. It may have other fields as well.
abbrev pub reference : Document → Option ℕ
reference d = option_and_then id_of (option_and_then text_in (field_at (codes "@id") d))

-- an id, where there is one, before others
abbrev pub if_one : Option ℕ → List ℕ → List ℕ
if_one None ids = ids
if_one (Some id) ids = id ∷ ids

-- the ids of those members that are references, in order
abbrev pub references_among : Members → List ℕ
references_among no_members = []
references_among (member d ds) = if_one (reference d) (references_among ds)

-- The ids that a document refers to: of a list those of its members that are references, of a reference its id, of any other none.
-- A list within a list is no reference.
abbrev pub references : Document → List ℕ
references (list ds) = references_among ds
references other = if_one (reference other) []
