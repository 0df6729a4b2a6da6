-- Commands that can be stored.
use Rattle.std.specs.Prelude.{◌≤◌, ◌+◌, ◌<◌, ◌^◌, ℕ, length, Option, Some, None, IsSome, codes, ⊤}
use Rattle.std.specs.List.{All}
use Rattle.doc_value.specs.Document.{Document, object, IsSound, depth, field_at}
use Rattle.doc_value.specs.Reference.{reference}
use Rattle.doc_value.specs.Seen.{document}
use Rattle.doc_value.specs.declared.doc.Doc.{Doc}
use Rattle.api_records.specs.Spelling.{command_bytes}
use Rattle.api_records.specs.declared.command.Command.{Command}
use Rattle.api_records.specs.declared.command.Command.TheVariants.{CreateCommit}

-- the deepest payload of a body that keeps the limit of 100: it stands three levels down, in the body, `change` and a member of it
abbrev pub payload_depth : ℕ
payload_depth = 97

abbrev pub IsObject : Document → Type 0
IsObject (object fs) = ⊤
IsObject other = ⊥

-- the `@id`, if there is one, is an id's text
abbrev pub HasRightId : Document → Type 0
HasRightId d = IsSome (field_at (codes "@id") d) → IsSome (reference d)

-- a payload is a sound object, not too deep for a record that tells it, with a right `@id`
pub record IsPayload (d : Document) : Type 0 where
  pub is_object : IsObject d
  pub sound : IsSound d
  pub shallow : depth d ≤ payload_depth
  pub named : HasRightId d

abbrev pub IsStored : Option Doc → Type 0
IsStored None = ⊤
IsStored (Some d) = IsPayload (document d)

-- each payload of a commit is right, and its changes are so few that each place is a number of 32 bits
abbrev pub HasRightParts : Command → Type 0
HasRightParts (CreateCommit project branch previous description changes) = All (λ c. IsStored c.payload) changes × (length changes < 2 ^ 32)
HasRightParts other = ⊤

-- An entry has at most 2^27 bytes: the moment in 8, and the command.
abbrev pub IsShort : Command → Type 0
IsShort c = 8 + length (command_bytes c) ≤ 2 ^ 27

-- A command can be stored exactly where its entry can.
abbrev pub IsStorable : Command → Type 0
IsStorable c = HasRightParts c × IsShort c

-- the second half of right parts
abbrev pub HasFew : Command → Type 0
HasFew (CreateCommit project branch previous description changes) = length changes < 2 ^ 32
HasFew other = ⊤

-- the payload of a version, if there is one, fits into its record
abbrev pub IsShallow : Option Doc → Type 0
IsShallow None = ⊤
IsShallow (Some d) = IsSound (document d) × (depth (document d) ≤ payload_depth)
