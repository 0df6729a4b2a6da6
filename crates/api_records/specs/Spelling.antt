-- The bytes that spell a command, part by part. Numbers are big-endian.
use Rattle.std.specs.Prelude.{ℕ, List, [], ◌∷◌, ◌++◌, length, Option, Some, None}
use Rattle.std.specs.List.{flat_map}
use Rattle.std.specs.Int.{Width, w32, w128, to_be_bytes}
use Rattle.doc_value.specs.Data.{compact}
use Rattle.doc_value.specs.Seen.{document}
use Rattle.doc_value.specs.declared.doc.Doc.{Doc}
use Rattle.api_records.specs.declared.command.Change.{Change}
use Rattle.api_records.specs.declared.command.Command.{Command}
use Rattle.api_records.specs.declared.command.Command.TheVariants.{CreateProject, UpdateProject, DeleteProject, CreateCommit, CreateBranch, DeleteBranch, CreateTag, DeleteTag}

-- a number in the bytes of its width
unfoldable pub number_bytes : Width → ℕ → List ℕ
number_bytes w n = to_be_bytes w n

-- 00 where there is nothing, and 01 before what there is
abbrev pub optional : {A : Type 0} → (A → List ℕ) → Option A → List ℕ
optional spell None = 0 ∷ []
optional spell (Some a) = 1 ∷ spell a

-- a count of four bytes, and the members
abbrev pub list_bytes : {A : Type 0} → (A → List ℕ) → List A → List ℕ
list_bytes spell xs = number_bytes w32 (length xs) ++ flat_map spell xs

-- a length of four bytes, and the bytes of the text
abbrev pub text_bytes : List ℕ → List ℕ
text_bytes s = number_bytes w32 (length s) ++ s

abbrev pub id_bytes : ℕ → List ℕ
id_bytes id = number_bytes w128 id

-- the compact text of a document
abbrev pub document_bytes : Doc → List ℕ
document_bytes d = text_bytes (compact (document d))

-- an identity and a payload, where they are given
abbrev pub change_bytes : Change → List ℕ
change_bytes c = optional id_bytes c.identity ++ optional document_bytes c.payload

-- a tag and the fields, a row a command
abbrev pub command_bytes : Command → List ℕ
command_bytes (CreateProject name description) = 1 ∷ (optional text_bytes name ++ optional text_bytes description)
command_bytes (UpdateProject project name description branch) =
    2 ∷ (id_bytes project ++ (optional text_bytes name ++ (optional text_bytes description ++ optional id_bytes branch)))
command_bytes (DeleteProject project) = 3 ∷ id_bytes project
command_bytes (CreateCommit project branch previous description changes) =
    4 ∷ (id_bytes project
    ++ (optional id_bytes branch
    ++ (list_bytes id_bytes previous
    ++ (optional text_bytes description
    ++ list_bytes change_bytes changes))))
command_bytes (CreateBranch project name head) = 5 ∷ (id_bytes project ++ (optional text_bytes name ++ optional id_bytes head))
command_bytes (DeleteBranch project branch) = 6 ∷ (id_bytes project ++ id_bytes branch)
command_bytes (CreateTag project name commit) = 7 ∷ (id_bytes project ++ (optional text_bytes name ++ id_bytes commit))
command_bytes (DeleteTag project tag) = 8 ∷ (id_bytes project ++ id_bytes tag)
