-- Which entries are stored.
use Rattle.std.specs.Prelude.{ℕ, ◌<◌, ◌^◌, IfSome, IsUtf8, ⊤}
use Rattle.std.specs.List.{All}
use Rattle.sysapi_base.specs.declared.moment.TheConstants.{END}
use Rattle.doc_value.specs.Document.{IsProper}
use Rattle.doc_value.specs.Seen.{document}
use Rattle.doc_value.specs.declared.doc.Doc.{Doc}
use Rattle.api_records.specs.Storable.{IsStorable, IsPayload}
use Rattle.api_records.specs.declared.command.Change.{Change}
use Rattle.api_records.specs.declared.command.Command.{Command}
use Rattle.api_records.specs.declared.command.Command.TheVariants.{CreateProject, UpdateProject, DeleteProject, CreateCommit, CreateBranch, DeleteBranch, CreateTag, DeleteTag}
use Rattle.entry_codec.specs.declared.entry.Entry.{Entry}

-- An entry can be stored where its command can.
abbrev pub IsEntry : Entry → Type 0
IsEntry e = IsStorable e.command

-- ---- what is true of the parts of any entry, by their types

-- the number of an id has 128 bits
abbrev pub IsId : ℕ → Type 0
IsId n = n < 2 ^ 128

abbrev pub HasProperPayload : Change → Type 0
HasProperPayload c = IfSome c.payload (λ d. IsProper (document d))

abbrev pub HasProperIdentity : Change → Type 0
HasProperIdentity c = IfSome c.identity IsId

-- ids have 128 bits, texts are UTF-8, and documents are proper
abbrev pub HasProperParts : Command → Type 0
HasProperParts (CreateProject name description) = IfSome name IsUtf8 × IfSome description IsUtf8
HasProperParts (UpdateProject project name description branch) = IsId project × IfSome name IsUtf8 × IfSome description IsUtf8 × IfSome branch IsId
HasProperParts (DeleteProject project) = IsId project
HasProperParts (CreateCommit project branch previous description changes) =
    IsId project
    × IfSome branch IsId
    × All IsId previous
    × IfSome description IsUtf8
    × All HasProperIdentity changes
    × All HasProperPayload changes
HasProperParts (CreateBranch project name head) = IsId project × IfSome name IsUtf8 × IfSome head IsId
HasProperParts (DeleteBranch project branch) = IsId project × IsId branch
HasProperParts (CreateTag project name commit) = IsId project × IfSome name IsUtf8 × IsId commit
HasProperParts (DeleteTag project tag) = IsId project × IsId tag

-- the moment is before the year 10000 as well
abbrev pub IsProperEntry : Entry → Type 0
IsProperEntry e = (e.moment < END) × HasProperParts e.command

-- ---- payloads that were read

abbrev pub IsKept : Doc → Type 0
IsKept d = IsPayload (document d) × IsProper (document d)

abbrev pub HasKeptPayload : Change → Type 0
HasKeptPayload c = IfSome c.payload IsKept

-- each payload of a commit is right
abbrev pub HasKeptPayloads : Command → Type 0
HasKeptPayloads (CreateCommit project branch previous description changes) = All HasKeptPayload changes
HasKeptPayloads other = ⊤
