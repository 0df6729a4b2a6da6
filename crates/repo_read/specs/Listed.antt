-- The records of a list, and documents that a list may tell.
use Rattle.std.specs.Prelude.{ℕ, List, Option, Some, None, option_map, ◌<◌}
use Rattle.std.specs.List.{All}
use Rattle.doc_value.specs.Document.{IsSound, depth, max_depth}
use Rattle.doc_value.specs.Seen.{document}
use Rattle.doc_value.specs.declared.doc.Doc.{Doc}
use Rattle.api_records.specs.Records.{project_doc, branch_doc, tag_doc, commit_doc}
use Rattle.entry_codec.specs.declared.call.ReadCall.{ReadCall}
use Rattle.entry_codec.specs.declared.call.ReadCall.TheVariants as call
use Rattle.entry_codec.specs.Histories.{Tables, project_branch, project_tag}
use Rattle.entry_codec.specs.Replies.{commit_on}
use Rattle.repo_state.specs.declared.list.Kind.{Kind}
use Rattle.repo_state.specs.declared.list.Kind.TheVariants as kind
use Rattle.repo_read.specs.declared.listing.Listing.{Listing}
use Rattle.repo_read.specs.declared.listing.Listing.TheVariants.{Projects, Branches, Tags, Commits}

-- sound, and one level below the limit
abbrev pub IsListable : Doc → Type 0
IsListable d = IsSound (document d) × (depth (document d) < max_depth)

-- each is sound, and one level below the limit
abbrev pub AreListable : List Doc → Type 0
AreListable ds = All IsListable ds

-- the call that asks for these records
abbrev pub call_of : Listing → ReadCall
call_of Projects = call.Projects
call_of (Branches p) = call.Branches p
call_of (Tags p) = call.Tags p
call_of (Commits p branch) = call.Commits p branch

-- the kind of these records, and the project whose they are, if they are of one
abbrev pub kind_of : Listing → Kind
kind_of Projects = kind.Projects
kind_of (Branches p) = kind.Branches
kind_of (Tags p) = kind.Tags
kind_of (Commits p branch) = kind.Commits

abbrev pub project_of : Listing → Option ℕ
project_of Projects = None
project_of (Branches p) = Some p
project_of (Tags p) = Some p
project_of (Commits p branch) = Some p

-- the document of the record with this id, if it is among these records
abbrev pub doc_at : Tables → Listing → ℕ → Option Doc
doc_at t Projects id = option_map project_doc (t.project id)
doc_at t (Branches p) id = option_map branch_doc (project_branch t p id)
doc_at t (Tags p) id = option_map tag_doc (project_tag t p id)
doc_at t (Commits p branch) id = option_map commit_doc (commit_on t p branch id)
