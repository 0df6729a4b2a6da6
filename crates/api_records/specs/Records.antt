-- The documents of records, their keys in the order of their bytes (Systems Modeling API 1.0, the record kinds of its PIM).
use Rattle.std.specs.Prelude.{ℕ, [], ◌∷◌, Option, Some, None, codes}
use Rattle.sysapi_base.specs.Id.{id_text}
use Rattle.sysapi_base.specs.Moment.{moment_text}
use Rattle.doc_value.specs.Document.{Document, null, text, text_or_null, object, field, no_fields}
use Rattle.doc_value.specs.Seen.{document}
use Rattle.doc_value.specs.declared.doc.Doc.{Doc}
use Rattle.doc_value.specs.declared.doc.Doc.TheVariants as doc
use Rattle.api_records.specs.declared.record.Project.{Project}
use Rattle.api_records.specs.declared.record.Branch.{Branch}
use Rattle.api_records.specs.declared.record.Tag.{Tag}
use Rattle.api_records.specs.declared.record.Commit.{Commit}
use Rattle.api_records.specs.declared.record.Version.{Version}

-- an object with the one key `@id`
abbrev pub reference_to : ℕ → Document
reference_to id = object (field (codes "@id") (text (id_text id)) no_fields)

abbrev pub reference_or_null : Option ℕ → Document
reference_or_null None = null
reference_or_null (Some id) = reference_to id

abbrev pub project_doc : Project → Doc
project_doc p = doc.Object (
    (codes "@id", text (id_text p.id))
    ∷ (codes "@type", text (codes "Project"))
    ∷ (codes "created", text (moment_text p.created))
    ∷ (codes "defaultBranch", reference_to p.default_branch)
    ∷ (codes "description", text_or_null p.description)
    ∷ (codes "name", text_or_null p.name)
    ∷ [])

-- `referencedCommit` is the head under another name
abbrev pub branch_doc : Branch → Doc
branch_doc b = doc.Object (
    (codes "@id", text (id_text b.id))
    ∷ (codes "@type", text (codes "Branch"))
    ∷ (codes "created", text (moment_text b.created))
    ∷ (codes "head", reference_or_null b.head)
    ∷ (codes "name", text_or_null b.name)
    ∷ (codes "owningProject", reference_to b.project)
    ∷ (codes "referencedCommit", reference_or_null b.head)
    ∷ [])

-- `referencedCommit` and `taggedCommit` are the one commit under two names
abbrev pub tag_doc : Tag → Doc
tag_doc t = doc.Object (
    (codes "@id", text (id_text t.id))
    ∷ (codes "@type", text (codes "Tag"))
    ∷ (codes "created", text (moment_text t.created))
    ∷ (codes "name", text_or_null t.name)
    ∷ (codes "owningProject", reference_to t.project)
    ∷ (codes "referencedCommit", reference_to t.commit)
    ∷ (codes "taggedCommit", reference_to t.commit)
    ∷ [])

abbrev pub commit_doc : Commit → Doc
commit_doc c = doc.Object (
    (codes "@id", text (id_text c.id))
    ∷ (codes "@type", text (codes "Commit"))
    ∷ (codes "created", text (moment_text c.created))
    ∷ (codes "description", text_or_null c.description)
    ∷ (codes "owningProject", reference_to c.project)
    ∷ (codes "previousCommit", reference_or_null c.previous)
    ∷ [])

-- the identity of a datum (Systems Modeling API 1.0, DataIdentity)
abbrev pub identity_of : ℕ → Document
identity_of id = object (field (codes "@id") (text (id_text id)) (field (codes "@type") (text (codes "DataIdentity")) no_fields))

abbrev pub payload_or_null : Option Doc → Document
payload_or_null None = null
payload_or_null (Some d) = document d

abbrev pub version_doc : Version → Doc
version_doc v = doc.Object (
    (codes "@id", text (id_text v.id))
    ∷ (codes "@type", text (codes "DataVersion"))
    ∷ (codes "identity", identity_of v.identity)
    ∷ (codes "payload", payload_or_null v.payload)
    ∷ [])

-- the depth of a record's document is at most this: a payload stands one level down in its version, and all other records are flatter
abbrev pub record_depth : ℕ
record_depth = 98
