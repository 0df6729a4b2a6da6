-- The documents of records are sound, and not too deep for a list of them.
use Rattle.std.proofs.Common.{ℕ, List, Option, Some, None, ◌≤◌, arith, lit≤}
use Rattle.doc_value.specs.Document.{Document, text, text_or_null, object, Fields, no_fields, field, depth, fields_depth, HasRange, FieldsHaveRange, IsSound}
use Rattle.doc_value.specs.Seen.{document}
use Rattle.doc_value.specs.declared.doc.Doc.{Doc}
use Rattle.api_records.specs.Records.{reference_to, reference_or_null, identity_of, payload_or_null, project_doc, branch_doc, tag_doc, commit_doc, version_doc, record_depth}
use Rattle.api_records.specs.Storable.{IsShallow}
use Rattle.api_records.specs.declared.record.Project.{Project}
use Rattle.api_records.specs.declared.record.Branch.{Branch}
use Rattle.api_records.specs.declared.record.Tag.{Tag}
use Rattle.api_records.specs.declared.record.Commit.{Commit}
use Rattle.api_records.specs.declared.record.Version.{Version}

-- a document that may be a field of a record
record IsPart (d : Document) : Type 0 where
  range : HasRange d
  shallow : depth d ≤ 97

record AreParts (fs : Fields) : Type 0 where
  range : FieldsHaveRange fs
  shallow : fields_depth fs ≤ 97

none : AreParts no_fields
none = record { range = tt; shallow = lit≤ tt }

one : {k : List ℕ} {d : Document} {fs : Fields} → IsPart d → AreParts fs → AreParts (field k d fs)
one p ps = record { range = (p.range, ps.range); shallow = omega (arith, p.shallow, ps.shallow) }

-- a record's document
pub record IsTold (d : Document) : Type 0 where
  pub sound : IsSound d
  pub shallow : depth d ≤ record_depth

whole : {fs : Fields} → AreParts fs → IsTold (object fs)
whole ps = record { sound = record { range = ps.range; shallow = omega (arith, ps.shallow) }; shallow = omega (arith, ps.shallow) }

text_part : (s : List ℕ) → IsPart (text s)
text_part s = record { range = tt; shallow = lit≤ tt }

optional_part : (s : Option (List ℕ)) → IsPart (text_or_null s)
optional_part None = record { range = tt; shallow = lit≤ tt }
optional_part (Some s) = text_part s

reference_part : (id : ℕ) → IsPart (reference_to id)
reference_part id = record { range = (tt, tt); shallow = lit≤ tt }

reference_or_null_part : (id : Option ℕ) → IsPart (reference_or_null id)
reference_or_null_part None = record { range = tt; shallow = lit≤ tt }
reference_or_null_part (Some id) = reference_part id

identity_part : (id : ℕ) → IsPart (identity_of id)
identity_part id = record { range = (tt, (tt, tt)); shallow = lit≤ tt }

payload_part : (payload : Option Doc) → IsShallow payload → IsPart (payload_or_null payload)
payload_part None h = record { range = tt; shallow = lit≤ tt }
payload_part (Some d) h = record { range = h.0.range; shallow = h.1 }

pub project_told : (p : Project) → IsTold (document (project_doc p))
project_told p =
    whole (one (text_part _) (one (text_part _) (one (text_part _) (one (reference_part p.default_branch) (one (optional_part p.description)
    (one (optional_part p.name) none))))))

pub branch_told : (b : Branch) → IsTold (document (branch_doc b))
branch_told b =
    whole (one (text_part _) (one (text_part _) (one (text_part _) (one (reference_or_null_part b.head) (one (optional_part b.name)
    (one (reference_part b.project) (one (reference_or_null_part b.head) none)))))))

pub tag_told : (t : Tag) → IsTold (document (tag_doc t))
tag_told t =
    whole (one (text_part _) (one (text_part _) (one (text_part _) (one (optional_part t.name) (one (reference_part t.project)
    (one (reference_part t.commit) (one (reference_part t.commit) none)))))))

pub commit_told : (c : Commit) → IsTold (document (commit_doc c))
commit_told c =
    whole (one (text_part _) (one (text_part _) (one (text_part _) (one (optional_part c.description) (one (reference_part c.project)
    (one (reference_or_null_part c.previous) none))))))

pub version_told : (v : Version) → IsShallow v.payload → IsTold (document (version_doc v))
version_told v h = whole (one (text_part _) (one (text_part _) (one (identity_part v.identity) (one (payload_part v.payload h) none))))
