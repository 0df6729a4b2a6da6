use Rattle.std.proofs.Common.{◌≡◌, drop}
use Rattle.doc_value.specs.Document.{members_of}
use Rattle.doc_value.specs.Seen.{documents}
use Rattle.api_records.specs.Bodies.{all_references}
use Rattle.api_records.proofs.BodyLemmas.{behind}
use Rattle.api_records.proofs.body.parts.references_of.Given as goal

-- the ids so far and those of the rest are all
abbrev pub invariant-loop-doc : goal.invariant-loop-doc
invariant-loop-doc l =
    behind l.ids.items (all_references l.key (members_of (documents (drop l.doc-index l.docs)))) ≡ all_references l.key (members_of (documents l.docs))
