use Rattle.std.proofs.Common.{◌≡◌, drop, length}
use Rattle.doc_value.specs.Document.{members_of}
use Rattle.doc_value.specs.Seen.{documents}
use Rattle.api_records.specs.Bodies.{changes_in}
use Rattle.api_records.proofs.BodyLemmas.{behind}
use Rattle.api_records.proofs.body.changes.changes_of.Given as goal

-- the changes so far and those of the rest are all
abbrev pub invariant-loop-doc : goal.invariant-loop-doc
invariant-loop-doc l = record {
  all : behind l.changes.items (changes_in (members_of (documents (drop l.doc-index l.docs)))) ≡ changes_in (members_of (documents l.docs));
  as_many : length l.changes.items ≡ l.doc-index;
}
