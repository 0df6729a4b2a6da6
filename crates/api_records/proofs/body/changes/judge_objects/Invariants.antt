use Rattle.std.proofs.Common.{◌≡◌, drop, codes}
use Rattle.doc_value.specs.Document.{members_of}
use Rattle.doc_value.specs.Seen.{documents}
use Rattle.api_records.specs.Bodies.{all_objects}
use Rattle.api_records.proofs.body.changes.judge_objects.Given as goal

-- all are judged as the rest is
abbrev pub invariant-loop-doc : goal.invariant-loop-doc
invariant-loop-doc l =
    all_objects (codes "change") (members_of (documents (drop l.doc-index l.docs))) ≡ all_objects (codes "change") (members_of (documents l.docs))
