use Rattle.std.proofs.Common.{◌≡◌, drop}
use Rattle.doc_value.specs.Document.{members_of, fields_of}
use Rattle.doc_value.specs.Seen.{documents, all_named}
use Rattle.doc_value.specs.Within.{are_within, fields_are_within}
use Rattle.doc_value.proofs.doc.within.+within.Given as goal

-- all are within the limit as the rest are
abbrev pub invariant-are_docs_within-loop-doc : goal.invariant-are_docs_within-loop-doc
invariant-are_docs_within-loop-doc l =
    are_within l.limit (members_of (documents (drop l.doc-index l.doc-items))) ≡ are_within l.limit (members_of (documents l.doc-items))

abbrev pub invariant-are_named_within-loop-doc : goal.invariant-are_named_within-loop-doc
invariant-are_named_within-loop-doc l =
    fields_are_within l.limit (fields_of (all_named l.doc-iterator)) ≡ fields_are_within l.limit (fields_of (all_named l.docs.entries))
