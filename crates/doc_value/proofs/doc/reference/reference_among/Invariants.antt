use Rattle.std.proofs.Common.{◌≡◌, drop, slice_get}
use Rattle.doc_value.specs.Document.{members_of}
use Rattle.doc_value.specs.Seen.{documents}
use Rattle.doc_value.specs.Reference.{references_among}
use Rattle.doc_value.proofs.doc.reference.reference_among.Given as goal

-- among the rest it is the one with so many before it
abbrev pub invariant-loop-doc : goal.invariant-loop-doc
invariant-loop-doc l = slice_get (references_among (members_of (documents (drop l.doc-index l.doc-items)))) l.before ≡ slice_get (references_among (members_of (documents l.doc-items))) l.i
