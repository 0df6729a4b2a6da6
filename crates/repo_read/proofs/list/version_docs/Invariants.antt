use Rattle.std.proofs.Common.{◌≡◌, take, map}
use Rattle.api_records.specs.Records.{version_doc}
use Rattle.repo_read.specs.Listed.{AreListable}
use Rattle.repo_read.proofs.list.version_docs.Given as goal

-- the documents of the versions so far
abbrev pub invariant-loop-version : goal.invariant-loop-version
invariant-loop-version l = record {
  told : l.docs.items ≡ map version_doc (map (λ v. v.value) (take l.version-index l.versions));
  listable : AreListable l.docs.items;
}
