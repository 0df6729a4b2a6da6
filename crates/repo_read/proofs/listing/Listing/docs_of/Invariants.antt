use Rattle.std.proofs.Common.{◌≡◌, List, take}
use Rattle.std.specs.List.{filter_map}
use Rattle.entry_codec.specs.declared.entry.Entry.{Entry}
use Rattle.entry_codec.specs.Histories.{tables_at}
use Rattle.repo_state.specs.Stands.{StandsFor, repository_of}
use Rattle.repo_read.specs.Listed.{AreListable, doc_at}
use Rattle.repo_read.proofs.listing.Listing.docs_of.Given as goal

-- the documents of the ids so far
abbrev pub invariant-loop-id : goal.invariant-loop-id
invariant-loop-id l = record {
  told : (past : List Entry) → StandsFor l.view past → l.docs.items ≡ filter_map (doc_at (tables_at (repository_of l.view) l.point past) l.self) (take l.id-index l.ids);
  listable : AreListable l.docs.items;
}
