use Rattle.entry_codec.specs.Histories.{tables_at}
use Rattle.repo_read.specs.Listed.{doc_at}
use Rattle.repo_read.proofs.Told.{told_more, listable_more}
use Rattle.repo_read.proofs.listing.Listing.docs_of.Goals as goal

pub loop-id-preserved : goal.loop-id-preserved
loop-id-preserved c =
    let loop = c.loop-id in
    record {
      told = λ past st.
          told_more (doc_at (tables_at c.args.view.now.repository c.args.point past) c.args.self.now) c.args.ids.now loop.id-index c.id-item.result loop.docs.items c.add.new.docs.items c.in_ok-doc_at.field-0
          c.loop-id-test.true c.id-item.is (loop.invariant.told past st) (c.in_ok-doc_at.ensures.doc past st) c.in_ok-add.ensures;
      listable = listable_more loop.docs.items c.add.new.docs.items c.in_ok-doc_at.field-0 loop.invariant.listable c.in_ok-doc_at.ensures.listable c.in_ok-add.ensures;
    }
