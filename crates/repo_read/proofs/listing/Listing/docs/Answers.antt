use Rattle.std.proofs.Common.{◌≡◌, ◌∙◌, ap}
use Rattle.std.specs.List.{filter_map}
use Rattle.std.proofs.lemmas.Result.{IfOk-weaker}
use Rattle.entry_codec.specs.Histories.{Tables, tables_at}
use Rattle.entry_codec.specs.Replies.{drawn}
use Rattle.repo_read.specs.Listed.{doc_at}
use Rattle.repo_read.proofs.Told.{all_told}
use Rattle.repo_read.proofs.listing.Listing.docs.Goals as goal

pub returns-clause-docs : goal.returns-clause-docs
returns-clause-docs c = λ past st.
    let r = c.args.view.now.repository in
    let t = tables_at r c.args.point past in
    let f = doc_at t c.args.self.now in
    IfOk-weaker c.docs_of.result (λ v. v.items ≡ filter_map f c.as_slice.result.now) (λ v. v.items ≡ filter_map f (drawn r t.next))
    (λ v is. is ∙ ap (filter_map f) (c.as_slice.ensures.value ∙ c.in_ok-ids.ensures past st) ∙ all_told r t c.args.self.now) (c.docs_of.ensures.docs past st)
