use Rattle.std.proofs.Common.{◌∙◌, ap}
use Rattle.doc_value.specs.Seen.{documents}
use Rattle.entry_codec.specs.Histories.{tables_at}
use Rattle.entry_codec.specs.declared.reply.Reply.TheVariants.{Page}
use Rattle.repo_read.proofs.Told.{page_of}
use Rattle.repo_read.proofs.list.told.Goals as goal

pub returns-clause-reply : goal.returns-clause-reply
returns-clause-reply c = λ past st.
    let r = c.args.view.now.repository in
    c.page.ensures.page ∙ ap (λ ds. Page (documents ds)) (c.in_ok-docs.ensures.docs past st) ∙ page_of r (tables_at r c.args.point past) c.args.of
