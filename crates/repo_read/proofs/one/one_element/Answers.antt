use Rattle.std.proofs.Common.{◌∙◌, Some, None, ap}
use Rattle.std.specs.Prelude.{option_and_then}
use Rattle.api_records.specs.declared.refusal.Refusal.TheVariants as no
use Rattle.entry_codec.specs.declared.reply.Reply.TheVariants.{Found}
use Rattle.entry_codec.specs.Histories.{tables_at}
use Rattle.entry_codec.specs.Refusals.{unless_there}
use Rattle.entry_codec.specs.Replies.{if_element}
use Rattle.repo_read.proofs.Within.{there, element_reply}
use Rattle.repo_read.proofs.one.one_element.Goals as goal

pub returns-in_ok-copy-in-Some-element_of-clause-reply : goal.returns-in_ok-copy-in-Some-element_of-clause-reply
returns-in_ok-copy-in-Some-element_of-clause-reply c = λ past st.
    let r = c.args.view.now.repository in
    ap Found c.in_ok-copy-in-Some-element_of.ensures.value
    ∙ element_reply r (tables_at r c.args.point past) c.args.project c.args.commit c.args.id (Some c.in-Some-element_of.doc.now)
    (there (λ p. p.now) no.UnknownProject c.project.result _ c.if-is_none.ensures (c.project.ensures past st))
    (ap (unless_there no.UnknownCommit) (c.in-Some.ensures.commit past st))
    (c.in-Some-element_of.ensures.element ∙ ap (λ own. option_and_then if_element (own c.args.id)) (c.in-Some.ensures.own_values past st))

pub returns-in-None-clause-reply : goal.returns-in-None-clause-reply
returns-in-None-clause-reply c = λ past st.
    let r = c.args.view.now.repository in
    element_reply r (tables_at r c.args.point past) c.args.project c.args.commit c.args.id None
    (there (λ p. p.now) no.UnknownProject c.project.result _ c.if-is_none.ensures (c.project.ensures past st))
    (ap (unless_there no.UnknownCommit) (c.in-Some.ensures.commit past st))
    (c.in-None.ensures.element ∙ ap (λ own. option_and_then if_element (own c.args.id)) (c.in-Some.ensures.own_values past st))
