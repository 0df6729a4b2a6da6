use Rattle.std.proofs.Common.{◌∙◌, ◌==◌, Some, None, option_map, IfSome, ap, sym, subst}
use Rattle.std.specs.declared.sync.Arc.{Arc}
use Rattle.std.specs.declared.alloc.Global.{Global}
use Rattle.api_records.specs.Records.{version_doc}
use Rattle.api_records.specs.Storable.{IsShallow}
use Rattle.api_records.specs.declared.record.Version.{Version}
use Rattle.api_records.specs.declared.refusal.Refusal.TheVariants as no
use Rattle.entry_codec.specs.declared.reply.Reply.TheVariants.{Found}
use Rattle.entry_codec.specs.Histories.{tables_at}
use Rattle.entry_codec.specs.Refusals.{unless_there}
use Rattle.entry_codec.specs.Replies.{version_in}
use Rattle.repo_read.proofs.Within.{found_has, same_version, there, version_reply}
use Rattle.repo_read.proofs.one.one_version.Goals as goal

pub to_doc-requires : goal.to_doc-requires
to_doc-requires c =
    let P : Arc Version Global → Type 0 = λ v. IsShallow v.value.payload in
    subst (λ (v : Version). IsShallow v.payload) (sym c.deref.ensures)
    (subst (λ o. IfSome o P) (sym c.in-Some-version_in.ensures) (found_has P (λ v. v.value.id == c.args.id) c.versions.result.now c.versions.ensures.shallow))

pub returns-in_ok-to_doc-in-Some-version_in-clause-reply : goal.returns-in_ok-to_doc-in-Some-version_in-clause-reply
returns-in_ok-to_doc-in-Some-version_in-clause-reply c = λ past st.
    let r = c.args.view.now.repository in
    ap Found (c.in_ok-to_doc-in-Some-version_in.ensures.doc ∙ ap version_doc c.deref.ensures)
    ∙ version_reply r (tables_at r c.args.point past) c.args.project c.args.commit c.args.id (Some c.in-Some-version_in.version.now.value)
    (there (λ p. p.now) no.UnknownProject c.project.result _ c.if-is_none.ensures (c.project.ensures past st))
    (ap (unless_there no.UnknownCommit) (c.in-Some.ensures.commit past st))
    (ap (option_map (λ (v : Arc Version Global). v.value)) c.in-Some-version_in.ensures ∙ same_version c.versions.result.now c.args.id ∙ ap (λ vs. version_in vs c.args.id) (c.versions.ensures.value ∙ c.in-Some.ensures.versions past st))

pub returns-in-None-clause-reply : goal.returns-in-None-clause-reply
returns-in-None-clause-reply c = λ past st.
    let r = c.args.view.now.repository in
    version_reply r (tables_at r c.args.point past) c.args.project c.args.commit c.args.id None
    (there (λ p. p.now) no.UnknownProject c.project.result _ c.if-is_none.ensures (c.project.ensures past st))
    (ap (unless_there no.UnknownCommit) (c.in-Some.ensures.commit past st))
    (ap (option_map (λ (v : Arc Version Global). v.value)) c.in-None.ensures ∙ same_version c.versions.result.now c.args.id ∙ ap (λ vs. version_in vs c.args.id) (c.versions.ensures.value ∙ c.in-Some.ensures.versions past st))
