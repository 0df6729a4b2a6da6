use Rattle.std.proofs.Common.{◌≡◌, ◌∙◌, None, Some, ap, sym}
use Rattle.std.specs.List.{filter}
use Rattle.std.proofs.lemmas.Result.{IfOk-weaker}
use Rattle.entry_codec.specs.Histories.{tables_at}
use Rattle.repo_state.specs.Lists.{is_listed, ids_listed, records_at}
use Rattle.repo_state.proofs.ListLemmas.{all_listed, those_listed}
use Rattle.repo_state.proofs.state.State.list.Goals as goal

pub returns-in-None : goal.returns-in-None
returns-in-None c = λ past st.
    let s = c.args.self.now in
    all_listed s past c.args.kind None c.args.point c.in_ok-ids.ids.items st c.in_ok-ids.ensures.ordered c.in_ok-ids.ensures.all
    ∙ ap (λ of. ids_listed s.repository c.args.kind of (tables_at s.repository c.args.point past)) (sym c.in-None.is)

pub returns-in-Some : goal.returns-in-Some
returns-in-Some c = λ past st.
    let s = c.args.self.now in
    let p = c.in-Some.project in
    let test = is_listed c.args.kind (Some p) (records_at s c.args.point) in
    IfOk-weaker c.those_of.result (λ v. v.items ≡ filter test c.as_slice.result.now)
    (λ v. v.items ≡ ids_listed s.repository c.args.kind c.args.project (tables_at s.repository c.args.point past))
    (λ v is. those_listed s past c.args.kind p c.args.point c.in_ok-ids.ids.items v.items st c.in_ok-ids.ensures.ordered c.in_ok-ids.ensures.all (is ∙ ap (filter test) c.as_slice.ensures.value)
    ∙ ap (λ of. ids_listed s.repository c.args.kind of (tables_at s.repository c.args.point past)) (sym c.in-Some.is)) c.those_of.ensures
