use Rattle.std.proofs.Common.{ℕ, ◌+◌, [], ◌∷◌, ◌++◌, reverse, Err, ap, sym, subst, ◌∙◌}
use Rattle.std.proofs.lemmas.List.{length_push}
use Rattle.repo_state.specs.Stands.{Accepts}
use Rattle.repo_state.specs.declared.accept.AcceptError.{AcceptError}
use Rattle.shared_repo.specs.Opening.{IsDamagedAt}
use Rattle.shared_repo.proofs.Loading.{is_record, holds_more, refused_is_damage}
use Rattle.shared_repo.proofs.load.next_state.Goals as goal

pub returns-in-Ok-accept-clause-loads : goal.returns-in-Ok-accept-clause-loads
returns-in-Ok-accept-clause-loads g c = λ history len holds.
    let told = g.Q.Keeper.records c.args.keeper.now in
    let e = c.in-Ok-decode.entry in
    let bytes = c.in-Ok.bytes.items in
    let known = c.in-Ok-decode.ensures in
    let is = is_record told c.args.index (g.Q.Keeper.figures c.args.keeper.now).count history bytes len c.requires.inside c.requires.told c.in-Ok.ensures.value in (
      history ++ e ∷ [],
      length_push history e ∙ ap (λ (n : ℕ). n + 1) len,
      holds_more (g.Q.Keeper.figures c.args.keeper.now).repository told c.args.state.now history e c.in-Ok-accept.accepted bytes holds
          (c.in-Ok-accept.ensures.exact (reverse history) holds.stands) (known.sound, known.proper) (known.found ∙ c.deref.ensures.value) is,
    )

pub returns-in-Err-Refused-clause-loads : goal.returns-in-Err-Refused-clause-loads
returns-in-Err-Refused-clause-loads g c = λ history len holds.
    let told = g.Q.Keeper.records c.args.keeper.now in
    let r = (g.Q.Keeper.figures c.args.keeper.now).repository in
    let places = g.Q.Keeper.places c.args.keeper.now in
    let e = c.in-Ok-decode.entry in
    let bytes = c.in-Ok.bytes.items in
    let known = c.in-Ok-decode.ensures in
    let is = is_record told c.args.index (g.Q.Keeper.figures c.args.keeper.now).count history bytes len c.requires.inside c.requires.told c.in-Ok.ensures.value in
    let refused = subst (λ (why : AcceptError). Accepts c.args.state.now (reverse history) e (Err why)) c.in-Err-Refused.field-0-is (c.in-Err-Refused.ensures.exact (reverse history) holds.stands) in
    subst (λ (place : ℕ). IsDamagedAt r told places place) (ap places len ∙ sym c.place.ensures.value)
    (refused_is_damage r told c.args.state.now history bytes places e c.in-Err-Refused.field-0-0 holds is (known.sound, known.proper) (known.found ∙ c.deref.ensures.value) refused)
