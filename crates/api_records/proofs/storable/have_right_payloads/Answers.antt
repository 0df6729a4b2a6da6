use Rattle.std.proofs.Common.{refl, subst}
use Rattle.std.specs.List.{All}
use Rattle.std.proofs.lemmas.List.{take_all}
use Rattle.std.proofs.lemmas.List.Elements.{All-more}
use Rattle.api_records.specs.Storable.{IsStored}
use Rattle.api_records.specs.declared.command.Change.{Change}
use Rattle.api_records.proofs.storable.have_right_payloads.Goals as goal

pub loop-change-preserved : goal.loop-change-preserved
loop-change-preserved c =
    let right : IsStored c.change-item.result.payload = c.is_right_payload.ensures.0 c.if-not-is_right_payload.false in
    All-more (λ (x : Change). IsStored x.payload) c.args.changes.now c.loop-change.change-index c.change-item.result c.loop-change-test.true c.loop-change.invariant
    (subst (λ (x : Change). IsStored x.payload) c.change-item.is right)

pub returns : goal.returns
returns c =
    ((λ _. subst (λ xs. All (λ (x : Change). IsStored x.payload) xs) (take_all c.loop-change.change-index c.args.changes.now c.loop-change-test.false) c.loop-change.invariant), (λ _. refl))
