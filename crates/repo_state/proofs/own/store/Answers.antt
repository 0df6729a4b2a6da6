use Rattle.std.proofs.Common.{◌≡◌, ◌==◌, ◌∙◌, cond, ap, sym, ℕ, List}
use Rattle.std.specs.Ordering.{nat_cmp}
use Rattle.std.specs.FinMap.{find, put}
use Rattle.std.proofs.lemmas.Result.{IfOk-weaker}
use Rattle.pmap.specs.Shape.{without}
use Rattle.api_records.specs.declared.record.Version.{Version}
use Rattle.repo_state.specs.Payloads.{AreStored}
use Rattle.repo_state.proofs.PayloadLemmas.{payload_of, value_put, value_without, stored_put, stored_without, none_there}
use Rattle.repo_state.proofs.own.store.Goals as goal

abbrev HasValue : List (ℕ × Version) → Version → List (ℕ × Version) → Type 0
HasValue old v new = (x : ℕ) → payload_of (find nat_cmp x new) ≡ cond (v.identity == x) v.payload (payload_of (find nat_cmp x old))

pub returns-in_ok-try_clone-clause-value : goal.returns-in_ok-try_clone-clause-value
returns-in_ok-try_clone-clause-value c =
    let v = c.args.version.now.value in
    let old = c.args.own.now in
    let id = c.deref-then-is_some.result.now.identity in
    IfOk-weaker c.insert.result (λ m. m ≡ put nat_cmp id c.in_ok-try_clone.field-0.value old) (HasValue old v)
    (λ m is x. value_put x id m old v c.in_ok-try_clone.field-0.value is (ap (λ (u : Version). u.identity) c.deref-then-is_some.ensures) c.in_ok-try_clone.ensures) c.insert.ensures

pub returns-in_ok-try_clone-clause-stored : goal.returns-in_ok-try_clone-clause-stored
returns-in_ok-try_clone-clause-stored c =
    let old = c.args.own.now in
    let id = c.deref-then-is_some.result.now.identity in
    IfOk-weaker c.insert.result (λ m. m ≡ put nat_cmp id c.in_ok-try_clone.field-0.value old) AreStored
    (λ m is. stored_put id m old c.in_ok-try_clone.field-0.value c.args.version.now.value is c.in_ok-try_clone.ensures c.requires.version c.requires.own) c.insert.ensures

pub returns-else-is_some-clause-value : goal.returns-else-is_some-clause-value
returns-else-is_some-clause-value c =
    let v = c.args.version.now.value in
    let old = c.args.own.now in
    let id = c.deref-else-is_some.result.now.identity in
    IfOk-weaker c.remove.result (λ m. m ≡ without nat_cmp id old) (HasValue old v)
    (λ m is x. value_without x id m old v is (ap (λ (u : Version). u.identity) c.deref-else-is_some.ensures)
    (none_there c.deref.result.now.payload (sym c.is_some.ensures ∙ c.if-is_some.false) ∙ ap (λ (u : Version). u.payload) c.deref.ensures)) c.remove.ensures

pub returns-else-is_some-clause-stored : goal.returns-else-is_some-clause-stored
returns-else-is_some-clause-stored c =
    let old = c.args.own.now in
    let id = c.deref-else-is_some.result.now.identity in
    IfOk-weaker c.remove.result (λ m. m ≡ without nat_cmp id old) AreStored (λ m is. stored_without id m old is c.requires.own) c.remove.ensures
