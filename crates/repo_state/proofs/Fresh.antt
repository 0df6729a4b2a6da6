-- No record has the id that the next one gets.
use Rattle.std.proofs.Common.{arith, ◌≡◌, ℕ, zero, suc, ◌-◌, ◌≤◌, List, [], ◌∷◌, length, drop, Option, Some, None, IsSome, refl, subst}
use Rattle.sysapi_base.specs.Id.{made_id}
use Rattle.timeline.specs.Values.{value_at}
use Rattle.entry_codec.specs.declared.entry.Entry.{Entry}
use Rattle.entry_codec.specs.Histories.{tables, tables_at, first_entries}
use Rattle.entry_codec.proofs.Drawn.{IsOld, old_commit, next_grows}
use Rattle.repo_state.specs.Stands.{StandsFor, commit_shown}
use Rattle.repo_state.specs.Shown.{IsFresh}
use Rattle.repo_state.specs.declared.state.State.{State}
use Rattle.repo_state.specs.declared.data.CommitData.{CommitData}

-- without its last entries a history has drawn no more serials
drawn_before : (r k : ℕ) (past : List Entry) → (tables r (drop k past)).next ≤ (tables r past).next
drawn_before r zero past = omega arith
drawn_before r (suc k) [] = omega arith
drawn_before r (suc k) (e ∷ past) =
    let fewer : (tables r (drop k past)).next ≤ (tables r past).next = drawn_before r k past in
    let grows : (tables r past).next ≤ (tables r (e ∷ past)).next = next_grows r (tables r past) e.command in
    omega (arith, fewer, grows)

one_serial : (r k n : ℕ) → made_id r k ≡ made_id r n → k ≡ n
one_serial r k n e = omega (arith, e)

not_old : (r n : ℕ) → IsOld r n (made_id r n) → ⊥
not_old r n old = let same : n ≡ old.serial = one_serial r n old.serial old.is in omega (arith, same, old.below)

not_there : (o : Option CommitData) → (IsSome (commit_shown o) → ⊥) → o ≡ None
not_there None h = refl
not_there (Some d) h = absurd (h refl)

pub fresh : (s : State) (past : List Entry) → StandsFor s past → IsFresh s
fresh s past st m =
    let r = s.repository in
    let id = made_id r s.next in
    not_there (value_at s.commits id m) (λ there.
    let told : IsSome ((tables_at r m past).commit id) = subst IsSome (st.commits id m) there in
    let old : IsOld r (tables_at r m past).next id = old_commit r (first_entries m past) id told in
    let few : (tables_at r m past).next ≤ (tables r past).next = drawn_before r (length past - m) past in
    not_old r s.next (record { serial = old.serial; below = omega (arith, old.below, few, st.next); is = old.is }))
