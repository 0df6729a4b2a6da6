-- Commits stay.
use Rattle.std.proofs.Common.{arith, ◌≡◌, ℕ, ◌<◌, ◌==◌, false, cond, List, [], ◌∷◌, ◌++◌, Some, IsSome, refl, ap, sym, ◌∙◌, subst}
use Rattle.std.proofs.lemmas.Bool.{ne_eqb}
use Rattle.sysapi_base.specs.Id.{made_id}
use Rattle.api_records.specs.Sets.{added}
use Rattle.api_records.specs.declared.command.Command.{Command}
use Rattle.api_records.specs.declared.command.Command.TheVariants.{CreateProject, UpdateProject, DeleteProject, CreateCommit, CreateBranch, DeleteBranch, CreateTag, DeleteTag}
use Rattle.entry_codec.specs.Histories.{Tables, tables, behind, new_commit, new_versions, own_in, own_at, ancestry_at, Stays}
use Rattle.entry_codec.specs.declared.entry.Entry.{Entry}
use Rattle.entry_codec.proofs.Drawn.{IsOld, old_commit}

made_differs : (r m n : ℕ) → m < n → made_id r n ≡ made_id r m → ⊥
made_differs r m n h e = omega (arith, h, e)

is_other : (r n c : ℕ) → IsOld r n c → (made_id r n == c) ≡ false
is_other r n c o = ne_eqb (made_id r n) c (λ e. made_differs r o.serial n o.below (e ∙ o.is))

-- what the tables tell of a commit is the same
record SameCommit (older newer : Tables) (c : ℕ) : Type 0 where
  commit : newer.commit c ≡ older.commit c
  versions : newer.versions c ≡ older.versions c
  own_values : (x : ℕ) → newer.own c x ≡ older.own c x
  ancestry : (a : ℕ) → newer.ancestry c a ≡ older.ancestry c a

abbrev at : ℕ → Command → Entry
at moment command = record { moment = moment; command = command }

-- an entry leaves each commit but the one that it makes
step : (r : ℕ) (t : Tables) (moment : ℕ) (command : Command) (c : ℕ) → (made_id r t.next == c) ≡ false → SameCommit t (behind r t (at moment command)) c
step r t moment (CreateProject name description) c e = record { commit = refl; versions = refl; own_values = λ x. refl; ancestry = λ a. refl }
step r t moment (UpdateProject p name description branch) c e = record { commit = refl; versions = refl; own_values = λ x. refl; ancestry = λ a. refl }
step r t moment (DeleteProject p) c e = record { commit = refl; versions = refl; own_values = λ x. refl; ancestry = λ a. refl }
step r t moment (CreateCommit p given previous description cs) c e =
    let new = new_commit r t moment p given description in
    let vs = new_versions r t p cs in record {
      commit = ap (λ b. cond b (Some new) (t.commit c)) e;
      versions = ap (λ b. cond b vs (t.versions c)) e;
      own_values = λ x. ap (λ b. cond b (own_in vs x (own_at t.own new.previous x)) (t.own c x)) e;
      ancestry = λ a. ap (λ b. cond b (added new.id (ancestry_at t.ancestry new.previous)) (t.ancestry c) a) e;
    }
step r t moment (CreateBranch p name head) c e = record { commit = refl; versions = refl; own_values = λ x. refl; ancestry = λ a. refl }
step r t moment (DeleteBranch p b) c e = record { commit = refl; versions = refl; own_values = λ x. refl; ancestry = λ a. refl }
step r t moment (CreateTag p name x) c e = record { commit = refl; versions = refl; own_values = λ x. refl; ancestry = λ a. refl }
step r t moment (DeleteTag p x) c e = record { commit = refl; versions = refl; own_values = λ x. refl; ancestry = λ a. refl }

pub stays : (r : ℕ) (past more : List Entry) (c : ℕ) → IsSome ((tables r past).commit c) → Stays r past (more ++ past) c
stays r past [] c h = record { commit = refl; versions = refl; own_values = λ x. refl; ancestry = λ a. refl }
stays r past (e ∷ more) c h =
    let rest : Stays r past (more ++ past) c = stays r past more c h in
    let t : Tables = tables r (more ++ past) in
    let there : IsSome (t.commit c) = subst (λ o. IsSome o) (sym rest.commit) h in
    let other : (made_id r t.next == c) ≡ false = is_other r t.next c (old_commit r (more ++ past) c there) in
    let same = step r t e.moment e.command c other in
    record {
      commit = same.commit ∙ rest.commit;
      versions = same.versions ∙ rest.versions;
      own_values = λ x. same.own_values x ∙ rest.own_values x;
      ancestry = λ a. same.ancestry a ∙ rest.ancestry a;
    }
