-- Each record's id is that of a serial that was drawn.
use Rattle.std.proofs.Common.{arith, ◌≡◌, ℕ, zero, suc, ◌+◌, ◌-◌, ◌^◌, ◌<◌, ◌≤◌, ◌==◌, Bool, true, false, cond, List, [], ◌∷◌, Option, Some, None, IsSome, option_map, refl, sym, ◌∙◌}
use Rattle.std.specs.Prelude.{⊤}
use Rattle.std.proofs.lemmas.Bool.{eqb-true}
use Rattle.sysapi_base.specs.Id.{made_id}
use Rattle.api_records.specs.Changes.{named, free, free_from, serial_behind, last_serial, known_with}
use Rattle.api_records.specs.declared.command.Change.{Change}
use Rattle.api_records.specs.declared.command.Command.{Command}
use Rattle.api_records.specs.declared.command.Command.TheVariants.{CreateProject, UpdateProject, DeleteProject, CreateCommit, CreateBranch, DeleteBranch, CreateTag, DeleteTag}
use Rattle.api_records.specs.declared.record.Project.{Project}
use Rattle.api_records.specs.declared.record.Branch.{Branch}
use Rattle.api_records.specs.declared.record.Tag.{Tag}
use Rattle.api_records.specs.declared.record.Commit.{Commit}
use Rattle.entry_codec.specs.Histories.{Tables, tables, Event, project_is, branch_is, tag_is, head_is, commit_is, events_of, next_behind, updated, with_head, is_at, project_by, branch_by, tag_by, commit_by}
use Rattle.entry_codec.specs.declared.entry.Entry.{Entry}

-- ---- serials grow

free_grows : (r : ℕ) (known : ℕ → Bool) (room n : ℕ) → n ≤ free r known room n
free_grows r known zero n = omega arith
free_grows r known (suc room) n = elim (known (made_id r n)) as (λ b. n ≤ cond b (free r known room (n + 1)) n) [
  | true ↦ let e : n + 1 ≤ free r known room (n + 1) = free_grows r known room (n + 1) in omega (arith, e)
  | false ↦ omega arith
]

free_from-grows : (r : ℕ) (known : ℕ → Bool) (n : ℕ) → n ≤ free_from r known n
unfolding free_from
free_from-grows r known n = free_grows r known (2 ^ 62 - n) n

behind_grows : (r : ℕ) (known : ℕ → Bool) (n : ℕ) (x : Option ℕ) → n ≤ serial_behind r known n x
behind_grows r known n (Some x) = omega arith
behind_grows r known n None = let e : n + 1 ≤ free_from r known (n + 1) = free_from-grows r known (n + 1) in omega (arith, e)

last_grows : (r : ℕ) (known : ℕ → Bool) (n : ℕ) (cs : List Change) → n ≤ last_serial r known n cs
last_grows r known n [] = omega arith
last_grows r known n (c ∷ cs) =
    let a : n ≤ serial_behind r known n (named c) = behind_grows r known n (named c) in
    let b : serial_behind r known n (named c) ≤ last_serial r known (serial_behind r known n (named c)) cs = last_grows r known (serial_behind r known n (named c)) cs in
    omega (arith, a, b)

-- a commit takes a serial at least
pub commit_grows : (r : ℕ) (t : Tables) (p : ℕ) (cs : List Change) → t.next < last_serial r (known_with (t.known p) cs) (t.next + 1) cs
commit_grows r t p cs = let a : t.next + 1 ≤ last_serial r (known_with (t.known p) cs) (t.next + 1) cs = last_grows r (known_with (t.known p) cs) (t.next + 1) cs in omega (arith, a)

pub next_grows : (r : ℕ) (t : Tables) (command : Command) → t.next ≤ next_behind r t command
next_grows r t (CreateProject name description) = omega arith
next_grows r t (UpdateProject p name description branch) = omega arith
next_grows r t (DeleteProject p) = omega arith
next_grows r t (CreateCommit p given previous description cs) = let a = commit_grows r t p cs in omega (arith, a)
next_grows r t (CreateBranch p name head) = omega arith
next_grows r t (DeleteBranch p b) = omega arith
next_grows r t (CreateTag p name c) = omega arith
next_grows r t (DeleteTag p x) = omega arith

-- ---- ids that were drawn

-- the id is that of a serial below n
pub record IsOld (r n id : ℕ) : Type 0 where
  pub serial : ℕ
  pub below : serial < n
  pub is : id ≡ made_id r serial

pub older_yet : (r m n id : ℕ) → m ≤ n → IsOld r m id → IsOld r n id
older_yet r m n id h o = record { serial = o.serial; below = omega (arith, o.below, h); is = o.is }

new_at : (r n later : ℕ) → n < later → IsOld r later (made_id r n)
new_at r n later h = record { serial = n; below = h; is = refl }

-- an event makes no record but at an id that was drawn
abbrev IsDrawn : ℕ → ℕ → Event → Type 0
IsDrawn r n (project_is p new) = IsSome new → IsOld r n p
IsDrawn r n (branch_is b new) = IsSome new → IsOld r n b
IsDrawn r n (tag_is x new) = IsSome new → IsOld r n x
IsDrawn r n (head_is b c) = ⊤
IsDrawn r n (commit_is c vs) = IsOld r n c.id

abbrev AreDrawn : ℕ → ℕ → List Event → Type 0
AreDrawn r n [] = ⊤
AreDrawn r n (e ∷ es) = IsDrawn r n e × AreDrawn r n es

there_before : {A : Type 0} (f : A → A) (o : Option A) → IsSome (option_map f o) → IsSome o
there_before f None h = h
there_before f (Some a) h = refl

events_drawn : (r : ℕ) (t : Tables) (moment : ℕ) (command : Command) → ((p : ℕ) → IsSome (t.project p) → IsOld r t.next p) → AreDrawn r (next_behind r t command) (events_of r t moment command)
events_drawn r t moment (CreateProject name description) h =
    ((λ there. new_at r t.next (t.next + 2) (omega arith)), ((λ there. new_at r (t.next + 1) (t.next + 2) (omega arith)), tt))
events_drawn r t moment (UpdateProject p name description branch) h = ((λ there. h p (there_before (updated name description branch) (t.project p) there)), tt)
events_drawn r t moment (DeleteProject p) h = ((λ there. absurd cc), tt)
events_drawn r t moment (CreateCommit p given previous description cs) h = (new_at r t.next (next_behind r t (CreateCommit p given previous description cs)) (commit_grows r t p cs), (tt, tt))
events_drawn r t moment (CreateBranch p name head) h = ((λ there. new_at r t.next (t.next + 1) (omega arith)), tt)
events_drawn r t moment (DeleteBranch p b) h = ((λ there. absurd cc), tt)
events_drawn r t moment (CreateTag p name c) h = ((λ there. new_at r t.next (t.next + 1) (omega arith)), tt)
events_drawn r t moment (DeleteTag p x) h = ((λ there. absurd cc), tt)

-- what is there by an event, or was there
either : {A : Type 0} (r n id q : ℕ) (new older : Option A) → (IsSome new → IsOld r n id) → (IsSome older → IsOld r n q) → IsSome (cond (id == q) new older) → IsOld r n q
either r n id q new older made was = elim (id == q) as (λ b. (id == q) ≡ b → IsSome (cond b new older) → IsOld r n q) [
  | true ↦ λ e there. let o = made there in record { serial = o.serial; below = o.below; is = sym (eqb-true id q e) ∙ o.is }
  | false ↦ λ e there. was there
] refl

headed : (b : Option ℕ) (c q : ℕ) (older : Option Branch) → IsSome (cond (is_at b q) (option_map (with_head c) older) older) → IsSome older
headed b c q older = elim (is_at b q) as (λ x. IsSome (cond x (option_map (with_head c) older) older) → IsSome older) [
  | true ↦ there_before (with_head c) older
  | false ↦ λ there. there
]

project_drawn : (r n : ℕ) (es : List Event) (q : ℕ) (older : Option Project) → AreDrawn r n es → (IsSome older → IsOld r n q) → IsSome (project_by es q older) → IsOld r n q
project_drawn r n [] q older made was there = was there
project_drawn r n (project_is p new ∷ es) q older made was there = project_drawn r n es q (cond (p == q) new older) made.1 (either r n p q new older made.0 was) there
project_drawn r n (branch_is b new ∷ es) q older made was there = project_drawn r n es q older made.1 was there
project_drawn r n (tag_is x new ∷ es) q older made was there = project_drawn r n es q older made.1 was there
project_drawn r n (head_is b c ∷ es) q older made was there = project_drawn r n es q older made.1 was there
project_drawn r n (commit_is c vs ∷ es) q older made was there = project_drawn r n es q older made.1 was there

branch_drawn : (r n : ℕ) (es : List Event) (q : ℕ) (older : Option Branch) → AreDrawn r n es → (IsSome older → IsOld r n q) → IsSome (branch_by es q older) → IsOld r n q
branch_drawn r n [] q older made was there = was there
branch_drawn r n (project_is p new ∷ es) q older made was there = branch_drawn r n es q older made.1 was there
branch_drawn r n (branch_is b new ∷ es) q older made was there = branch_drawn r n es q (cond (b == q) new older) made.1 (either r n b q new older made.0 was) there
branch_drawn r n (tag_is x new ∷ es) q older made was there = branch_drawn r n es q older made.1 was there
branch_drawn r n (head_is b c ∷ es) q older made was there =
    branch_drawn r n es q (cond (is_at b q) (option_map (with_head c) older) older) made.1 (λ x. was (headed b c q older x)) there
branch_drawn r n (commit_is c vs ∷ es) q older made was there = branch_drawn r n es q older made.1 was there

tag_drawn : (r n : ℕ) (es : List Event) (q : ℕ) (older : Option Tag) → AreDrawn r n es → (IsSome older → IsOld r n q) → IsSome (tag_by es q older) → IsOld r n q
tag_drawn r n [] q older made was there = was there
tag_drawn r n (project_is p new ∷ es) q older made was there = tag_drawn r n es q older made.1 was there
tag_drawn r n (branch_is b new ∷ es) q older made was there = tag_drawn r n es q older made.1 was there
tag_drawn r n (tag_is x new ∷ es) q older made was there = tag_drawn r n es q (cond (x == q) new older) made.1 (either r n x q new older made.0 was) there
tag_drawn r n (head_is b c ∷ es) q older made was there = tag_drawn r n es q older made.1 was there
tag_drawn r n (commit_is c vs ∷ es) q older made was there = tag_drawn r n es q older made.1 was there

commit_drawn : (r n : ℕ) (es : List Event) (q : ℕ) (older : Option Commit) → AreDrawn r n es → (IsSome older → IsOld r n q) → IsSome (commit_by es q older) → IsOld r n q
commit_drawn r n [] q older made was there = was there
commit_drawn r n (project_is p new ∷ es) q older made was there = commit_drawn r n es q older made.1 was there
commit_drawn r n (branch_is b new ∷ es) q older made was there = commit_drawn r n es q older made.1 was there
commit_drawn r n (tag_is x new ∷ es) q older made was there = commit_drawn r n es q older made.1 was there
commit_drawn r n (head_is b c ∷ es) q older made was there = commit_drawn r n es q older made.1 was there
commit_drawn r n (commit_is c vs ∷ es) q older made was there =
    commit_drawn r n es q (cond (c.id == q) (Some c) older) made.1 (either r n c.id q (Some c) older (λ x. made.0) was) there

-- ---- histories

made_by : (r : ℕ) (e : Entry) (past : List Entry) → ((p : ℕ) → IsSome ((tables r past).project p) → IsOld r (tables r past).next p) → AreDrawn r (tables r (e ∷ past)).next (events_of r (tables r past) e.moment e.command)
made_by r e past h = events_drawn r (tables r past) e.moment e.command h

pub old_project : (r : ℕ) (past : List Entry) (q : ℕ) → IsSome ((tables r past).project q) → IsOld r (tables r past).next q
old_project r [] q there = absurd cc
old_project r (e ∷ past) q there =
    project_drawn r (tables r (e ∷ past)).next (events_of r (tables r past) e.moment e.command) q ((tables r past).project q) (made_by r e past (old_project r past))
    (λ x. older_yet r (tables r past).next (tables r (e ∷ past)).next q (next_grows r (tables r past) e.command) (old_project r past q x)) there

pub old_branch : (r : ℕ) (past : List Entry) (q : ℕ) → IsSome ((tables r past).branch q) → IsOld r (tables r past).next q
old_branch r [] q there = absurd cc
old_branch r (e ∷ past) q there =
    branch_drawn r (tables r (e ∷ past)).next (events_of r (tables r past) e.moment e.command) q ((tables r past).branch q) (made_by r e past (old_project r past))
    (λ x. older_yet r (tables r past).next (tables r (e ∷ past)).next q (next_grows r (tables r past) e.command) (old_branch r past q x)) there

pub old_tag : (r : ℕ) (past : List Entry) (q : ℕ) → IsSome ((tables r past).tag q) → IsOld r (tables r past).next q
old_tag r [] q there = absurd cc
old_tag r (e ∷ past) q there =
    tag_drawn r (tables r (e ∷ past)).next (events_of r (tables r past) e.moment e.command) q ((tables r past).tag q) (made_by r e past (old_project r past))
    (λ x. older_yet r (tables r past).next (tables r (e ∷ past)).next q (next_grows r (tables r past) e.command) (old_tag r past q x)) there

pub old_commit : (r : ℕ) (past : List Entry) (q : ℕ) → IsSome ((tables r past).commit q) → IsOld r (tables r past).next q
old_commit r [] q there = absurd cc
old_commit r (e ∷ past) q there =
    commit_drawn r (tables r (e ∷ past)).next (events_of r (tables r past) e.moment e.command) q ((tables r past).commit q) (made_by r e past (old_project r past))
    (λ x. older_yet r (tables r past).next (tables r (e ∷ past)).next q (next_grows r (tables r past) e.command) (old_commit r past q x)) there
