-- A commit: from what the calls of the code say to the tables that are told behind it.
use Rattle.std.proofs.Common.{arith, ◌≡◌, ℕ, ◌+◌, ◌≤◌, ◌==◌, ◌&&◌, Bool, true, false, cond, List, ◌∷◌, Option, Some, None, option_map, refl, ap, sym, subst, ◌∙◌}
use Rattle.std.specs.Prelude.{nat_le, option_and_then, unwrap_or}
use Rattle.std.proofs.lemmas.Bool.{eqb-true, leb-true}
use Rattle.std.specs.Ordering.{nat_cmp}
use Rattle.std.specs.FinMap.{find, put}
use Rattle.sysapi_base.specs.Id.{made_id}
use Rattle.doc_value.specs.declared.doc.Doc.{Doc}
use Rattle.timeline.specs.Values.{value_at, changed}
use Rattle.api_records.specs.Sets.{has, added}
use Rattle.api_records.specs.Records.{commit_doc}
use Rattle.api_records.specs.declared.command.Change.{Change}
use Rattle.api_records.specs.declared.command.Command.TheVariants.{CreateCommit}
use Rattle.api_records.specs.declared.record.Project.{Project}
use Rattle.api_records.specs.declared.record.Branch.{Branch}
use Rattle.api_records.specs.declared.record.Commit.{Commit}
use Rattle.api_records.specs.declared.refusal.Refusal.{Refusal}
use Rattle.api_records.specs.declared.refusal.Refusal.TheVariants as no
use Rattle.entry_codec.specs.declared.reply.Reply.TheVariants.{Made}
use Rattle.entry_codec.specs.Histories.{Tables, is_at, owned, project_branch, branch_of, head_of, with_head, new_commit, own_in, own_at, ancestry_at, with_identities}
use Rattle.entry_codec.specs.Refusals.{first, unless_there, multiple, moved, change_rows, rows}
use Rattle.repo_state.specs.Stands.{commit_shown, versions_shown, own_shown, ancestry_of, known_shown}
use Rattle.repo_state.specs.Numbered.{IsNumbered}
use Rattle.repo_state.specs.Shown.{shown, from_on, KeepsCommits, IsBehind, Follows, IsNext, SetsBranch, AddsCommit, IsMade, IsCommitted, versions_drawn}
use Rattle.repo_state.specs.declared.commit.Made.{Made as MadeCommit}
use Rattle.repo_state.specs.declared.state.State.{State}
use Rattle.repo_state.specs.declared.data.CommitData.{CommitData}
use Rattle.repo_state.specs.declared.accept.Accepted.{Accepted}
use Rattle.repo_state.proofs.Entries.{find_put}
use Rattle.repo_state.proofs.Ancestry.{ancestry_told}

-- ---- values that change at a point

unchanged : {A : Type 0} (n m : ℕ) (x : A) → x ≡ from_on n m (λ o. o) x
unchanged n m x = elim (nat_le n m) as (λ b. x ≡ cond b x x) [ true ↦ refl | false ↦ refl ]

-- what is shown of a value that was set at one id from a point on
module _ {D A : Type 0} (show : Option D → A) where
  at_one : (b here : Bool) (v old : Option D) (new : A) → (b ≡ true → here ≡ true → show v ≡ new) → show (cond (here && b) v old) ≡ cond b (cond here new (show old)) (show old)
  at_one true true v old new h = h refl refl
  at_one true false v old new h = refl
  at_one false true v old new h = refl
  at_one false false v old new h = refl

  told_changed : (values : ℕ → ℕ → Option D) (id n : ℕ) (v : Option D) (q m : ℕ) (change : A → A) → (n ≤ m → id ≡ q → show v ≡ change (show (values q m)))
      → show (changed values id n v q m) ≡ from_on n m (λ o. cond (id == q) (change o) o) (show (values q m))
  told_changed values id n v q m change h = at_one (nat_le n m) (id == q) v (values q m) (change (show (values q m))) (λ late here. h (leb-true n m late) (eqb-true id q here))

-- the value at each place of tables that change at a point
at_each : {A : Type 0} (b : Bool) (f g : ℕ → A) (x : ℕ) → cond b (f x) (g x) ≡ cond b f g x
at_each true f g x = refl
at_each false f g x = refl

-- where two ids are one, what is told of the one may be told of the other
at_same : {A : Type 0} (f : ℕ → A) (p q : ℕ) (v older : A) → v ≡ f p → cond (p == q) v older ≡ cond (p == q) (f q) older
at_same f p q v older e = elim (p == q) as (λ b. (p == q) ≡ b → cond b v older ≡ cond b (f q) older) [ true ↦ λ t. e ∙ ap f (eqb-true p q t) | false ↦ λ t. refl ] refl

shown_put : {X A : Type 0} (show : Option X → A) (k : ℕ) (v : X) (es : List (ℕ × X)) (q : ℕ) → show (find nat_cmp q (put nat_cmp k v es)) ≡ cond (k == q) (show (Some v)) (show (find nat_cmp q es))
shown_put show k v es q = ap show (find_put k v es q) ∙ elim (k == q) as (λ b. show (cond b (Some v) (find nat_cmp q es)) ≡ cond b (show (Some v)) (show (find nat_cmp q es))) [ true ↦ refl | false ↦ refl ]

-- ---- the state that is made

pub committed : (s next_state more last : State) (m : MadeCommit) (id : ℕ) (branch headed : Branch) (reply : Doc)
    → IsNext s next_state m.next → AddsCommit next_state more m.data m.graph m.identities → SetsBranch more last id (Some headed)
    → headed ≡ with_head m.data.commit.id branch → reply ≡ commit_doc m.data.commit
    → IsCommitted s m id branch (record { state = last; reply = Made reply })
committed s next_state more last m id branch headed reply n c b is told =
    let front : more.front ≡ s.front + 1 = c.numbers.front ∙ n.front in
    let branches : more.branches ≡ s.branches = c.branches ∙ n.branches in
    record {
      same = b.numbers.same ∙ c.numbers.same ∙ n.same;
      front = b.numbers.front ∙ front;
      next = b.numbers.next ∙ c.numbers.next ∙ n.next;
      projects = b.projects ∙ c.projects ∙ n.projects;
      tags = b.tags ∙ c.tags ∙ n.tags;
      branches = λ q k. b.branches q k ∙ (λ i. changed (value_at (branches i)) id (front i) (Some (is i)) q k);
      commits = λ q k. ap (λ x. value_at x q k) b.commits ∙ c.commits q k ∙ (λ i. changed (value_at (n.commits i)) m.data.commit.id (n.front i) (Some m.data) q k);
      graph = b.graph ∙ c.graph;
      known = b.known ∙ c.known ∙ ap (put nat_cmp m.data.commit.project m.identities) n.known;
      reply = ap Made told;
    }

-- ---- the branch that is meant

pub meant : (t : Tables) (p : ℕ) (given : Option ℕ) (owner : Project) (id : ℕ) → Some owner ≡ t.project p → id ≡ unwrap_or given owner.default_branch → branch_of t p given ≡ Some id
meant t p (Some b) owner id there is = ap Some (sym is)
meant t p None owner id there is = ap (option_map (λ o. o.default_branch)) (sym there) ∙ ap Some (sym is)

-- a record of a project is there
owned_is : {A : Type 0} (project_of : A → ℕ) (p : ℕ) (o : Option A) (a : A) → Some a ≡ owned project_of p o → o ≡ Some a
owned_is project_of p None a is = cc
owned_is project_of p (Some b) a is = elim (project_of b == p) as (λ c. Some a ≡ cond c (Some b) None → Some b ≡ Some a) [ true ↦ λ e. sym e | false ↦ λ e. cc ] is

-- ---- refusals

module _ (s : State) (p : ℕ) (given : Option ℕ) (previous : List ℕ) (description : Option (List ℕ)) (cs : List Change) where
  abbrev because : Option Refusal
  because = first (rows (shown s) (CreateCommit p given previous description cs))

  -- what a commit is refused for, by its project and its branch
  abbrev refused_at : Option Project → Option Branch → Option Refusal
  refused_at project branch = first (unless_there no.UnknownProject project ∷ unless_there no.UnknownBranch branch
      ∷ multiple previous ∷ moved (option_and_then (λ b. b.head) branch) previous ∷ change_rows (own_at (shown s).own (option_and_then (λ b. b.head) branch)) cs)

  pub no_project : None ≡ (shown s).project p → because ≡ Some no.UnknownProject
  no_project is = sym (ap (λ o. refused_at o (option_and_then (project_branch (shown s) p) (branch_of (shown s) p given))) is)

  module _ (owner : Project) (id : ℕ) where
    pub no_branch : Some owner ≡ (shown s).project p → branch_of (shown s) p given ≡ Some id → None ≡ project_branch (shown s) p id → because ≡ Some no.UnknownBranch
    no_branch found is none =
        ap (λ o. refused_at o (option_and_then (project_branch (shown s) p) (branch_of (shown s) p given))) (sym found)
        ∙ ap (λ o. refused_at (Some owner) (option_and_then (project_branch (shown s) p) o)) is
        ∙ ap (refused_at (Some owner)) (sym none)

    pub refusal_there : (branch : Branch) (older : ℕ → Option Doc) → Some owner ≡ (shown s).project p → branch_of (shown s) p given ≡ Some id → Some branch ≡ project_branch (shown s) p id
        → older ≡ own_at (shown s).own branch.head
        → because ≡ first (multiple previous ∷ moved branch.head previous ∷ change_rows older cs)
    refusal_there branch older found is there own =
        ap (λ o. refused_at o (option_and_then (project_branch (shown s) p) (branch_of (shown s) p given))) (sym found)
        ∙ ap (λ o. refused_at (Some owner) (option_and_then (project_branch (shown s) p) o)) is
        ∙ ap (refused_at (Some owner)) (sym there)
        ∙ ap (λ o. first (multiple previous ∷ moved branch.head previous ∷ change_rows o cs)) (sym own)

-- ---- what follows

-- the head that a commit meets
head_met : (t : Tables) (p : ℕ) (given : Option ℕ) (id : ℕ) (branch : Branch) → branch_of t p given ≡ Some id → Some branch ≡ project_branch t p id → branch.head ≡ head_of t p given
head_met t p given id branch is there = ap (option_and_then (λ b. b.head)) there ∙ ap (λ o. option_and_then (λ b. b.head) (option_and_then (project_branch t p) o)) (sym is)

-- the commit of the code is the one that is defined
commit_is_new : (s : State) (t p : ℕ) (given : Option ℕ) (description copy : Option (List ℕ)) (id branch_id : ℕ) (branch : Branch)
    → id ≡ made_id s.repository s.next → copy ≡ description → branch_of (shown s) p given ≡ Some branch_id → Some branch ≡ project_branch (shown s) p branch_id
    → record { id = id; project = p; description = copy; previous = branch.head; created = t } ≡ new_commit s.repository (shown s) t p given description
commit_is_new s t p given description copy id branch_id branch at copied is there =
    λ i. record { id = at i; project = p; description = copied i; previous = head_met (shown s) p given branch_id branch is there i; created = t }

module _ (s : State) (t p : ℕ) (given : Option ℕ) (previous : List ℕ) (description : Option (List ℕ)) (cs : List Change) where
  abbrev made_here : Commit
  made_here = new_commit s.repository (shown s) t p given description

  module _ (branch_id : ℕ) (branch : Branch) (older : Option CommitData) (m : MadeCommit) (a : Accepted) where
    follows : branch_of (shown s) p given ≡ Some branch_id → Some branch ≡ project_branch (shown s) p branch_id
        → ((n : ℕ) → s.front ≤ n → value_at s.branches branch_id n ≡ value_at s.branches branch_id s.front)
        → KeepsCommits s → IsNumbered s.graph older
        → own_shown older ≡ own_at (shown s).own made_here.previous → IsBehind s older made_here.previous
        → IsMade s made_here older cs m → IsCommitted s m branch_id branch a
        → Follows s (record { moment = t; command = CreateCommit p given previous description cs }) a
    follows is there stays keeps numbered own ancestry made k =
        let vs = versions_drawn s made_here cs in
        let id_is : m.data.commit.id ≡ made_here.id = ap (λ (c : Commit). c.id) made.commit in
        let now = s.front + 1 in
        record {
          same = k.same;
          front = k.front;
          next = k.next ∙ made.next;
          projects = λ q n. ap (λ x. value_at x q n) k.projects ∙ unchanged now n (value_at s.projects q n);
          branches = λ q n. k.branches q n
              ∙ told_changed (λ o. o) (value_at s.branches) branch_id now (Some (with_head m.data.commit.id branch)) q n (option_map (with_head made_here.id))
              (λ late here. ap (λ c. Some (with_head c branch)) id_is
              ∙ ap (option_map (with_head made_here.id)) (sym (owned_is (λ b. b.project) p (value_at s.branches branch_id s.front) branch there) ∙ sym (stays n (omega arith)) ∙ ap (λ x. value_at s.branches x n) here))
              ∙ ap (λ b. from_on now n (λ o. cond (is_at b q) (option_map (with_head made_here.id) o) o) (value_at s.branches q n)) (sym is);
          tags = λ q n. ap (λ x. value_at x q n) k.tags ∙ unchanged now n (value_at s.tags q n);
          commits = λ q n. ap commit_shown (k.commits q n)
              ∙ told_changed commit_shown (value_at s.commits) m.data.commit.id now (Some m.data) q n (λ o. Some made_here) (λ late here. ap Some made.commit)
              ∙ ap (λ c. from_on now n (λ o. cond (c == q) (Some made_here) o) (commit_shown (value_at s.commits q n))) id_is;
          versions = λ q n. ap versions_shown (k.commits q n)
              ∙ told_changed versions_shown (value_at s.commits) m.data.commit.id now (Some m.data) q n (λ o. vs) (λ late here. made.versions)
              ∙ ap (λ c. from_on now n (λ o. cond (c == q) vs o) (versions_shown (value_at s.commits q n))) id_is;
          own_values = λ q n i x. (ap (λ o. own_shown o x) (k.commits q n)
              ∙ told_changed (λ o. own_shown o x) (value_at s.commits) m.data.commit.id now (Some m.data) q n (λ o. own_in vs x (own_at (shown s).own made_here.previous x))
              (λ late here. ap (λ f. f x) made.own_values ∙ ap (λ f. own_in vs x (f x)) own)
              ∙ ap (λ c. from_on now n (λ o. cond (c == q) (own_in vs x (own_at (shown s).own made_here.previous x)) o) (own_shown (value_at s.commits q n) x)) id_is
              ∙ at_each (nat_le now n) (λ y. cond (made_here.id == q) (own_in vs y (own_at (shown s).own made_here.previous y)) (own_shown (value_at s.commits q n) y)) (own_shown (value_at s.commits q n)) x) i;
          ancestry = λ fresh q n i x. (ancestry_told s keeps older numbered m.data made.number (λ j. ap (λ c. value_at s.commits c j) id_is ∙ fresh j)
              (ancestry_at (shown s).ancestry made_here.previous) ancestry q n x a.state.graph a.state.commits (k.graph ∙ made.graph) k.commits
              ∙ ap (λ c. from_on now n (λ o. cond (c == q) (added c (ancestry_at (shown s).ancestry made_here.previous)) o) (ancestry_of s n q) x) id_is) i;
          known_ids = λ q. ap (λ es. known_shown (find nat_cmp q es)) k.known ∙ shown_put known_shown m.data.commit.project m.identities s.known q
              ∙ ap (λ c. cond (c == q) (has m.identities) (known_shown (find nat_cmp q s.known))) (ap (λ (c : Commit). c.project) made.commit)
              ∙ at_same (λ x. with_identities ((shown s).known x) vs) p q (has m.identities) (known_shown (find nat_cmp q s.known)) made.identities;
          reply = k.reply ∙ ap (λ c. Made (commit_doc c)) made.commit;
        }

    pub commit_follows : (id : ℕ) (copy : Option (List ℕ)) → id ≡ made_id s.repository s.next → copy ≡ description
        → branch_of (shown s) p given ≡ Some branch_id → Some branch ≡ project_branch (shown s) p branch_id
        → ((n : ℕ) → s.front ≤ n → value_at s.branches branch_id n ≡ value_at s.branches branch_id s.front)
        → KeepsCommits s → IsNumbered s.graph older
        → own_shown older ≡ own_at (shown s).own branch.head → IsBehind s older branch.head
        → IsMade s (record { id = id; project = p; description = copy; previous = branch.head; created = t }) older cs m → IsCommitted s m branch_id branch a
        → Follows s (record { moment = t; command = CreateCommit p given previous description cs }) a
    commit_follows id copy at copied is there stays keeps numbered own ancestry made k =
        let head = head_met (shown s) p given branch_id branch is there in
        follows is there stays keeps numbered (own ∙ ap (own_at (shown s).own) head) (subst (IsBehind s older) head ancestry)
        (subst (λ c. IsMade s c older cs m) (commit_is_new s t p given description copy id branch_id branch at copied is there) made) k
