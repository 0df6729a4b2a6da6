-- What one command leaves, by what it sets, is what its events tell from the new front on.
use Rattle.std.proofs.Common.{◌≡◌, ℕ, ◌+◌, ◌==◌, nat_le, Bool, true, false, cond, List, [], ◌∷◌, Option, Some, option_map, refl, ap, ◌∙◌}
use Rattle.std.specs.Prelude.{◌&&◌}
use Rattle.std.specs.Ordering.{nat_cmp}
use Rattle.std.specs.FinMap.{find}
use Rattle.sysapi_base.specs.Id.{made_id}
use Rattle.timeline.specs.Values.{value_at, changed}
use Rattle.doc_value.specs.declared.doc.Doc.{Doc}
use Rattle.api_records.specs.Records.{project_doc, branch_doc, tag_doc}
use Rattle.api_records.specs.declared.command.Command.TheVariants.{CreateProject, UpdateProject, CreateBranch, CreateTag}
use Rattle.api_records.specs.declared.record.Project.{Project}
use Rattle.api_records.specs.declared.record.Branch.{Branch}
use Rattle.api_records.specs.declared.record.Tag.{Tag}
use Rattle.api_records.specs.declared.refusal.Refusal.TheVariants as no
use Rattle.entry_codec.specs.declared.entry.Entry.{Entry}
use Rattle.entry_codec.specs.declared.reply.Reply.{Reply}
use Rattle.entry_codec.specs.declared.reply.Reply.TheVariants.{Made, Found}
use Rattle.entry_codec.specs.Histories.{next_behind, project_is, branch_is, tag_is, project_by, branch_by, tag_by, commit_by, versions_by, own_by, ancestry_by, known_by, new_project, new_default_branch, new_branch, new_tag, updated}
use Rattle.entry_codec.specs.Replies.{command_reply, told}
use Rattle.repo_state.specs.Stands.{commit_shown, versions_shown, own_shown, ancestry_in, ancestry_of, known_shown}
use Rattle.repo_state.specs.Shown.{shown, events_at, from_on, Follows, IsNext, SetsProject, SetsBranch, SetsTag}
use Rattle.repo_state.specs.declared.state.State.{State}

-- ---- from a point on

both_tests : {A : Type 0} (a b : Bool) (v older : A) → cond (a && b) v older ≡ cond b (cond a v older) older
both_tests true true v older = refl
both_tests true false v older = refl
both_tests false true v older = refl
both_tests false false v older = refl

same_cond : {A : Type 0} (b : Bool) (x : A) → x ≡ cond b x x
same_cond true x = refl
same_cond false x = refl

-- what is changed has its new value from the point on
pub from_changed : {T : Type 0} (values : ℕ → ℕ → Option T) (id n : ℕ) (v : Option T) (q m : ℕ)
    → changed values id n v q m ≡ from_on n m (λ older. cond (id == q) v older) (values q m)
from_changed values id n v q m = both_tests (id == q) (nat_le n m) v (values q m)

-- what is unchanged is so from any point on
pub from_same : {A : Type 0} (n m : ℕ) (x : A) → x ≡ from_on n m (λ older. older) x
from_same n m x = same_cond (nat_le n m) x

-- ---- one record is set

pub project_set : (s mid new : State) (e : Entry) (serial id : ℕ) (value : Option Project) (reply : Reply)
    → IsNext s mid serial → SetsProject mid new id value
    → serial ≡ next_behind s.repository (shown s) e.command
    → project_is id value ∷ [] ≡ events_at s e
    → reply ≡ command_reply s.repository (shown s) e.moment e.command
    → Follows s e (record { state = new; reply = reply })
project_set s mid new e serial id value reply next sets drawn events replied =
    let n = s.front + 1 in
    let old_graph = sets.graph ∙ next.graph in
    let old_commits = sets.commits ∙ next.commits in record {
      same = sets.numbers.same ∙ next.same;
      front = sets.numbers.front ∙ next.front;
      next = sets.numbers.next ∙ next.next ∙ drawn;
      projects = λ q m. sets.projects q m ∙ (λ i. changed (value_at (next.projects i)) id (next.front i) value q m) ∙ from_changed (value_at s.projects) id n value q m ∙ ap (λ es. from_on n m (project_by es q) (value_at s.projects q m)) events;
      branches = λ q m. ap (λ old. value_at old q m) (sets.branches ∙ next.branches) ∙ from_same n m (value_at s.branches q m) ∙ ap (λ es. from_on n m (branch_by es q) (value_at s.branches q m)) events;
      tags = λ q m. ap (λ old. value_at old q m) (sets.tags ∙ next.tags) ∙ from_same n m (value_at s.tags q m) ∙ ap (λ es. from_on n m (tag_by es q) (value_at s.tags q m)) events;
      commits = λ q m. ap (λ old. commit_shown (value_at old q m)) old_commits ∙ from_same n m (commit_shown (value_at s.commits q m)) ∙ ap (λ es. from_on n m (commit_by es q) (commit_shown (value_at s.commits q m))) events;
      versions = λ q m. ap (λ old. versions_shown (value_at old q m)) old_commits ∙ from_same n m (versions_shown (value_at s.commits q m)) ∙ ap (λ es. from_on n m (versions_by es q) (versions_shown (value_at s.commits q m))) events;
      own_values = λ q m. ap (λ old. own_shown (value_at old q m)) old_commits ∙ from_same n m (own_shown (value_at s.commits q m)) ∙ ap (λ es. from_on n m (λ older x. own_by (shown s).own es q x (older x)) (own_shown (value_at s.commits q m))) events;
      ancestry = λ fresh q m. (λ i. ancestry_in (old_graph i) (old_commits i) m q) ∙ from_same n m (ancestry_of s m q) ∙ ap (λ es. from_on n m (ancestry_by (shown s).ancestry es q) (ancestry_of s m q)) events;
      known_ids = λ q. ap (λ old. known_shown (find nat_cmp q old)) (sets.known ∙ next.known) ∙ ap (λ es. known_by es q (known_shown (find nat_cmp q s.known))) events;
      reply = replied;
    }

pub branch_set : (s mid new : State) (e : Entry) (serial id : ℕ) (value : Option Branch) (reply : Reply)
    → IsNext s mid serial → SetsBranch mid new id value
    → serial ≡ next_behind s.repository (shown s) e.command
    → branch_is id value ∷ [] ≡ events_at s e
    → reply ≡ command_reply s.repository (shown s) e.moment e.command
    → Follows s e (record { state = new; reply = reply })
branch_set s mid new e serial id value reply next sets drawn events replied =
    let n = s.front + 1 in
    let old_graph = sets.graph ∙ next.graph in
    let old_commits = sets.commits ∙ next.commits in record {
      same = sets.numbers.same ∙ next.same;
      front = sets.numbers.front ∙ next.front;
      next = sets.numbers.next ∙ next.next ∙ drawn;
      projects = λ q m. ap (λ old. value_at old q m) (sets.projects ∙ next.projects) ∙ from_same n m (value_at s.projects q m) ∙ ap (λ es. from_on n m (project_by es q) (value_at s.projects q m)) events;
      branches = λ q m. sets.branches q m ∙ (λ i. changed (value_at (next.branches i)) id (next.front i) value q m) ∙ from_changed (value_at s.branches) id n value q m ∙ ap (λ es. from_on n m (branch_by es q) (value_at s.branches q m)) events;
      tags = λ q m. ap (λ old. value_at old q m) (sets.tags ∙ next.tags) ∙ from_same n m (value_at s.tags q m) ∙ ap (λ es. from_on n m (tag_by es q) (value_at s.tags q m)) events;
      commits = λ q m. ap (λ old. commit_shown (value_at old q m)) old_commits ∙ from_same n m (commit_shown (value_at s.commits q m)) ∙ ap (λ es. from_on n m (commit_by es q) (commit_shown (value_at s.commits q m))) events;
      versions = λ q m. ap (λ old. versions_shown (value_at old q m)) old_commits ∙ from_same n m (versions_shown (value_at s.commits q m)) ∙ ap (λ es. from_on n m (versions_by es q) (versions_shown (value_at s.commits q m))) events;
      own_values = λ q m. ap (λ old. own_shown (value_at old q m)) old_commits ∙ from_same n m (own_shown (value_at s.commits q m)) ∙ ap (λ es. from_on n m (λ older x. own_by (shown s).own es q x (older x)) (own_shown (value_at s.commits q m))) events;
      ancestry = λ fresh q m. (λ i. ancestry_in (old_graph i) (old_commits i) m q) ∙ from_same n m (ancestry_of s m q) ∙ ap (λ es. from_on n m (ancestry_by (shown s).ancestry es q) (ancestry_of s m q)) events;
      known_ids = λ q. ap (λ old. known_shown (find nat_cmp q old)) (sets.known ∙ next.known) ∙ ap (λ es. known_by es q (known_shown (find nat_cmp q s.known))) events;
      reply = replied;
    }

pub tag_set : (s mid new : State) (e : Entry) (serial id : ℕ) (value : Option Tag) (reply : Reply)
    → IsNext s mid serial → SetsTag mid new id value
    → serial ≡ next_behind s.repository (shown s) e.command
    → tag_is id value ∷ [] ≡ events_at s e
    → reply ≡ command_reply s.repository (shown s) e.moment e.command
    → Follows s e (record { state = new; reply = reply })
tag_set s mid new e serial id value reply next sets drawn events replied =
    let n = s.front + 1 in
    let old_graph = sets.graph ∙ next.graph in
    let old_commits = sets.commits ∙ next.commits in record {
      same = sets.numbers.same ∙ next.same;
      front = sets.numbers.front ∙ next.front;
      next = sets.numbers.next ∙ next.next ∙ drawn;
      projects = λ q m. ap (λ old. value_at old q m) (sets.projects ∙ next.projects) ∙ from_same n m (value_at s.projects q m) ∙ ap (λ es. from_on n m (project_by es q) (value_at s.projects q m)) events;
      branches = λ q m. ap (λ old. value_at old q m) (sets.branches ∙ next.branches) ∙ from_same n m (value_at s.branches q m) ∙ ap (λ es. from_on n m (branch_by es q) (value_at s.branches q m)) events;
      tags = λ q m. sets.tags q m ∙ (λ i. changed (value_at (next.tags i)) id (next.front i) value q m) ∙ from_changed (value_at s.tags) id n value q m ∙ ap (λ es. from_on n m (tag_by es q) (value_at s.tags q m)) events;
      commits = λ q m. ap (λ old. commit_shown (value_at old q m)) old_commits ∙ from_same n m (commit_shown (value_at s.commits q m)) ∙ ap (λ es. from_on n m (commit_by es q) (commit_shown (value_at s.commits q m))) events;
      versions = λ q m. ap (λ old. versions_shown (value_at old q m)) old_commits ∙ from_same n m (versions_shown (value_at s.commits q m)) ∙ ap (λ es. from_on n m (versions_by es q) (versions_shown (value_at s.commits q m))) events;
      own_values = λ q m. ap (λ old. own_shown (value_at old q m)) old_commits ∙ from_same n m (own_shown (value_at s.commits q m)) ∙ ap (λ es. from_on n m (λ older x. own_by (shown s).own es q x (older x)) (own_shown (value_at s.commits q m))) events;
      ancestry = λ fresh q m. (λ i. ancestry_in (old_graph i) (old_commits i) m q) ∙ from_same n m (ancestry_of s m q) ∙ ap (λ es. from_on n m (ancestry_by (shown s).ancestry es q) (ancestry_of s m q)) events;
      known_ids = λ q. ap (λ old. known_shown (find nat_cmp q old)) (sets.known ∙ next.known) ∙ ap (λ es. known_by es q (known_shown (find nat_cmp q s.known))) events;
      reply = replied;
    }

-- ---- commands

pub project_updated : (s mid new : State) (t p : ℕ) (name description : Option (List ℕ)) (branch : Option ℕ) (found changed : Project) (d : Doc)
    → IsNext s mid s.next → SetsProject mid new p (Some changed)
    → Some found ≡ value_at s.projects p s.front
    → changed ≡ updated name description branch found
    → d ≡ project_doc changed
    → Follows s (record { moment = t; command = UpdateProject p name description branch }) (record { state = new; reply = Found d })
project_updated s mid new t p name description branch found changed d next sets there is replied =
    let told_is : Some changed ≡ option_map (updated name description branch) (value_at s.projects p s.front) = ap Some is ∙ ap (option_map (updated name description branch)) there in
    project_set s mid new (record { moment = t; command = UpdateProject p name description branch }) s.next p (Some changed) (Found d) next sets refl
    (ap (λ v. project_is p v ∷ []) told_is) (ap Found replied ∙ ap (told project_doc no.UnknownProject) told_is)

pub branch_made : (s mid new : State) (t p : ℕ) (name : Option (List ℕ)) (head : Option ℕ) (id : ℕ) (branch : Branch) (d : Doc)
    → IsNext s mid (s.next + 1) → SetsBranch mid new id (Some branch)
    → id ≡ made_id s.repository s.next
    → branch ≡ new_branch s.repository (shown s) t p name head
    → d ≡ branch_doc branch
    → Follows s (record { moment = t; command = CreateBranch p name head }) (record { state = new; reply = Made d })
branch_made s mid new t p name head id branch d next sets at is replied =
    branch_set s mid new (record { moment = t; command = CreateBranch p name head }) (s.next + 1) id (Some branch) (Made d) next sets refl
    (λ i. branch_is (at i) (Some (is i)) ∷ []) (ap Made (replied ∙ ap branch_doc is))

pub tag_made : (s mid new : State) (t p : ℕ) (name : Option (List ℕ)) (commit : ℕ) (id : ℕ) (tag : Tag) (d : Doc)
    → IsNext s mid (s.next + 1) → SetsTag mid new id (Some tag)
    → id ≡ made_id s.repository s.next
    → tag ≡ new_tag s.repository (shown s) t p name commit
    → d ≡ tag_doc tag
    → Follows s (record { moment = t; command = CreateTag p name commit }) (record { state = new; reply = Made d })
tag_made s mid new t p name commit id tag d next sets at is replied =
    tag_set s mid new (record { moment = t; command = CreateTag p name commit }) (s.next + 1) id (Some tag) (Made d) next sets refl
    (λ i. tag_is (at i) (Some (is i)) ∷ []) (ap Made (replied ∙ ap tag_doc is))

pub project_made : (s mid one new : State) (t : ℕ) (name description : Option (List ℕ)) (id branch_id : ℕ) (project : Project) (branch : Branch) (d : Doc)
    → IsNext s mid (s.next + 2) → SetsProject mid one id (Some project) → SetsBranch one new branch_id (Some branch)
    → id ≡ made_id s.repository s.next
    → branch_id ≡ made_id s.repository (s.next + 1)
    → project ≡ new_project s.repository (shown s) t name description
    → branch ≡ new_default_branch s.repository (shown s) t
    → d ≡ project_doc project
    → Follows s (record { moment = t; command = CreateProject name description }) (record { state = new; reply = Made d })
project_made s mid one new t name description id branch_id project branch d next sets_project sets at at_branch is is_branch replied =
    let r = s.repository in
    let n = s.front + 1 in
    let front_is = sets_project.numbers.front ∙ next.front in
    let old_branches = sets_project.branches ∙ next.branches in
    let old_commits = sets.commits ∙ sets_project.commits ∙ next.commits in
    let old_graph = sets.graph ∙ sets_project.graph ∙ next.graph in
    let ids = made_id r s.next in
    let branch_ids = made_id r (s.next + 1) in record {
      same = sets.numbers.same ∙ sets_project.numbers.same ∙ next.same;
      front = sets.numbers.front ∙ front_is;
      next = sets.numbers.next ∙ sets_project.numbers.next ∙ next.next;
      projects = λ q m. ap (λ old. value_at old q m) sets.projects ∙ sets_project.projects q m ∙ (λ i. changed (value_at (next.projects i)) (at i) (next.front i) (Some (is i)) q m)
          ∙ from_changed (value_at s.projects) ids n (Some (new_project r (shown s) t name description)) q m;
      branches = λ q m. sets.branches q m ∙ (λ i. changed (value_at (old_branches i)) (at_branch i) (front_is i) (Some (is_branch i)) q m)
          ∙ from_changed (value_at s.branches) branch_ids n (Some (new_default_branch r (shown s) t)) q m;
      tags = λ q m. ap (λ old. value_at old q m) (sets.tags ∙ sets_project.tags ∙ next.tags) ∙ from_same n m (value_at s.tags q m);
      commits = λ q m. ap (λ old. commit_shown (value_at old q m)) old_commits ∙ from_same n m (commit_shown (value_at s.commits q m));
      versions = λ q m. ap (λ old. versions_shown (value_at old q m)) old_commits ∙ from_same n m (versions_shown (value_at s.commits q m));
      own_values = λ q m. ap (λ old. own_shown (value_at old q m)) old_commits ∙ from_same n m (own_shown (value_at s.commits q m));
      ancestry = λ fresh q m. (λ i. ancestry_in (old_graph i) (old_commits i) m q) ∙ from_same n m (ancestry_of s m q);
      known_ids = λ q. ap (λ old. known_shown (find nat_cmp q old)) (sets.known ∙ sets_project.known ∙ next.known);
      reply = ap Made (replied ∙ ap project_doc is);
    }
