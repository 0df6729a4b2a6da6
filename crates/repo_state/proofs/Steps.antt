-- One more entry: what a state shows behind it is what the history and the entry tell.
use Rattle.std.proofs.Common.{rules, arith, ◌≡◌, ℕ, ◌+◌, ◌-◌, ◌≤◌, nat_le, true, false, cond, List, ◌∷◌, length, drop, Result, Ok, Err, suc, refl, ap, sym, subst, ◌∙◌}
use Rattle.api_records.specs.declared.command.Command.{Command}
use Rattle.entry_codec.specs.declared.entry.Entry.{Entry}
use Rattle.entry_codec.specs.Histories.{Tables, tables, tables_at, first_entries, events_of, next_behind, project_by, branch_by, tag_by, commit_by, versions_by, own_by, ancestry_by, known_by}
use Rattle.entry_codec.specs.Refusals.{first, rows}
use Rattle.entry_codec.specs.Replies.{command_reply}
use Rattle.repo_state.specs.Stands.{StandsFor, Accepts}
use Rattle.repo_state.specs.Shown.{shown, from_on, Follows, Judges}
use Rattle.repo_state.specs.declared.state.State.{State}
use Rattle.repo_state.proofs.Fresh.{fresh}
use Rattle.repo_state.specs.declared.accept.Accepted.{Accepted}
use Rattle.repo_state.specs.declared.accept.AcceptError.{AcceptError}
use Rattle.repo_state.specs.declared.accept.AcceptError.TheVariants.{Refused, Memory}

-- ---- the first entries of a history

whole : (m : ℕ) (past : List Entry) → length past ≤ m → first_entries m past ≡ past
whole m past h =
    let none : length past - m ≡ 0 = omega arith in
    ap (λ k. drop k past) none

shorter : (m : ℕ) (e : Entry) (past : List Entry) → m ≤ length past → first_entries m (e ∷ past) ≡ first_entries m past
shorter m e past h =
    let more : (length (e ∷ past)) - m ≡ suc (length past - m) = omega arith in
    ap (λ k. drop k (e ∷ past)) more

-- ---- a state at its front

pub tables_shown : (s : State) (past : List Entry) → StandsFor s past → shown s ≡ tables s.repository past
tables_shown s past st =
    let all : tables_at s.repository s.front past ≡ tables s.repository past = ap (tables s.repository) (whole s.front past (omega (arith, st.front))) in
    let projects = λ (q : ℕ). st.projects q s.front ∙ ap (λ (t : Tables). t.project q) all in
    let branches = λ (q : ℕ). st.branches q s.front ∙ ap (λ (t : Tables). t.branch q) all in
    let tags = λ (q : ℕ). st.tags q s.front ∙ ap (λ (t : Tables). t.tag q) all in
    let commits = λ (q : ℕ). st.commits q s.front ∙ ap (λ (t : Tables). t.commit q) all in
    let versions = λ (q : ℕ). st.versions q s.front ∙ ap (λ (t : Tables). t.versions q) all in
    let own_values = λ (q : ℕ). st.own_values q s.front ∙ ap (λ (t : Tables). t.own q) all in
    let ancestry = λ (q : ℕ). st.ancestry q s.front ∙ ap (λ (t : Tables). t.ancestry q) all in
    λ i. record {
      next = st.next i;
      project = λ q. projects q i;
      branch = λ q. branches q i;
      tag = λ q. tags q i;
      commit = λ q. commits q i;
      versions = λ q. versions q i;
      own = λ q. own_values q i;
      ancestry = λ q. ancestry q i;
      known = λ q. st.known_ids q i;
    }

-- ---- one more entry

-- a value that one more entry changes is told from its point on, and the old one below it
stepped : {A : Type 0} (tell : List Entry → A) (change : A → A) (e : Entry) (past : List Entry) (m : ℕ)
    → change (tell past) ≡ tell (e ∷ past)
    → from_on (length past + 1) m change (tell (first_entries m past)) ≡ tell (first_entries m (e ∷ past))
stepped tell change e past m told = elim (nat_le (length past + 1) m) as (λ b. nat_le (length past + 1) m ≡ b → cond b (change (tell (first_entries m past))) (tell (first_entries m past)) ≡ tell (first_entries m (e ∷ past))) [
  | true ↦ λ t.
      let within : length past + 1 ≤ m = grind arith in
      let long : length (e ∷ past) ≤ m = omega arith in
      let short : length past ≤ m = omega arith in
      ap (λ es. change (tell es)) (whole m past short) ∙ told ∙ ap tell (sym (whole m (e ∷ past) long))
  | false ↦ λ f.
      let below : m ≤ length past = grind arith in
      ap tell (sym (shorter m e past below))
] refl

-- the same of what a state shows, where r is the new state's repository
upon : {A : Type 0} (s : State) (past : List Entry) (e : Entry) (r : ℕ) (tell : Tables → A) (change : Tables → A → A) (m : ℕ) (new old : A)
    → StandsFor s past → r ≡ s.repository
    → change (tables s.repository past) (tell (tables s.repository past)) ≡ tell (tables s.repository (e ∷ past))
    → new ≡ from_on (s.front + 1) m (change (shown s)) old
    → old ≡ tell (tables_at s.repository m past)
    → new ≡ tell (tables_at r m (e ∷ past))
upon s past e r tell change m new old st same told is was =
    is
    ∙ (λ i. from_on (st.front i + 1) m (change (tables_shown s past st i)) (was i))
    ∙ stepped (λ es. tell (tables s.repository es)) (change (tables s.repository past)) e past m told
    ∙ ap (λ n. tell (tables_at n m (e ∷ past))) (sym same)

stands_behind : (s : State) (past : List Entry) (e : Entry) (a : Accepted) → Follows s e a → StandsFor s past → StandsFor a.state (e ∷ past)
stands_behind s past e a f st =
    let r = s.repository in
    let events = λ (t : Tables). events_of r t e.moment e.command in
    let same = tables_shown s past st in record {
      front = f.front ∙ ap (λ n. n + 1) st.front ∙ search rules;
      next = f.next ∙ ap (λ t. next_behind r t e.command) same ∙ ap (λ n. (tables n (e ∷ past)).next) (sym f.same);
      projects = λ q m. upon s past e a.state.repository (λ t. t.project q) (λ t older. project_by (events t) q older) m _ _ st f.same refl (f.projects q m) (st.projects q m);
      branches = λ q m. upon s past e a.state.repository (λ t. t.branch q) (λ t older. branch_by (events t) q older) m _ _ st f.same refl (f.branches q m) (st.branches q m);
      tags = λ q m. upon s past e a.state.repository (λ t. t.tag q) (λ t older. tag_by (events t) q older) m _ _ st f.same refl (f.tags q m) (st.tags q m);
      commits = λ q m. upon s past e a.state.repository (λ t. t.commit q) (λ t older. commit_by (events t) q older) m _ _ st f.same refl (f.commits q m) (st.commits q m);
      versions = λ q m. upon s past e a.state.repository (λ t. t.versions q) (λ t older. versions_by (events t) q older) m _ _ st f.same refl (f.versions q m) (st.versions q m);
      own_values = λ q m. upon s past e a.state.repository (λ t. t.own q) (λ t older x. own_by t.own (events t) q x (older x)) m _ _ st f.same refl (f.own_values q m) (st.own_values q m);
      ancestry = λ q m. upon s past e a.state.repository (λ t. t.ancestry q) (λ t older. ancestry_by t.ancestry (events t) q older) m _ _ st f.same refl (f.ancestry (fresh s past st) q m) (st.ancestry q m);
      known_ids = λ q. f.known_ids q ∙ (λ i. known_by (events (same i)) q (st.known_ids q i)) ∙ ap (λ n. (tables n (e ∷ past)).known q) (sym f.same);
    }

-- a state that judges by its own tables judges by the history that it stands for
judged_entry : (s : State) (past : List Entry) (e : Entry) (answer : Result Accepted AcceptError) → Judges s e answer → StandsFor s past → Accepts s past e answer
judged_entry s past e (Ok a) j st =
    let same = tables_shown s past st in record {
      allowed = ap (λ t. first (rows t e.command)) (sym same) ∙ j.0;
      same = j.1.same;
      stands = stands_behind s past e a j.1 st;
      replies = j.1.reply ∙ ap (λ t. command_reply s.repository t e.moment e.command) same;
    }
judged_entry s past e (Err (Refused why)) j st = ap (λ t. first (rows t e.command)) (sym (tables_shown s past st)) ∙ j
judged_entry s past e (Err Memory) j st = tt

pub judged : (s : State) (past : List Entry) (t : ℕ) (one other : Command) (answer : Result Accepted AcceptError) → one ≡ other
    → Judges s (record { moment = t; command = one }) answer → StandsFor s past → Accepts s past (record { moment = t; command = other }) answer
judged s past t one other answer same j st = subst (λ command. Accepts s past (record { moment = t; command = command }) answer) same (judged_entry s past (record { moment = t; command = one }) answer j st)
