-- Look-ups within a commit: where the project and the commit are there, the last row decides.
use Rattle.std.proofs.Common.{◌≡◌, ◌==◌, ℕ, Bool, true, false, cond, List, [], ◌∷◌, map, Option, Some, None, is_some, option_map, IfSome, refl, ap, sym}
use Rattle.std.specs.List.{All, find}
use Rattle.std.proofs.lemmas.List.Elements.{All-head, All-tail}
use Rattle.std.specs.declared.sync.Arc.{Arc}
use Rattle.std.specs.declared.alloc.Global.{Global}
use Rattle.doc_value.specs.declared.doc.Doc.{Doc}
use Rattle.api_records.specs.Records.{version_doc}
use Rattle.api_records.specs.declared.record.Version.{Version}
use Rattle.api_records.specs.declared.refusal.Refusal.{Refusal}
use Rattle.api_records.specs.declared.refusal.Refusal.TheVariants as no
use Rattle.entry_codec.specs.declared.call.ReadCall.TheVariants.{OneVersion, OneElement}
use Rattle.entry_codec.specs.Histories.{Tables}
use Rattle.entry_codec.specs.Refusals.{first, unless_there, unknown_project, unknown_commit}
use Rattle.entry_codec.specs.Replies.{unless_refused, told, version_in, element_at, looked_up}

-- ---- what is found

pub found_has : {X : Type 0} (P : X → Type 0) (test : X → Bool) (xs : List X) → All P xs → IfSome (find test xs) P
found_has P test [] all = tt
found_has P test (x ∷ xs) all = elim (test x) as (λ b. IfSome (cond b (Some x) (find test xs)) P) [
  | true ↦ All-head P x xs all
  | false ↦ found_has P test xs (All-tail P x xs all)
]

pub same_version : (xs : List (Arc Version Global)) (id : ℕ) → option_map (λ (v : Arc Version Global). v.value) (find (λ (v : Arc Version Global). v.value.id == id) xs) ≡ version_in (map (λ (v : Arc Version Global). v.value) xs) id
same_version [] id = refl
same_version (x ∷ xs) id = elim (x.value.id == id) as (λ b. option_map (λ (v : Arc Version Global). v.value) (cond b (Some x) (find (λ (v : Arc Version Global). v.value.id == id) xs)) ≡ cond b (Some x.value) (version_in (map (λ (v : Arc Version Global). v.value) xs) id)) [
  | true ↦ refl
  | false ↦ same_version xs id
]

-- ---- rows

-- a row of a record that is there doesn't hold
pub there : {A B : Type 0} (f : A → B) (why : Refusal) (o : Option A) (shown : Option B) → is_some o ≡ true → option_map f o ≡ shown → None ≡ unless_there why shown
there f why None shown e is = cc
there f why (Some a) shown e is = ap (unless_there why) is

pub version_reply : (r : ℕ) (t : Tables) (p c v : ℕ) (o : Option Version) → None ≡ unknown_project t p → None ≡ unknown_commit t p c → o ≡ version_in (t.versions c) v
    → told version_doc no.UnknownChange o ≡ looked_up r t (OneVersion p c v)
version_reply r t p c v None e f g = λ i. unless_refused (first (e i ∷ f i ∷ unless_there no.UnknownChange (g i) ∷ [])) (told version_doc no.UnknownChange (g i))
version_reply r t p c v (Some version) e f g = λ i. unless_refused (first (e i ∷ f i ∷ unless_there no.UnknownChange (g i) ∷ [])) (told version_doc no.UnknownChange (g i))

pub element_reply : (r : ℕ) (t : Tables) (p c x : ℕ) (o : Option Doc) → None ≡ unknown_project t p → None ≡ unknown_commit t p c → o ≡ element_at t c x
    → told (λ d. d) no.UnknownElement o ≡ looked_up r t (OneElement p c x)
element_reply r t p c x None e f g = λ i. unless_refused (first (e i ∷ f i ∷ unless_there no.UnknownElement (g i) ∷ [])) (told (λ d. d) no.UnknownElement (g i))
element_reply r t p c x (Some doc) e f g = λ i. unless_refused (first (e i ∷ f i ∷ unless_there no.UnknownElement (g i) ∷ [])) (told (λ d. d) no.UnknownElement (g i))
