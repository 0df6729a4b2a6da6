-- One more data version.
use Rattle.std.proofs.Common.{arith, ◌≡◌, ℕ, ◌+◌, ◌<◌, suc, length, drop, Bool, List, [], ◌∷◌, ◌++◌, ◌==◌, cond, map, Option, refl, ap, sym, subst, ◌∙◌}
use Rattle.std.proofs.Math.ListN.{get_or}
use Rattle.std.proofs.Math.Seq.{drop-cons}
use Rattle.std.specs.declared.sync.Arc.{Arc}
use Rattle.std.specs.declared.alloc.Global.{Global}
use Rattle.std.proofs.lemmas.List.Elements.{All-push}
use Rattle.doc_value.specs.declared.doc.Doc.{Doc}
use Rattle.api_records.specs.Storable.{IsStored}
use Rattle.entry_codec.specs.Histories.{own_in}
use Rattle.repo_state.specs.Payloads.{AllStored}
use Rattle.api_records.specs.Changes.{named, version, versions, serial_behind, last_serial}
use Rattle.api_records.specs.declared.command.Change.{Change}
use Rattle.api_records.specs.declared.record.Version.{Version}

pushed : {X : Type 0} (old : List X) (x : X) (more : List X) → (old ++ x ∷ []) ++ more ≡ old ++ x ∷ more
pushed [] x more = refl
pushed (o ∷ old) x more = ap (λ l. o ∷ l) (pushed old x more)

next_place : (i : ℕ) → suc i ≡ i + 1
next_place i = omega arith

-- a list from a place on begins with what stands there
pub split_at : {X : Type 0} (xs : List X) (i : ℕ) (x : X) → i < length xs → x ≡ get_or xs i x → drop i xs ≡ x ∷ drop (i + 1) xs
split_at xs i x less is = drop-cons xs i x less ∙ (λ j. sym is j ∷ drop (next_place i j) xs)

-- what was made and what the rest makes
pub versions_made : (r : ℕ) (known : ℕ → Bool) (n behind : ℕ) (c : Change) (rest all : List Change) (old new : List Version) (v : Version)
    → all ≡ c ∷ rest → new ≡ old ++ v ∷ [] → v ≡ version r known n c → behind ≡ serial_behind r known n (named c)
    → new ++ versions r known behind rest ≡ old ++ versions r known n all
versions_made r known n behind c rest all old new v split push is next =
    (λ i. push i ++ versions r known (next i) rest)
    ∙ pushed old v (versions r known (serial_behind r known n (named c)) rest)
    ∙ ap (λ w. old ++ w ∷ versions r known (serial_behind r known n (named c)) rest) is
    ∙ ap (λ cs. old ++ versions r known n cs) (sym split)

pub serials_drawn : (r : ℕ) (known : ℕ → Bool) (n behind : ℕ) (c : Change) (rest all : List Change)
    → all ≡ c ∷ rest → behind ≡ serial_behind r known n (named c)
    → last_serial r known behind rest ≡ last_serial r known n all
serials_drawn r known n behind c rest all split next = ap (λ m. last_serial r known m rest) next ∙ ap (last_serial r known n) (sym split)

-- ---- versions that are shared

abbrev pub values_of : List (Arc Version Global) → List Version
values_of vs = map (λ (v : Arc Version Global). v.value) vs

values_pushed : (old : List (Arc Version Global)) (a : Arc Version Global) → values_of (old ++ a ∷ []) ≡ values_of old ++ a.value ∷ []
values_pushed [] a = refl
values_pushed (o ∷ old) a = ap (λ l. o.value ∷ l) (values_pushed old a)

pub one_more : (old new : List (Arc Version Global)) (a : Arc Version Global) (v : Version) → new ≡ old ++ a ∷ [] → a.value ≡ v → values_of new ≡ values_of old ++ v ∷ []
one_more old new a v is same = ap values_of is ∙ values_pushed old a ∙ ap (λ w. values_of old ++ w ∷ []) same

pub one_more_stored : (old new : List (Arc Version Global)) (a : Arc Version Global) (v : Version) → new ≡ old ++ a ∷ [] → a.value ≡ v → AllStored old → IsStored v.payload → AllStored new
one_more_stored old new a v is same all right =
    let P : Arc Version Global → Type 0 = λ w. IsStored w.value.payload in
    let Q : Version → Type 0 = λ w. IsStored w.payload in
    subst AllStored (sym is) (All-push P old a all (subst Q (sym same) right))

-- what a version leaves of a value, and then the rest
pub own_more : (vs : List (Arc Version Global)) (i x : ℕ) (a : Arc Version Global) (new old : Option Doc) → i < length vs → a ≡ get_or vs i a
    → new ≡ cond (a.value.identity == x) a.value.payload old → own_in (values_of (drop (i + 1) vs)) x new ≡ own_in (values_of (drop i vs)) x old
own_more vs i x a new old less is set = ap (own_in (values_of (drop (i + 1) vs)) x) set ∙ ap (λ l. own_in (values_of l) x old) (sym (split_at vs i a less is))
