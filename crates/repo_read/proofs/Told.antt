-- Lists: the documents of the records at the ids that a state lists are those of the records at all ids that were drawn.
use Rattle.std.proofs.Common.{arith, ◌≡◌, ℕ, ◌+◌, ◌<◌, Bool, true, false, cond, List, [], ◌∷◌, ◌++◌, length, get_or, take, map, Option, Some, None, is_some, option_map, IfSome, refl, ap, sym, ◌∙◌, append-nil}
use Rattle.std.specs.List.{filter, filter_map, cons_option}
use Rattle.std.specs.Option.{option_to_list}
use Rattle.std.proofs.lemmas.List.{take_more, map-append}
use Rattle.std.proofs.lemmas.List.Elements.{filter_map-append, All-push, All-same}
use Rattle.std.proofs.lemmas.Grind.{common_steps}
use Rattle.std.specs.declared.sync.Arc.{Arc}
use Rattle.std.specs.declared.alloc.Global.{Global}
use Rattle.doc_value.specs.Seen.{documents}
use Rattle.doc_value.specs.declared.doc.Doc.{Doc}
use Rattle.api_records.specs.Records.{project_doc, branch_doc, tag_doc, commit_doc, version_doc}
use Rattle.api_records.specs.declared.record.Version.{Version}
use Rattle.entry_codec.specs.Histories.{Tables, project_branch, project_tag, project_commit}
use Rattle.entry_codec.specs.Replies.{drawn, found, is_on, commit_on}
use Rattle.entry_codec.specs.declared.reply.Reply.TheVariants.{Page}
use Rattle.repo_state.specs.Lists.{is_listed, ids_listed}
use Rattle.repo_read.specs.Listed.{IsListable, AreListable, call_of, kind_of, project_of, doc_at}
use Rattle.repo_read.specs.declared.listing.Listing.{Listing}
use Rattle.repo_read.specs.declared.listing.Listing.TheVariants.{Projects, Branches, Tags, Commits}

-- ---- maps that leave out

one_item : (o : Option Doc) → option_to_list o ≡ cons_option o []
one_item None = refl
one_item (Some d) = refl

-- one more item
pub told_more : (f : ℕ → Option Doc) (xs : List ℕ) (i x : ℕ) (docs longer : List Doc) (o : Option Doc)
    → i < length xs → x ≡ get_or xs i x → docs ≡ filter_map f (take i xs) → o ≡ f x → longer ≡ docs ++ option_to_list o
    → longer ≡ filter_map f (take (i + 1) xs)
told_more f xs i x docs longer o lt at so is more =
    more
    ∙ ap (λ ds. ds ++ option_to_list o) so
    ∙ ap (λ l. filter_map f (take i xs) ++ l) (one_item o ∙ ap (λ p. cons_option p []) is)
    ∙ sym (filter_map-append f (take i xs) (x ∷ []))
    ∙ ap (filter_map f) (ap (λ y. take i xs ++ y ∷ []) at ∙ sym (take_more xs i x lt))

-- the same of data versions
pub version_told_more : (xs : List (Arc Version Global)) (i : ℕ) (x : Arc Version Global) (docs longer : List Doc) (d : Doc)
    → i < length xs → x ≡ get_or xs i x → docs ≡ map version_doc (map (λ (v : Arc Version Global). v.value) (take i xs)) → d ≡ version_doc x.value → longer ≡ docs ++ d ∷ []
    → longer ≡ map version_doc (map (λ (v : Arc Version Global). v.value) (take (i + 1) xs))
version_told_more xs i x docs longer d lt at so is more =
    let value : Arc Version Global → Version = λ v. v.value in
    more
    ∙ ap (λ ds. ds ++ d ∷ []) so
    ∙ ap (λ e. map version_doc (map value (take i xs)) ++ e ∷ []) is
    ∙ sym (map-append version_doc (map value (take i xs)) (x.value ∷ []))
    ∙ ap (map version_doc) (sym (map-append value (take i xs) (x ∷ [])) ∙ ap (map value) (ap (λ y. take i xs ++ y ∷ []) at ∙ sym (take_more xs i x lt)))

-- what may be listed, with one more document
pub listable_more : (docs longer : List Doc) (o : Option Doc) → AreListable docs → IfSome o IsListable → longer ≡ docs ++ option_to_list o → AreListable longer
listable_more docs longer None all one more = All-same IsListable longer docs (more ∙ append-nil docs) all
listable_more docs longer (Some d) all one more = All-same IsListable longer (docs ++ d ∷ []) more (All-push IsListable docs d all one)

-- what a test keeps out gives nothing
all_kept : {Y : Type 0} (f : ℕ → Option Y) (p : ℕ → Bool) → ((q : ℕ) → p q ≡ false → f q ≡ None) → (xs : List ℕ) → filter_map f (filter p xs) ≡ filter_map f xs
all_kept f p none [] = refl
all_kept f p none (x ∷ xs) = elim (p x) as (λ b. p x ≡ b → filter_map f (cond b (x ∷ filter p xs) (filter p xs)) ≡ cons_option (f x) (filter_map f xs)) [
  | true ↦ λ e. ap (cons_option (f x)) (all_kept f p none xs)
  | false ↦ λ e. all_kept f p none xs ∙ ap (λ o. cons_option o (filter_map f xs)) (sym (none x e))
] refl

mapped_first : {A B : Type 0} (f : A → B) (o : Option A) (ys : List B) (xs : List A) → ys ≡ map f xs → cons_option (option_map f o) ys ≡ map f (cons_option o xs)
mapped_first f None ys xs e = e
mapped_first f (Some a) ys xs e = ap (λ l. f a ∷ l) e

mapped : {A B : Type 0} (f : A → B) (g : ℕ → Option A) (xs : List ℕ) → filter_map (λ q. option_map f (g q)) xs ≡ map f (filter_map g xs)
mapped f g [] = refl
mapped f g (x ∷ xs) = mapped_first f (g x) (filter_map (λ q. option_map f (g q)) xs) (filter_map g xs) (mapped f g xs)

-- ---- the four lists

absent : {A B : Type 0} (f : A → B) (o : Option A) → is_some o ≡ false → option_map f o ≡ None
absent f None e = refl
absent f (Some a) e = cc

absent_on : {A B : Type 0} (f : A → B) (b : Bool) (o : Option A) → is_some o ≡ false → option_map f (cond b o None) ≡ None
absent_on f true o e = absent f o e
absent_on f false o e = refl

not_listed : (t : Tables) (of : Listing) (q : ℕ) → is_listed (kind_of of) (project_of of) t q ≡ false → doc_at t of q ≡ None
not_listed t Projects q e = absent project_doc (t.project q) e
not_listed t (Branches p) q e = absent branch_doc (project_branch t p q) e
not_listed t (Tags p) q e = absent tag_doc (project_tag t p q) e
not_listed t (Commits p branch) q e = absent_on commit_doc (is_on t p branch q) (project_commit t p q) e

-- the ids that are listed tell as much as all that were drawn
pub all_told : (r : ℕ) (t : Tables) (of : Listing) → filter_map (doc_at t of) (ids_listed r (kind_of of) (project_of of) t) ≡ filter_map (doc_at t of) (drawn r t.next)
all_told r t of = all_kept (doc_at t of) (is_listed (kind_of of) (project_of of) t) (not_listed t of) (drawn r t.next)

-- the documents of a list are its reply
pub page_of : (r : ℕ) (t : Tables) (of : Listing) → Page (documents (filter_map (doc_at t of) (drawn r t.next))) ≡ found r t (call_of of)
page_of r t Projects = ap (λ ds. Page (documents ds)) (mapped project_doc t.project (drawn r t.next))
page_of r t (Branches p) = ap (λ ds. Page (documents ds)) (mapped branch_doc (project_branch t p) (drawn r t.next))
page_of r t (Tags p) = ap (λ ds. Page (documents ds)) (mapped tag_doc (project_tag t p) (drawn r t.next))
page_of r t (Commits p branch) = ap (λ ds. Page (documents ds)) (mapped commit_doc (commit_on t p branch) (drawn r t.next))
