-- Changes, commands and entries that are read and spelled.
use Rattle.std.proofs.Common.{◌≡◌, ◌⊎◌, inl, inr, ℕ, suc, ◌^◌, ◌<◌, Bool, true, false, cond, eqb, List, [], ◌∷◌, ◌++◌, length, Option, Some, IfSome, refl, sym, ap, subst, ◌∙◌, arith, IsUtf8}
use Rattle.std.specs.List.{All}
use Rattle.std.proofs.lemmas.Bool.{eqb-true}
use Rattle.doc_value.specs.declared.doc.Doc.{Doc}
use Rattle.api_records.specs.declared.command.Change.{Change}
use Rattle.api_records.specs.declared.command.Command.{Command}
use Rattle.api_records.specs.declared.command.Command.TheVariants.{CreateProject, UpdateProject, DeleteProject, CreateCommit, CreateBranch, DeleteBranch, CreateTag, DeleteTag}
use Rattle.api_records.specs.Spelling.{optional, list_bytes, text_bytes, id_bytes, change_bytes, command_bytes}
use Rattle.entry_bytes.specs.Sound.{IsId, HasProperIdentity, HasKeptPayload}
use Rattle.entry_bytes.specs.Reading.{Reader, made, id_at, optional_at, list_at, text_at, change_at, fields_at, command_at}
use Rattle.entry_bytes.proofs.Parts.{IsBytes, Reads, made_takes, made_again, optional_reads}
use Rattle.entry_bytes.proofs.Fields.{both_of, id_reads, text_reads, list_reads, id_some}
use Rattle.entry_bytes.proofs.Lengths.{length_change}
use Rattle.entry_bytes.proofs.Payloads.{document_reads}

pub optional_of : {A : Type 0} {f : Reader A} {s : A → List ℕ} {T F : A → Type 0} → Reads f s T F → Reads (optional_at f) (optional s) (λ o. IfSome o T) (λ o. IfSome o F)
optional_of {f} {s} {T} {F} p = optional_reads f s T F p

abbrev IsOptionalText : Option (List ℕ) → Type 0
IsOptionalText o = IfSome o IsUtf8

abbrev IsOptionalId : Option ℕ → Type 0
IsOptionalId o = IfSome o IsId

optional_text : Reads (optional_at text_at) (optional text_bytes) IsOptionalText IsOptionalText
optional_text = optional_of text_reads

optional_id : Reads (optional_at id_at) (optional id_bytes) IsOptionalId IsOptionalId
optional_id = optional_of id_reads

-- ---- changes

abbrev change_of : Option ℕ × Option Doc → Change
change_of x = record { identity = x.0; payload = x.1 }

-- identities that have 128 bits, and right payloads
abbrev pub HasKeptParts : Change → Type 0
HasKeptParts c = HasProperIdentity c × HasKeptPayload c

change_reads : Reads change_at change_bytes HasProperIdentity HasKeptParts
change_reads =
    let p = both_of optional_id (optional_of document_reads) in
    record {
      takes = λ bytes x fits e.
          let a = made_takes change_of _ _ _ _ p bytes x fits e in
          subst (λ (c : Change). (bytes ≡ change_bytes c ++ x.1) × HasProperIdentity c) a.1 (a.2, a.3.0);
      again = λ c rest fits lt. made_again change_of _ _ _ _ p (c.identity, c.payload) rest (fits.0, fits.1) lt;
    }

ids : Reads (list_at id_at) (list_bytes id_bytes) (λ ns. All IsId ns × (length ns < 2 ^ 32)) (λ ns. All IsId ns)
ids = list_reads id_at id_bytes IsId IsId id_reads id_some

changes : Reads (list_at change_at) (list_bytes change_bytes) (λ cs. All HasProperIdentity cs × (length cs < 2 ^ 32)) (λ cs. All HasKeptParts cs)
changes = list_reads change_at change_bytes HasProperIdentity HasKeptParts change_reads length_change

-- ---- commands

-- what is known of the fields that were read, but for payloads
abbrev pub WasTaken : Command → Type 0
WasTaken (CreateProject name description) = IfSome name IsUtf8 × IfSome description IsUtf8
WasTaken (UpdateProject project name description branch) = IsId project × IfSome name IsUtf8 × IfSome description IsUtf8 × IfSome branch IsId
WasTaken (DeleteProject project) = IsId project
WasTaken (CreateCommit project branch previous description cs) =
    IsId project × IfSome branch IsId × All IsId previous × IfSome description IsUtf8 × All HasProperIdentity cs × (length cs < 2 ^ 32)
WasTaken (CreateBranch project name head) = IsId project × IfSome name IsUtf8 × IfSome head IsId
WasTaken (DeleteBranch project branch) = IsId project × IsId branch
WasTaken (CreateTag project name commit) = IsId project × IfSome name IsUtf8 × IsId commit
WasTaken (DeleteTag project tag) = IsId project × IsId tag

-- the fields of commands that are read again
abbrev pub CanBeRead : Command → Type 0
CanBeRead (CreateProject name description) = IfSome name IsUtf8 × IfSome description IsUtf8
CanBeRead (UpdateProject project name description branch) = IsId project × IfSome name IsUtf8 × IfSome description IsUtf8 × IfSome branch IsId
CanBeRead (DeleteProject project) = IsId project
CanBeRead (CreateCommit project branch previous description cs) =
    IsId project × IfSome branch IsId × All IsId previous × IfSome description IsUtf8 × All HasKeptParts cs
CanBeRead (CreateBranch project name head) = IsId project × IfSome name IsUtf8 × IfSome head IsId
CanBeRead (DeleteBranch project branch) = IsId project × IsId branch
CanBeRead (CreateTag project name commit) = IsId project × IfSome name IsUtf8 × IsId commit
CanBeRead (DeleteTag project tag) = IsId project × IsId tag

abbrev Row : ℕ → List ℕ → Command × List ℕ → Type 0
Row tag bytes x = (tag ∷ bytes ≡ command_bytes x.0 ++ x.1) × WasTaken x.0

row_takes : {A : Type 0} {f : Reader A} {s : A → List ℕ} {T F : A → Type 0} (tag : ℕ) (make : A → Command) (p : Reads f s T F)
    → ((a : A) → command_bytes (make a) ≡ tag ∷ s a) → ((a : A) → T a → WasTaken (make a))
    → (bytes : List ℕ) (x : Command × List ℕ) → IsBytes bytes → made make f bytes ≡ Some x → Row tag bytes x
row_takes {f} {s} {T} {F} tag make p spelled kept bytes x fits e =
    let a = made_takes make f s T F p bytes x fits e in
    let parts : tag ∷ bytes ≡ command_bytes (make a.0) ++ x.1 = ap (λ (l : List ℕ). tag ∷ l) a.2 ∙ ap (λ (l : List ℕ). l ++ x.1) (sym (spelled a.0)) in
    subst (λ (c : Command). (tag ∷ bytes ≡ command_bytes c ++ x.1) × WasTaken c) a.1 (parts, kept a.0 a.3)

pick : {A : Type 0} (n tag : ℕ) (f g : Option A) (z : Option A) → cond (eqb tag n) f g ≡ z → ((tag ≡ n) × (f ≡ z)) ⊎ (g ≡ z)
pick n tag f g z e = picked (eqb tag n) refl e
  where
    picked : (b : Bool) → eqb tag n ≡ b → cond b f g ≡ z → ((tag ≡ n) × (f ≡ z)) ⊎ (g ≡ z)
    picked true is e = inl (eqb-true tag n is, e)
    picked false is e = inr e

fields_take : (tag : ℕ) (bytes : List ℕ) (x : Command × List ℕ) → IsBytes bytes → fields_at tag bytes ≡ Some x → Row tag bytes x
fields_take tag bytes x fits e = elim (pick 1 tag _ _ (Some x) e) [
  | inl a ↦ subst (λ (t : ℕ). Row t bytes x) (sym a.0)
      (row_takes 1 (λ x. CreateProject x.0 x.1) (both_of optional_text optional_text) (λ a. refl) (λ a t. (t.0, t.1)) bytes x fits a.1)
  | inr e ↦ elim (pick 2 tag _ _ (Some x) e) [
    | inl a ↦ subst (λ (t : ℕ). Row t bytes x) (sym a.0)
        (row_takes 2 (λ x. UpdateProject x.0 x.1.0 x.1.1.0 x.1.1.1) (both_of id_reads (both_of optional_text (both_of optional_text optional_id))) (λ a. refl)
        (λ a t. (t.0, t.1.0, t.1.1.0, t.1.1.1)) bytes x fits a.1)
    | inr e ↦ elim (pick 3 tag _ _ (Some x) e) [
      | inl a ↦ subst (λ (t : ℕ). Row t bytes x) (sym a.0) (row_takes 3 (λ x. DeleteProject x) id_reads (λ a. refl) (λ a t. t) bytes x fits a.1)
      | inr e ↦ elim (pick 4 tag _ _ (Some x) e) [
        | inl a ↦ subst (λ (t : ℕ). Row t bytes x) (sym a.0)
            (row_takes 4 (λ x. CreateCommit x.0 x.1.0 x.1.1.0 x.1.1.1.0 x.1.1.1.1)
            (both_of id_reads (both_of optional_id (both_of ids (both_of optional_text changes)))) (λ a. refl)
            (λ a t. (t.0, t.1.0, t.1.1.0.0, t.1.1.1.0, t.1.1.1.1.0, t.1.1.1.1.1)) bytes x fits a.1)
        | inr e ↦ elim (pick 5 tag _ _ (Some x) e) [
          | inl a ↦ subst (λ (t : ℕ). Row t bytes x) (sym a.0)
              (row_takes 5 (λ x. CreateBranch x.0 x.1.0 x.1.1) (both_of id_reads (both_of optional_text optional_id)) (λ a. refl) (λ a t. (t.0, t.1.0, t.1.1)) bytes x fits a.1)
          | inr e ↦ elim (pick 6 tag _ _ (Some x) e) [
            | inl a ↦ subst (λ (t : ℕ). Row t bytes x) (sym a.0)
                (row_takes 6 (λ x. DeleteBranch x.0 x.1) (both_of id_reads id_reads) (λ a. refl) (λ a t. (t.0, t.1)) bytes x fits a.1)
            | inr e ↦ elim (pick 7 tag _ _ (Some x) e) [
              | inl a ↦ subst (λ (t : ℕ). Row t bytes x) (sym a.0)
                  (row_takes 7 (λ x. CreateTag x.0 x.1.0 x.1.1) (both_of id_reads (both_of optional_text id_reads)) (λ a. refl) (λ a t. (t.0, t.1.0, t.1.1)) bytes x fits a.1)
              | inr e ↦ elim (pick 8 tag _ _ (Some x) e) [
                | inl a ↦ subst (λ (t : ℕ). Row t bytes x) (sym a.0)
                    (row_takes 8 (λ x. DeleteTag x.0 x.1) (both_of id_reads id_reads) (λ a. refl) (λ a t. (t.0, t.1)) bytes x fits a.1)
                | inr e ↦ absurd cc
              ]
            ]
          ]
        ]
      ]
    ]
  ]
]

command_takes : (bytes : List ℕ) (x : Command × List ℕ) → IsBytes bytes → command_at bytes ≡ Some x → (bytes ≡ command_bytes x.0 ++ x.1) × WasTaken x.0
command_takes [] x fits e = absurd cc
command_takes (tag ∷ bytes) x fits e = fields_take tag bytes x (λ i. fits (suc i)) e

command_again : (c : Command) (rest : List ℕ) → CanBeRead c → length (command_bytes c ++ rest) < 2 ^ 32 → command_at (command_bytes c ++ rest) ≡ Some (c, rest)
command_again (CreateProject n d) rest h lt =
    made_again _ _ _ _ _ (both_of optional_text optional_text) (n, d) rest (h.0, h.1) (omega (arith, lt))
command_again (UpdateProject p n d b) rest h lt =
    made_again _ _ _ _ _ (both_of id_reads (both_of optional_text (both_of optional_text optional_id))) (p, (n, (d, b))) rest (h.0, (h.1, (h.2, h.3))) (omega (arith, lt))
command_again (DeleteProject p) rest h lt = made_again _ _ _ _ _ id_reads p rest h (omega (arith, lt))
command_again (CreateCommit p b cs d xs) rest h lt =
    made_again _ _ _ _ _ (both_of id_reads (both_of optional_id (both_of ids (both_of optional_text changes)))) (p, (b, (cs, (d, xs)))) rest (h.0, (h.1, (h.2, (h.3, h.4)))) (omega (arith, lt))
command_again (CreateBranch p n b) rest h lt =
    made_again _ _ _ _ _ (both_of id_reads (both_of optional_text optional_id)) (p, (n, b)) rest (h.0, (h.1, h.2)) (omega (arith, lt))
command_again (DeleteBranch p b) rest h lt = made_again _ _ _ _ _ (both_of id_reads id_reads) (p, b) rest (h.0, h.1) (omega (arith, lt))
command_again (CreateTag p n c) rest h lt =
    made_again _ _ _ _ _ (both_of id_reads (both_of optional_text id_reads)) (p, (n, c)) rest (h.0, (h.1, h.2)) (omega (arith, lt))
command_again (DeleteTag p x) rest h lt = made_again _ _ _ _ _ (both_of id_reads id_reads) (p, x) rest (h.0, h.1) (omega (arith, lt))

pub command_reads : Reads command_at command_bytes WasTaken CanBeRead
command_reads = record { takes = command_takes; again = command_again }
