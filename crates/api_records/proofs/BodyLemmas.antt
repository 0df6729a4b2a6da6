-- How the judgements of bodies go on, key by key and member by member.
use Rattle.std.proofs.Common.{◌≡◌, ℕ, List, [], ◌∷◌, ◌++◌, Option, Some, Ok, Err, length, get_or, drop, ◌+◌, ◌<◌, refl, sym, ap, subst, ◌∙◌, append_assoc}
use Rattle.std.proofs.lemmas.List.{at_drop_more}
use Rattle.std.specs.Prelude.{⊤, codes}
use Rattle.doc_value.specs.Document.{Document, object, Fields, no_fields, field, entries, fields_of, field_at}
use Rattle.doc_value.specs.Seen.{document}
use Rattle.doc_value.specs.declared.doc.Doc.{Doc}
use Rattle.doc_value.specs.declared.doc.Doc.TheVariants as doc
use Rattle.api_records.specs.declared.body.ShapeError.{ShapeError}
use Rattle.api_records.specs.declared.body.ShapeError.TheVariants.{BadShape, Memory}
use Rattle.api_records.specs.Bodies.{Judged, and_then, IsWrong, right_id, payload_at}

-- fields as entries, and back
pub entries_back : (es : List (List ℕ × Document)) → entries (fields_of es) ≡ es
entries_back [] = refl
entries_back (e ∷ es) = ap (λ l. e ∷ l) (entries_back es)

pub fields_back : (fs : Fields) → fields_of (entries fs) ≡ fs
fields_back no_fields = refl
fields_back (field k d fs) = ap (field k d) (fields_back fs)

-- one member and the rest
abbrev pub each : {A : Type 0} → Judged A → Judged (List A) → Judged (List A)
each j rest = and_then j (λ a. and_then rest (λ xs. Ok (a ∷ xs)))

-- those that are done, before the rest
abbrev pub behind : {A : Type 0} → List A → Judged (List A) → Judged (List A)
behind done rest = and_then rest (λ xs. Ok (done ++ xs))

join : {A : Type 0} (done : List A) (x : A) (rest : Judged (List A)) → behind done (each (Ok x) rest) ≡ behind (done ++ x ∷ []) rest
join done x (Ok xs) = ap Ok (sym (append_assoc done (x ∷ []) xs))
join done x (Err key) = refl

pub one_more : {A : Type 0} (done : List A) (j : Judged A) (x : A) (rest : Judged (List A)) → j ≡ Ok x → behind done (each j rest) ≡ behind (done ++ x ∷ []) rest
one_more done j x rest e = ap (λ k. behind done (each k rest)) e ∙ join done x rest

pub wrong_there : {A B : Type 0} (e : ShapeError) (j : Judged A) (next : A → Judged B) → IsWrong e j → IsWrong e (and_then j next)
wrong_there (BadShape key) j next h = ap (λ k. and_then k next) h
wrong_there Memory j next h = tt

pub wrong_member : {A : Type 0} (e : ShapeError) (done : List A) (j : Judged A) (rest : Judged (List A)) → IsWrong e j → IsWrong e (behind done (each j rest))
wrong_member e done j rest h = wrong_there e (each j rest) (λ xs. Ok (done ++ xs)) (wrong_there e j (λ a. and_then rest (λ xs. Ok (a ∷ xs))) h)

-- a payload as it is kept
pub kept : (found : Option Document) (payload copy : Doc) (es : List (List ℕ × Document)) (u : ⊤) → Some (document payload) ≡ found → payload ≡ doc.Object es → right_id (field_at (codes "@id") (document payload)) ≡ Ok u → copy ≡ payload → payload_at found ≡ Ok (Some copy)
kept found payload copy es u there is right same =
    let right_fields : right_id (field_at (codes "@id") (object (fields_of es))) ≡ Ok u = subst (λ (d : Doc). right_id (field_at (codes "@id") (document d)) ≡ Ok u) is right in
    ap payload_at (sym there) ∙ ap (λ (d : Doc). payload_at (Some (document d))) is
    ∙ ap (λ (j : Judged ⊤). and_then j (λ r. Ok (Some (doc.Object (entries (fields_of es)))))) right_fields
    ∙ ap (λ (l : List (List ℕ × Document)). Ok (Some (doc.Object l))) (entries_back es) ∙ ap (λ (d : Doc). Ok (Some d)) (sym is ∙ sym same)

-- the document at a place, and those behind it
pub next_doc : (docs : List Doc) (i : ℕ) (d : Doc) → i < length docs → d ≡ get_or docs i d → drop i docs ≡ d ∷ drop (i + 1) docs
next_doc docs i d less is = at_drop_more (λ (xs : List Doc). xs) docs i d less ∙ ap (λ (x : Doc). x ∷ drop (i + 1) docs) (sym is)
