-- Payloads that are stored with their `@id`.
use Rattle.std.proofs.Common.{arith, Bor, option_map, ◌≡◌, ℕ, ◌≤◌, ◌==◌, max, List, [], ◌∷◌, true, false, cond, Option, Some, None, suc, is_some, IfSome, Ordering, Less, Equal, Greater, refl, ap, sym, subst, ◌∙◌}
use Rattle.std.specs.Prelude.{codes, option_and_then}
use Rattle.std.specs.Ordering.{nat_cmp}
use Rattle.std.specs.Cmp.Lexicographic.{slice_cmp}
use Rattle.std.specs.FinMap.{find, put}
use Rattle.std.specs.FinMap.Entries.{by_order, find-put}
use Rattle.std.proofs.lemmas.Cmp.{nat_list_cmp_total}
use Rattle.sysapi_base.specs.Id.{id_of, id_text}
use Rattle.doc_value.specs.Document.{Document, IsSound, text, object, entries, fields_of, fields_depth, depth}
use Rattle.doc_value.specs.Reference.{text_in}
use Rattle.doc_value.specs.Seen.{document}
use Rattle.doc_value.specs.declared.doc.Doc.{Doc}
use Rattle.doc_value.specs.declared.doc.Doc.TheVariants as doc
use Rattle.doc_value.proofs.Parts.{put_sound}
use Rattle.api_records.specs.Storable.{IsPayload, IsStored, IsShallow}
use Rattle.api_records.specs.declared.record.Version.{Version}
use Rattle.pmap.specs.Shape.{without}
use Rattle.std.specs.List.{All}
use Rattle.std.specs.declared.sync.Arc.{Arc}
use Rattle.std.specs.declared.alloc.Global.{Global}
use Rattle.std.proofs.lemmas.List.Elements.{All-weaker}
use Rattle.repo_state.specs.Payloads.{AreStored, AllStored}
use Rattle.repo_state.proofs.Entries.{find_put, find_without}

by_order_depth : (o : Ordering) (n : ℕ) (a b c : List (List ℕ × Document)) → fields_depth (fields_of a) ≤ n → fields_depth (fields_of b) ≤ n → fields_depth (fields_of c) ≤ n → fields_depth (fields_of (by_order o a b c)) ≤ n
by_order_depth Less n a b c h k l = h
by_order_depth Equal n a b c h k l = k
by_order_depth Greater n a b c h k l = l

put_depth : (n : ℕ) (name s : List ℕ) (es : List (List ℕ × Document)) → fields_depth (fields_of es) ≤ n → fields_depth (fields_of (put (slice_cmp nat_cmp) name (text s) es)) ≤ n
put_depth n name s [] h = omega arith
put_depth n name s (e ∷ es) h =
    let all : max (depth e.1) (fields_depth (fields_of es)) ≤ n = h in
    let rest = put_depth n name s es (omega arith) in
    by_order_depth (slice_cmp nat_cmp name e.0) n _ _ _ (omega arith) (omega arith) (omega (arith, rest))

same_entries : (es : List (List ℕ × Document)) → entries (fields_of es) ≡ es
same_entries [] = refl
same_entries (e ∷ es) = ap (λ l. e ∷ l) (same_entries es)

with_right_id : (es : List (List ℕ × Document)) (id : ℕ) → IsPayload (object (fields_of es)) → id_of (id_text id) ≡ Some id
    → IsPayload (object (fields_of (put (slice_cmp nat_cmp) (codes "@id") (text (id_text id)) es)))
with_right_id es id old reads =
    let before : suc (fields_depth (fields_of es)) ≤ 97 = old.shallow in
    let deep = put_depth 96 (codes "@id") (id_text id) es (omega arith) in
    let new = put (slice_cmp nat_cmp) (codes "@id") (text (id_text id)) es in
    let found : find (slice_cmp nat_cmp) (codes "@id") (entries (fields_of new)) ≡ Some (text (id_text id)) =
    ap (find (slice_cmp nat_cmp) (codes "@id")) (same_entries new) ∙ find-put (slice_cmp nat_cmp) nat_list_cmp_total (codes "@id") (codes "@id") (text (id_text id)) es in
    record {
      is_object = tt;
      sound = put_sound (codes "@id") (text (id_text id)) es (record { range = tt; shallow = omega arith }) (omega arith) old.sound;
      shallow = omega (arith, deep);
      named = λ there. ap (λ o. is_some (option_and_then id_of (option_and_then text_in o))) found ∙ ap is_some reads;
    }

-- a payload whose `@id` was set
pub payload_with_id : (d : Doc) (es new : List (List ℕ × Document)) (id : ℕ) (t : Document)
    → doc.Object es ≡ d → IsPayload (document d) → new ≡ put (slice_cmp nat_cmp) (codes "@id") t es → t ≡ text (id_text id) → id_of (id_text id) ≡ Some id
    → IsPayload (object (fields_of new))
payload_with_id d es new id t is payload set same reads =
    let old : IsPayload (object (fields_of es)) = subst (λ x. IsPayload (document x)) (sym is) payload in
    let put_in : new ≡ put (slice_cmp nat_cmp) (codes "@id") (text (id_text id)) es = set ∙ ap (λ x. put (slice_cmp nat_cmp) (codes "@id") x es) same in
    subst (λ x. IsPayload (object (fields_of x))) (sym put_in) (with_right_id es id old reads)

-- ---- versions

-- the payload of a version that may be there
abbrev pub payload_of : Option Version → Option Doc
payload_of o = option_and_then (λ v. v.payload) o

-- behind one version more, which has a payload or takes the older one out
module _ (x id : ℕ) (new old : List (ℕ × Version)) (w : Version) where
  -- what a look-up finds where the version stands at its identity, or nothing does
  value_set : (o : Option Version) → find nat_cmp x new ≡ cond (id == x) o (find nat_cmp x old) → id ≡ w.identity → payload_of o ≡ w.payload
      → payload_of (find nat_cmp x new) ≡ cond (w.identity == x) w.payload (payload_of (find nat_cmp x old))
  value_set o found is same =
      ap payload_of found
      ∙ elim (id == x) as (λ b. payload_of (cond b o (find nat_cmp x old)) ≡ cond b w.payload (payload_of (find nat_cmp x old))) [ true ↦ same | false ↦ refl ]
      ∙ ap (λ y. cond (y == x) w.payload (payload_of (find nat_cmp x old))) is

  pub value_put : (v : Version) → new ≡ put nat_cmp id v old → id ≡ w.identity → v ≡ w
      → payload_of (find nat_cmp x new) ≡ cond (w.identity == x) w.payload (payload_of (find nat_cmp x old))
  value_put v is at same = value_set (Some v) (ap (find nat_cmp x) is ∙ find_put id v old x) at (ap (λ (u : Version). u.payload) same)

  pub value_without : new ≡ without nat_cmp id old → id ≡ w.identity → None ≡ w.payload
      → payload_of (find nat_cmp x new) ≡ cond (w.identity == x) w.payload (payload_of (find nat_cmp x old))
  value_without is at none = value_set None (ap (find nat_cmp x) is ∙ find_without id old x) at none

pub stored_put : (id : ℕ) (new old : List (ℕ × Version)) (v w : Version) → new ≡ put nat_cmp id v old → v ≡ w → IsStored w.payload → AreStored old → AreStored new
stored_put id new old v w is same right all =
    let stored : IsStored v.payload = subst (λ (u : Version). IsStored u.payload) (sym same) right in
    λ x. subst (λ o. IfSome o (λ (u : Version). IsStored u.payload)) (sym (ap (find nat_cmp x) is ∙ find_put id v old x))
    (elim (id == x) as (λ b. IfSome (cond b (Some v) (find nat_cmp x old)) (λ u. IsStored u.payload)) [ true ↦ stored | false ↦ all x ])

pub stored_without : (id : ℕ) (new old : List (ℕ × Version)) → new ≡ without nat_cmp id old → AreStored old → AreStored new
stored_without id new old is all = λ x. subst (λ o. IfSome o (λ (u : Version). IsStored u.payload)) (sym (ap (find nat_cmp x) is ∙ find_without id old x))
    (elim (id == x) as (λ b. IfSome (cond b None (find nat_cmp x old)) (λ u. IsStored u.payload)) [ true ↦ tt | false ↦ all x ])

-- a payload that is stored fits into the record of its version
pub shallow_stored : (o : Option Doc) → IsStored o → IsShallow o
shallow_stored None h = tt
shallow_stored (Some d) h = (h.sound, h.shallow)

pub all_shallow : (vs : List (Arc Version Global)) → AllStored vs → All (λ (v : Arc Version Global). IsShallow v.value.payload) vs
all_shallow vs all = All-weaker (λ (v : Arc Version Global). IsStored v.value.payload) (λ (v : Arc Version Global). IsShallow v.value.payload) (λ v h. shallow_stored v.value.payload h) vs all

stored_at : (v : Version) (o : Option Version) → Some v ≡ o → IfSome o (λ w. IsStored w.payload) → IsStored v.payload
stored_at v o is all = let P : Option Version → Type 0 = λ p. IfSome p (λ w. IsStored w.payload) in subst P (sym is) all

sound_lent : (r : Option (Bor Doc)) (o : Option Doc) → option_map (λ d. d.now) r ≡ o → IsStored o → IfSome r (λ d. IsSound (document d.now))
sound_lent None o is right = tt
sound_lent (Some d) o is right = let P : Option Doc → Type 0 = λ p. IsStored p in (let h : IsStored (Some d.now) = subst P (sym is) right in h.sound)

-- a payload that is lent from a stored version is sound
pub own_sound : (r : Option (Bor Doc)) (v : Version) (o : Option Version) → option_map (λ d. d.now) r ≡ v.payload → Some v ≡ o → IfSome o (λ w. IsStored w.payload) → IfSome r (λ d. IsSound (document d.now))
own_sound r v o is there all = sound_lent r v.payload is (stored_at v o there all)

pub none_there : {X : Type 0} (o : Option X) → is_some o ≡ false → None ≡ o
none_there None e = refl
none_there (Some x) e = cc
