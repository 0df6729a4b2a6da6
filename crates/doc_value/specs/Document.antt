-- A document as plain data: a JSON value (RFC 8259) whose numbers are whole. A text is the list of its UTF-8 bytes (RFC 3629).
use Rattle.std.specs.Prelude.{◌≡◌, ℕ, suc, max, ℤ, pos, negsuc, ◌<◌, ◌≤◌, ◌^◌, List, [], ◌∷◌, Bool, Option, Some, None, ⊤}
use Rattle.std.specs.Coded.{Coded, coded_ℕ, coded_ℤ, coded_bool, coded_list}
use Rattle.std.specs.Ordering.{nat_cmp}
use Rattle.std.specs.Cmp.Lexicographic.{slice_cmp}
use Rattle.std.specs.List.Sorted.{IsStrictlySortedBy}
use Rattle.std.specs.FinMap.{find}
use Rattle.std.specs.Str.{IsUtf8}
use Rattle.std.proofs.Common.{ap, ap₂, refl}
use base.Stored.{Gv, gnil, gnum, gcons}

mutual
  -- null, a truth value, a whole number, a text, a list of documents, or a finite map from texts to documents (RFC 8259, section 3)
  pub data Document : Type 0 where
    null : Document
    truth : Bool → Document
    whole : ℤ → Document
    text : List ℕ → Document
    list : Members → Document
    object : Fields → Document

  -- the members of a list, in order
  pub data Members : Type 0 where
    no_members : Members
    member : Document → Members → Members

  -- the fields of an object, each a name and a document. Those of a proper document stand in the order of their names.
  pub data Fields : Type 0 where
    no_fields : Fields
    field : List ℕ → Document → Fields → Fields

-- ---- members and fields as lists

abbrev pub members_of : List Document → Members
members_of [] = no_members
members_of (d ∷ ds) = member d (members_of ds)

abbrev pub fields_of : List (List ℕ × Document) → Fields
fields_of [] = no_fields
fields_of (e ∷ es) = field e.0 e.1 (fields_of es)

abbrev pub entries : Fields → List (List ℕ × Document)
entries no_fields = []
entries (field k d fs) = (k, d) ∷ entries fs

abbrev pub names : Fields → List (List ℕ)
names no_fields = []
names (field k d fs) = k ∷ names fs

-- ---- parts of a document

-- The document at a name: the one of the field with that name of an object. A document that is no object has none.
abbrev pub field_at : List ℕ → Document → Option Document
field_at name (object fs) = find (slice_cmp nat_cmp) name (entries fs)
field_at name d = None

-- a text as a document, or null where there is none
abbrev pub text_or_null : Option (List ℕ) → Document
text_or_null None = null
text_or_null (Some s) = text s

-- ---- soundness: the limits that documents keep (RFC 8259, section 9, leaves them to each implementation)

-- A scalar has depth 0, an empty list or object has depth 1, and any other has one more than its deepest member.
abbrev mutual
  pub depth : Document → ℕ
  depth (list ds) = suc (members_depth ds)
  depth (object fs) = suc (fields_depth fs)
  depth scalar = 0

  -- the depth of the deepest member, and 0 where there is none
  pub members_depth : Members → ℕ
  members_depth no_members = 0
  members_depth (member d ds) = max (depth d) (members_depth ds)

  pub fields_depth : Fields → ℕ
  fields_depth no_fields = 0
  fields_depth (field k d fs) = max (depth d) (fields_depth fs)

-- A whole number is from -2^63 to 2^64 - 1. Here `negsuc n` is -1 - n.
abbrev pub IsInRange : ℤ → Type 0
IsInRange (pos n) = n < 2 ^ 64
IsInRange (negsuc n) = n < 2 ^ 63

-- each whole number in the document is in range
abbrev mutual
  pub HasRange : Document → Type 0
  HasRange (whole z) = IsInRange z
  HasRange (list ds) = MembersHaveRange ds
  HasRange (object fs) = FieldsHaveRange fs
  HasRange other = ⊤

  pub MembersHaveRange : Members → Type 0
  MembersHaveRange no_members = ⊤
  MembersHaveRange (member d ds) = HasRange d × MembersHaveRange ds

  pub FieldsHaveRange : Fields → Type 0
  FieldsHaveRange no_fields = ⊤
  FieldsHaveRange (field k d fs) = HasRange d × FieldsHaveRange fs

abbrev pub max_depth : ℕ
max_depth = 100

-- each whole number is in range, and the depth is at most 100
pub record IsSound (d : Document) : Type 0 where
  pub range : HasRange d
  pub shallow : depth d ≤ max_depth

-- ---- proper documents

-- Each text and name is UTF-8, and the names of each object rise in the order of their bytes, so that each stands once (RFC 8259,
-- section 4, asks for names that differ). It holds of what is seen of any `Doc`, since a `String` is UTF-8 and a `BTreeMap` is in order.
abbrev mutual
  pub IsProper : Document → Type 0
  IsProper (text s) = IsUtf8 s
  IsProper (list ds) = AreProper ds
  IsProper (object fs) = IsStrictlySortedBy (slice_cmp nat_cmp) (names fs) × FieldsAreProper fs
  IsProper other = ⊤

  pub AreProper : Members → Type 0
  AreProper no_members = ⊤
  AreProper (member d ds) = IsProper d × AreProper ds

  pub FieldsAreProper : Fields → Type 0
  FieldsAreProper no_fields = ⊤
  FieldsAreProper (field k d fs) = IsUtf8 k × IsProper d × FieldsAreProper fs

-- ---- how the logic stores a document: as a tree of numbers

abbrev before : Gv → Gv
before gnil = gnil
before (gnum n) = gnil
before (gcons a b) = a

abbrev behind : Gv → Gv
behind gnil = gnil
behind (gnum n) = gnil
behind (gcons a b) = b

abbrev mutual
  code_document : Document → Gv
  code_document null = gnil
  code_document (truth b) = gcons (gnum 0) (coded_bool.code b)
  code_document (whole z) = gcons (gnum 1) (coded_ℤ.code z)
  code_document (text s) = gcons (gnum 2) ((coded_list coded_ℕ).code s)
  code_document (list ds) = gcons (gnum 3) (code_members ds)
  code_document (object fs) = gcons (gnum 4) (code_fields fs)

  code_members : Members → Gv
  code_members no_members = gnil
  code_members (member d ds) = gcons (code_document d) (code_members ds)

  code_fields : Fields → Gv
  code_fields no_fields = gnil
  code_fields (field k d fs) = gcons ((coded_list coded_ℕ).code k) (gcons (code_document d) (code_fields fs))

mutual
  pub same_document : (x y : Document) → code_document x ≡ code_document y → x ≡ y
  same_document null null e = refl
  same_document (truth b) (truth c) e = ap truth (coded_bool.inj b c (ap behind e))
  same_document (whole z) (whole w) e = ap whole (coded_ℤ.inj z w (ap behind e))
  same_document (text s) (text t) e = ap text ((coded_list coded_ℕ).inj s t (ap behind e))
  same_document (list ds) (list es) e = ap list (same_members ds es (ap behind e))
  same_document (object fs) (object gs) e = ap object (same_fields fs gs (ap behind e))
  same_document _ _ e = cc

  same_members : (x y : Members) → code_members x ≡ code_members y → x ≡ y
  same_members no_members no_members e = refl
  same_members (member d ds) (member f fs) e = ap₂ member (same_document d f (ap before e)) (same_members ds fs (ap behind e))
  same_members _ _ e = cc

  same_fields : (x y : Fields) → code_fields x ≡ code_fields y → x ≡ y
  same_fields no_fields no_fields e = refl
  same_fields (field k d fs) (field l f gs) e =
      let keys : k ≡ l = (coded_list coded_ℕ).inj k l (ap before e) in
      let docs : d ≡ f = same_document d f (ap (λ g. before (behind g)) e) in
      let rest : fs ≡ gs = same_fields fs gs (ap (λ g. behind (behind g)) e) in
      λ i. field (keys i) (docs i) (rest i)
  same_fields _ _ e = cc

abbrev pub coded_document : Coded Document
coded_document = record { code = code_document; inj = same_document }
