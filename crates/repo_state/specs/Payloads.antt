-- Own values that may be stored.
use Rattle.std.specs.Prelude.{ℕ, ℤ, pos, negsuc, List, Option, Some, None, IfSome}
use Rattle.std.specs.Ordering.{nat_cmp}
use Rattle.std.specs.FinMap.{find}
use Rattle.std.proofs.Math.Bridge.{le_prop}
use Rattle.std.proofs.Props.{props}
use mathlib.Core.HLevel.{×_prop, Unit-prop}
use Rattle.doc_value.specs.Document.{Document, null, truth, whole, text, list, object, Members, no_members, member, Fields, no_fields, field, IsInRange, HasRange, MembersHaveRange, FieldsHaveRange}
use Rattle.doc_value.specs.declared.doc.Doc.{Doc}
use Rattle.std.specs.List.{All}
use Rattle.std.specs.declared.sync.Arc.{Arc}
use Rattle.std.specs.declared.alloc.Global.{Global}
use Rattle.api_records.specs.Storable.{IsObject, IsStored}
use Rattle.api_records.specs.declared.record.Version.{Version}

-- the version at each id has a payload that may be stored, or none
abbrev pub AreStored : List (ℕ × Version) → Type 0
AreStored own = (x : ℕ) → IfSome (find nat_cmp x own) (λ v. IsStored v.payload)

-- each version of a list has
abbrev pub AllStored : List (Arc Version Global) → Type 0
AllStored vs = All (λ (v : Arc Version Global). IsStored v.value.payload) vs

-- ---- a fact of a struct's field has one proof at most

number-prop : (z : ℤ) → IsProp (IsInRange z)
number-prop (pos n) = le_prop
number-prop (negsuc n) = le_prop

mutual
  pub HasRange-prop : (d : Document) → IsProp (HasRange d)
  HasRange-prop null = Unit-prop
  HasRange-prop (truth b) = Unit-prop
  HasRange-prop (whole z) = number-prop z
  HasRange-prop (text s) = Unit-prop
  HasRange-prop (list ds) = members-prop ds
  HasRange-prop (object fs) = fields-prop fs

  members-prop : (ds : Members) → IsProp (MembersHaveRange ds)
  members-prop no_members = Unit-prop
  members-prop (member d ds) = ×_prop (HasRange-prop d) (members-prop ds)

  fields-prop : (fs : Fields) → IsProp (FieldsHaveRange fs)
  fields-prop no_fields = Unit-prop
  fields-prop (field k d fs) = ×_prop (HasRange-prop d) (fields-prop fs)

pub IsObject-prop : (d : Document) → IsProp (IsObject d)
IsObject-prop null = λ x y. absurd x
IsObject-prop (truth b) = λ x y. absurd x
IsObject-prop (whole z) = λ x y. absurd x
IsObject-prop (text s) = λ x y. absurd x
IsObject-prop (list ds) = λ x y. absurd x
IsObject-prop (object fs) = Unit-prop

pub IsStored-prop : (o : Option Doc) → IsProp (IsStored o)
IsStored-prop None = Unit-prop
IsStored-prop (Some d) = Prim.hlevel (IsObject-prop, HasRange-prop, props)
