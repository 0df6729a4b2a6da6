-- What the calls of a keeper do to its records.
use Rattle.std.specs.Prelude.{◌≡◌, ◌⊎◌, ℕ, ◌+◌, ◌<◌, Bool, false, if◌then◌else◌, Result, is_ok, List, [], ◌∷◌, ◌++◌, Option, Some, None}

-- what every keeper tells
pub record Figures : Type 0 where
  pub repository : ℕ
  pub count : ℕ
  pub used : ℕ
  pub room : ℕ
  pub spare : ℕ
  pub doubt : Bool

-- all but the spare is the same
pub record SameFigures (old new : Figures) : Type 0 where
  pub repository : new.repository ≡ old.repository
  pub count : new.count ≡ old.count
  pub used : new.used ≡ old.used
  pub room : new.room ≡ old.room
  pub doubt : new.doubt ≡ old.doubt

-- one record more, of this cost, and no doubt
pub record OneMore (cost : ℕ) (old new : Figures) : Type 0 where
  pub repository : new.repository ≡ old.repository
  pub count : new.count ≡ old.count + 1
  pub used : new.used ≡ old.used + cost
  pub room : new.room ≡ old.room
  pub doubt : new.doubt ≡ false

-- no record more, whatever the doubt
pub record NoMore (old new : Figures) : Type 0 where
  pub repository : new.repository ≡ old.repository
  pub count : new.count ≡ old.count
  pub used : new.used ≡ old.used
  pub room : new.room ≡ old.room

-- no doubt at Ok, the same one after a failure; the rest is the same
pub record SettledTo {T E : Type 0} (result : Result T E) (old new : Figures) : Type 0 where
  pub repository : new.repository ≡ old.repository
  pub count : new.count ≡ old.count
  pub used : new.used ≡ old.used
  pub room : new.room ≡ old.room
  pub spare : new.spare ≡ old.spare
  pub doubt : new.doubt ≡ (if is_ok result then false else old.doubt)

-- each of the first n records has the place that it had
abbrev pub KeepsPlaces : ℕ → (ℕ → ℕ) → (ℕ → ℕ) → Type 0
KeepsPlaces n old new = (i : ℕ) → i < n → new i ≡ old i

-- An image of a keeper is a list of records, or none where what is left isn't sound. This one is the kept records, or these and one
-- more.
abbrev pub IsOldOrMore : List (List ℕ) → List ℕ → Option (List (List ℕ)) → Type 0
IsOldOrMore kept r image = (image ≡ Some kept) ⊎ (image ≡ Some (kept ++ r ∷ []))

-- this one is the kept records, or these and the record in doubt
abbrev pub IsKeptWith : List (List ℕ) → Option (List ℕ) → Option (List (List ℕ)) → Type 0
IsKeptWith kept None image = image ≡ Some kept
IsKeptWith kept (Some r) image = IsOldOrMore kept r image
