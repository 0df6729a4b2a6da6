-- What was said of ids over the points, and the value of each id at each point.
use Rattle.std.specs.Prelude.{◌≡◌, ℕ, ◌==◌, nat_le, Bool, ◌&&◌, if◌then◌else◌, List, [], ◌∷◌, Option, None, is_some, unwrap_or, refl}
use Rattle.std.specs.List.{list_any}
use Rattle.std.specs.List.Sorted.{IsStrictlySortedBy}
use Rattle.std.specs.Ordering.{nat_cmp}
use Rattle.std.specs.FinMap.{find}
use Rattle.std.specs.Coded.{Coded, code_by, coded_list, coded×, coded_ℕ, coded_option}

-- The changes of each id, oldest first: from this point on this value, or none. And the last point used, 0 where none is.
pub record Changes (T : Type 0) : Type 0 where
  pub by_id : List (ℕ × List (ℕ × Option T))
  pub last : ℕ

-- changes are stored as the pair of the fields
abbrev pub changes_code : {T : Type 0} → Coded T → Coded (Changes T)
changes_code {T} code =
    code_by (List (ℕ × List (ℕ × Option T)) × ℕ) (coded× (coded_list (coded× coded_ℕ (coded_list (coded× coded_ℕ (coded_option code))))) coded_ℕ)
    (λ c. (c.by_id, c.last)) (λ p. record { by_id = p.0; last = p.1 }) (λ _. refl)

-- What the last of these changes at or before the point says, or the older value where there is none.
abbrev pub last_said : {T : Type 0} → List (ℕ × Option T) → ℕ → Option T → Option T
last_said [] m older = older
last_said (c ∷ cs) m older = last_said cs m (if nat_le c.0 m then c.1 else older)

-- the changes of an id, of which there may be none
abbrev pub changes_of : {T : Type 0} → List (ℕ × List (ℕ × Option T)) → ℕ → List (ℕ × Option T)
changes_of hs q = unwrap_or (find nat_cmp q hs) []

-- the value of an id at a point, by the changes of each id
abbrev pub value_in : {T : Type 0} → List (ℕ × List (ℕ × Option T)) → ℕ → ℕ → Option T
value_in hs q m = last_said (changes_of hs q) m None

-- The value of an id at a point: what was said of the id last at or before the point.
unfoldable pub value_at : {T : Type 0} → Changes T → ℕ → ℕ → Option T
value_at t q m = value_in t.by_id q m

-- the last point used
abbrev pub last_point : {T : Type 0} → Changes T → ℕ
last_point t = t.last

-- The values after a change: from n on the id has v, or none, and all else is as it was.
abbrev pub changed : {T : Type 0} → (ℕ → ℕ → Option T) → ℕ → ℕ → Option T → ℕ → ℕ → Option T
changed values id n v q m = if (id == q) && nat_le n m then v else values q m

-- whether the list has the id
abbrev pub has : List ℕ → ℕ → Bool
has ids q = list_any (λ x. q == x) ids

-- The list of the ids that have a value at the point: it rises, and has just these.
pub record IsListAt {T : Type 0} (values : ℕ → ℕ → Option T) (m : ℕ) (ids : List ℕ) : Type 0 where
  pub ordered : IsStrictlySortedBy nat_cmp ids
  pub all : (q : ℕ) → has ids q ≡ is_some (values q m)
