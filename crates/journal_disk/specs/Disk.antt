-- What the calls of a disk do to its reading, and what a crash may leave. A disk that doesn't tell its content has no reading, and
-- nothing is said of its images.
use Rattle.std.specs.Prelude.{◌≡◌, ◌⊎◌, ℕ, ◌+◌, ◌-◌, ◌≤◌, ◌<◌, min, List, ◌++◌, length, take, drop, Option, Some}

-- the old bytes with these at a place
abbrev pub written : List ℕ → ℕ → List ℕ → List ℕ
written old at bytes = take at old ++ (bytes ++ drop (at + length bytes) old)

-- What a crash may make of an image in a write of n bytes at a place, whether it was done or failed: in the range any bytes, and
-- behind the old end any bytes and any length.
pub record Torn (at n : ℕ) (old new : List ℕ) : Type 0 where
  pub part : List ℕ
  pub more : List ℕ
  pub is : new ≡ take at old ++ (part ++ (drop (at + n) old ++ more))
  pub len : length part ≡ min n (length old - at)

-- what it may make of an image in a cut: behind the place any bytes and any length
abbrev pub Cut : ℕ → List ℕ → List ℕ → Type 0
Cut n old new = (more : List ℕ) × (new ≡ take n old ++ more)

-- each image comes by this step from an earlier one
abbrev pub Follows : (List ℕ → List ℕ → Type 0) → (List ℕ → Type 0) → (List ℕ → Type 0) → Type 0
Follows step old new = (c : List ℕ) → new c → (d : List ℕ) × old d × step d c

-- what is still told is as before
abbrev pub Keeps : Option (List ℕ) → Option (List ℕ) → Type 0
Keeps old new = (b : List ℕ) → new ≡ Some b → old ≡ Some b

-- what is still told was told before
abbrev pub Tells : Option (List ℕ) → Option (List ℕ) → Type 0
Tells old new = (b : List ℕ) → new ≡ Some b → (a : List ℕ) × (old ≡ Some a)

-- what is still told is what was told with these bytes at this place, where the place isn't past the end
abbrev pub Writes : ℕ → List ℕ → Option (List ℕ) → Option (List ℕ) → Type 0
Writes at bytes old new = (b : List ℕ) → new ≡ Some b → (a : List ℕ) × (old ≡ Some a) × (at ≤ length a → b ≡ written a at bytes)

-- what is still told is what was told, cut to this length, where it isn't longer
abbrev pub Cuts : ℕ → Option (List ℕ) → Option (List ℕ) → Type 0
Cuts len old new = (b : List ℕ) → new ≡ Some b → (a : List ℕ) × (old ≡ Some a) × (len ≤ length a → b ≡ take len a)

-- each image is the reading
abbrev pub Durable : Option (List ℕ) → (List ℕ → Type 0) → Type 0
Durable reading images = (c : List ℕ) → images c → reading ≡ Some c

-- what a read from a place on, which answers n, puts into a slice: the first n bytes that stand there, none only at the end
pub record Reads (at n : ℕ) (bytes into : List ℕ) : Type 0 where
  pub same : take n into ≡ take n (drop at bytes)
  pub within : n ≤ length bytes - at
  pub some : 0 < length into → at < length bytes → 0 < n

-- Time goes on in a call: what a crash since an earlier moment may have left is what it could have left before the call, or what
-- it may leave after it. While the reading is told, no image is forgotten.
pub record GoesOn {D X : Type 0} (reading : D → Option X) (moment : D → ℕ) (since : D → ℕ → X → Type 0) (images : D → X → Type 0) (old new : D) : Type 0 where
  pub later : moment old ≤ moment new
  pub nothing_else : (t : ℕ) (c : X) → t ≤ moment old → since new t c → since old t c ⊎ images new c
  pub none_forgotten : (t : ℕ) (b c : X) → reading new ≡ Some b → t ≤ moment old → since old t c → since new t c

-- no time goes by, and no image is added or forgotten
pub record Stays {D X : Type 0} (moment : D → ℕ) (since : D → ℕ → X → Type 0) (images : D → X → Type 0) (old new : D) : Type 0 where
  pub same_moment : moment new ≡ moment old
  pub no_image : (c : X) → images new c → images old c
  pub same_images : (c : X) → images old c → images new c
  pub nothing_since : (t : ℕ) (c : X) → since new t c → since old t c
  pub none_forgotten : (t : ℕ) (c : X) → since old t c → since new t c

-- each image that a crash at some moment since old may have left has P
pub record LeavesOnly {D X : Type 0} (moment : D → ℕ) (since : D → ℕ → X → Type 0) (old new : D) (P : X → Type 0) : Type 0 where
  pub later : moment old ≤ moment new
  pub each : (c : X) → since new (moment old) c → P c
  -- what holds of a run that began earlier
  pub before : (t : ℕ) (c : X) → t ≤ moment old → since new t c → since old t c ⊎ P c
