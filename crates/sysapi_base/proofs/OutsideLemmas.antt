-- One call of the outside after another. For the bytes of sources see Rattle.std.proofs.KnownBytes: Consumes-nil is a call that
-- moves none, Consumes-trans one call after another; Keeps-refl and Keeps-trans are the same for calls that fail.
use Rattle.std.proofs.Common.{◌≡◌, ℕ, ◌≤◌, List, [], ◌++◌, Option, Some, None, Result, Ok, IsOk, IsErr, inl, inr, refl, sym, ap, subst, ◌∙◌, arith, append_assoc, append-nil}
use Rattle.std.proofs.lemmas.Bool.{cases_lt}
use Rattle.std.proofs.lemmas.Option.{same_Some}
use Rattle.sysapi_base.specs.Outside.{Passes, Rises, Grows, HasNone}

module _ {A : Type 0} where
  -- no call, or one that adds nothing
  pub Grows-none : (o : Option (List A)) → Grows o o []
  Grows-none None = refl
  Grows-none (Some xs) = sym (append-nil xs)

  pub Grows-then : (a b c : Option (List A)) (x y : List A) → Grows a b x → Grows b c y → Grows a c (x ++ y)
  Grows-then None b c x y p q = subst (λ (t : Option (List A)). Grows t c y) p q
  Grows-then (Some xs) None None x y p q = tt
  Grows-then (Some xs) None (Some zs) x y p q = cc
  Grows-then (Some xs) (Some ys) None x y p q = tt
  Grows-then (Some xs) (Some ys) (Some zs) x y p q = q ∙ ap (λ (t : List A). t ++ y) p ∙ append_assoc xs x y

  -- a fresh object that still tells its items tells all that were added
  pub Grows-from_none : (a b : Option (List A)) (x y : List A) → HasNone a → Grows a b x → b ≡ Some y → y ≡ x
  Grows-from_none None b x y none grows told = cc
  Grows-from_none (Some xs) None x y none grows told = cc
  Grows-from_none (Some xs) (Some ys) x y none grows told = sym (same_Some ys y told) ∙ grows ∙ ap (λ (t : List A). t ++ x) none

-- a count that never falls rose over two steps where it rose in the second
pub Rises-then : (a b c : ℕ) → a ≤ b → b ≤ c → Rises b c → Rises a c
Rises-then a b c first second rises = λ below.
    elim (cases_lt b 18446744073709551615) [
      | inl lt ↦ omega (arith, rises lt)
      | inr ge ↦ omega arith
    ]

-- and where it rose in the first
pub Rises-later : (a b c : ℕ) → Rises a b → b ≤ c → Rises a c
Rises-later a b c rises second = λ below. omega (arith, rises below)

module _ {X : Type 0} (faults : X → ℕ) (IsSteady : X → Type 0) where
  -- no call, which answers Ok
  pub Passes-none : {T E : Type 0} (o : X) (t : T) → Passes {E = E} faults IsSteady o o (Ok t)
  Passes-none o t = record { later = omega arith; failed = λ err. cc; steady = λ steady. (refl, steady, refl) }

  -- two calls, of which the second's answer counts
  pub Passes-then : {T E U F : Type 0} (a b c : X) (r : Result T E) (s : Result U F) → Passes faults IsSteady a b r → Passes faults IsSteady b c s → Passes faults IsSteady a c s
  Passes-then a b c r s p q = record {
    later = let first = p.later in let second = q.later in omega arith;
    failed = λ err. Rises-then (faults a) (faults b) (faults c) p.later q.later (q.failed err);
    steady = λ steady. let first = p.steady steady in let second = q.steady first.1 in (second.0, second.1, second.2 ∙ first.2);
  }

  -- an answer of another type, which is Ok and Err where that of the call was
  pub Passes-as : {T E U F : Type 0} (a b : X) (r : Result T E) (s : Result U F) → (IsOk r → IsOk s) → (IsErr s → IsErr r) → Passes faults IsSteady a b r → Passes faults IsSteady a b s
  Passes-as a b r s ok err p = record {
    later = p.later;
    failed = λ e. p.failed (err e);
    steady = λ steady. let was = p.steady steady in (ok was.0, was.1, was.2);
  }
