-- The search for a serial.
use Rattle.std.proofs.Common.{rules, arith, ◌≡◌, ℕ, zero, suc, ◌≤◌, ◌⊎◌, ⊎_elim, subst, refl, ◌+◌, ◌-◌, ◌^◌, ◌<◌, Bool, true, false, cond, ap, ◌∙◌}
use Rattle.sysapi_base.specs.Id.{made_id}
use Rattle.api_records.specs.Changes.{free, free_from, IsLeast}

one_less : (m n : ℕ) → n < m → m - n ≡ suc (m - (n + 1))
one_less m n h = omega arith

pub free_from-unknown : (r : ℕ) (known : ℕ → Bool) (n : ℕ) → n < 2 ^ 62 → known (made_id r n) ≡ false → free_from r known n ≡ n
unfolding free_from
free_from-unknown r known n h e = ap (λ room. free r known room n) (one_less (2 ^ 62) n h) ∙ ap (λ b. cond b (free r known (2 ^ 62 - (n + 1)) (n + 1)) n) e

equal_or_less : (n k : ℕ) → n ≤ k → (n ≡ k) ⊎ (n < k)
equal_or_less n k h = first_of (search rules, grind arith)

least : (r : ℕ) (known : ℕ → Bool) (room n : ℕ) → free r known room n < n + room → IsLeast r known n (free r known room n)
least r known zero n h = absurd (omega arith)
least r known (suc room) n h = elim (known (made_id r n)) as (λ b. known (made_id r n) ≡ b → cond b (free r known room (n + 1)) n < n + suc room → IsLeast r known n (cond b (free r known room (n + 1)) n)) [
  | true ↦ λ e h.
      let rest : IsLeast r known (n + 1) (free r known room (n + 1)) = least r known room (n + 1) (omega (arith, h)) in
      (omega (arith, rest.0), rest.1, λ k a b. ⊎_elim (λ (same : n ≡ k). subst (λ m. known (made_id r m) ≡ true) same e) (λ (more : n < k). rest.2 k (omega (arith, more)) b) (equal_or_less n k a))
  | false ↦ λ e h. (omega arith, e, λ k a b. absurd (omega (arith, a, b)))
] refl h

-- a serial that is found is the least
pub free_from-least : (r : ℕ) (known : ℕ → Bool) (n : ℕ) → n < 2 ^ 62 → free_from r known n < 2 ^ 62 → IsLeast r known n (free_from r known n)
unfolding free_from
free_from-least r known n h below = least r known (2 ^ 62 - n) n (omega (arith, h, below))

pub free_from-known : (r : ℕ) (known : ℕ → Bool) (n : ℕ) → n < 2 ^ 62 → known (made_id r n) ≡ true → free_from r known n ≡ free_from r known (n + 1)
unfolding free_from
free_from-known r known n h e = ap (λ room. free r known room n) (one_less (2 ^ 62) n h) ∙ ap (λ b. cond b (free r known (2 ^ 62 - (n + 1)) (n + 1)) n) e
