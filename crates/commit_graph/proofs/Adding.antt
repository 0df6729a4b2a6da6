-- One more commit.
use Rattle.std.proofs.Common.{◌≡◌, ℕ, zero, suc, ◌+◌, ◌<◌, ◌≤◌, List, [], ◌∷◌, ◌++◌, length, Option, Some, None, is_some, inl, inr, length-append, refl, sym, ap, ◌∙◌, subst, arith}
use Rattle.std.specs.Prelude.{option_and_then, nat_le, IfSome, slice_get}
use Rattle.std.proofs.lemmas.List.{length-map, map-append}
use Rattle.std.proofs.lemmas.Bool.{cases_lt}
use Rattle.std.proofs.lemmas.Bool.Decides.{nat_tests}
use Rattle.commit_graph.specs.Graphs.{previous_of, ancestor_at, HasDepth, IsGraph, IsEarlier}
use Rattle.commit_graph.specs.Kept.{previous_numbers, IsCommit, IsKept, IsMet}
use Rattle.commit_graph.specs.declared.graph.Commit.{Commit}
use Rattle.commit_graph.proofs.Lists.{get_before, get_last, get_past, previous_before, previous_last, previous_past}
use Rattle.commit_graph.proofs.Ancestors.{first_step, ancestors_stay, depths_stay}
use Rattle.commit_graph.proofs.Meeting.{met_at, met_through, met_stays, commit_stays}

pub known : (n p : ℕ) (previous : Option ℕ) → IfSome previous (λ q. q < n) → previous ≡ Some p → p < n
known n p previous h is = let P : Option ℕ → Type 0 = λ o. IfSome o (λ q. q < n) in subst P is h

module _ (graph : List (Option ℕ)) (previous : Option ℕ) where
  abbrev longer : List (Option ℕ)
  longer = graph ++ previous ∷ []

  differ : (p : ℕ) → None ≡ Some p → ⊥
  differ p e = cc

  pub earlier_more : IsGraph graph → IsEarlier graph previous → IsGraph longer
  earlier_more is early c p e =
      elim (cases_lt c (length graph)) [
        | inl before ↦ is c p (sym (previous_before graph (previous ∷ []) c before) ∙ e)
        | inr from ↦ elim (cases_lt (length graph) c) [
          | inl after ↦
              let none : previous_of longer c ≡ None = previous_past longer c (omega (arith, length-append graph (previous ∷ []))) in
              absurd (differ p (sym none ∙ e))
          | inr upto ↦
              let same : c ≡ length graph = omega arith in
              let last : p < length graph = known (length graph) p previous early (sym (previous_last graph previous) ∙ ap (previous_of longer) (sym same) ∙ e) in
              omega arith
        ]
      ]

  pub depth_first : previous ≡ None → HasDepth longer (length graph) 0
  depth_first none zero = refl
  depth_first none (suc k) =
      ap is_some (first_step longer (length graph) k ∙ ap (option_and_then (λ p. ancestor_at longer p k)) (previous_last graph previous ∙ none))
      ∙ grind (arith, nat_tests)

  pub depth_more : (p d : ℕ) → previous ≡ Some p → p < length graph → IsGraph graph → HasDepth graph p d → HasDepth longer (length graph) (d + 1)
  depth_more p d some lt is has zero = grind (arith, nat_tests)
  depth_more p d some lt is has (suc k) =
      let at : is_some (ancestor_at longer (length graph) (suc k)) ≡ nat_le k d =
      ap is_some (first_step longer (length graph) k ∙ ap (option_and_then (λ q. ancestor_at longer q k)) (previous_last graph previous ∙ some) ∙ ancestors_stay graph (previous ∷ []) p k is lt) ∙ has k in
      at ∙ same k d
    where
      same : (k d : ℕ) → nat_le k d ≡ nat_le (suc k) (d + 1)
      same k d = grind (arith, nat_tests)

  pub commit_first : (new : Commit) → new.previous ≡ previous → previous ≡ None → new.depth ≡ 0 → new.jump ≡ length graph → IsCommit longer (length graph) new
  commit_first new same none zero_deep itself =
      let D : ℕ → Type 0 = λ d. HasDepth longer (length graph) d in
      let J : ℕ → Type 0 = λ j. IsMet longer (length graph) j in
      record {
        previous = same ∙ sym (previous_last graph previous);
        depth = subst D (sym zero_deep) (depth_first none);
        below = omega arith;
        jump = subst J (sym itself) (met_at longer (length graph) 0 (length graph) refl);
        no_later = omega arith;
        earlier = λ deep. absurd (omega arith);
      }

  pub commit_more : (new : Commit) (p d : ℕ) → IsGraph graph → HasDepth graph p d → d ≤ p → p < length graph → IsMet graph p new.jump → new.jump ≤ p
      → new.previous ≡ previous → previous ≡ Some p → new.depth ≡ d + 1 → IsCommit longer (length graph) new
  commit_more new p d is has below lt met no_later same some deeper =
      let D : ℕ → Type 0 = λ e. HasDepth longer (length graph) e in
      let step : previous_of longer (length graph) ≡ Some p = previous_last graph previous ∙ some in
      let jump_lt : new.jump < length graph = omega arith in
      record {
        previous = same ∙ sym (previous_last graph previous);
        depth = subst D (sym deeper) (depth_more p d some lt is has);
        below = omega arith;
        jump = met_through longer (length graph) p new.jump d (depths_stay graph (previous ∷ []) p d is lt has)
            (met_at longer (length graph) 1 p step)
            (met_stays graph (previous ∷ []) p new.jump is lt jump_lt met);
        no_later = omega arith;
        earlier = λ deep. jump_lt;
      }

module _ (cs : List Commit) (new : Commit) where
  seen_more : previous_numbers (cs ++ new ∷ []) ≡ previous_numbers cs ++ new.previous ∷ []
  seen_more = map-append (λ (c : Commit). c.previous) cs (new ∷ [])

  count : length (previous_numbers cs) ≡ length cs
  count = length-map cs (λ (c : Commit). c.previous)

  -- the one behind the others is the new one
  is_last : (x : Commit) → slice_get (cs ++ new ∷ []) (length cs) ≡ Some x → new ≡ x
  is_last x at = cc (get_last cs new)

  kept_more : IsKept cs → IsEarlier (previous_numbers cs) new.previous → IsCommit (previous_numbers cs ++ new.previous ∷ []) (length (previous_numbers cs)) new
      → IsKept (cs ++ new ∷ [])
  kept_more kept early right = record {
    earlier = subst P (sym seen_more) (earlier_more (previous_numbers cs) new.previous kept.earlier early);
    commits = subst Q (sym seen_more) each;
  }
    where
      P : List (Option ℕ) → Type 0
      P graph = IsGraph graph

      Q : List (Option ℕ) → Type 0
      Q graph = (c : ℕ) (x : Commit) → slice_get (cs ++ new ∷ []) c ≡ Some x → IsCommit graph c x

      each : Q (previous_numbers cs ++ new.previous ∷ [])
      each c x at =
          elim (cases_lt c (length cs)) [
            | inl before ↦
                commit_stays (previous_numbers cs) (new.previous ∷ []) c x kept.earlier (omega (arith, count))
                (kept.commits c x (sym (get_before cs (new ∷ []) c before) ∙ at))
            | inr from ↦ elim (cases_lt (length cs) c) [
              | inl after ↦ absurd (no (sym (get_past (cs ++ new ∷ []) c (omega (arith, length-append cs (new ∷ [])))) ∙ at))
              | inr upto ↦ last (omega (arith, count))
            ]
          ]
        where
          no : None ≡ Some x → ⊥
          no e = cc

          last : c ≡ length (previous_numbers cs) → IsCommit (previous_numbers cs ++ new.previous ∷ []) c x
          last same =
              let L : ℕ → Type 0 = λ n. IsCommit (previous_numbers cs ++ new.previous ∷ []) n x in
              let X : Commit → Type 0 = λ y. IsCommit (previous_numbers cs ++ new.previous ∷ []) (length (previous_numbers cs)) y in
              let at_end : slice_get (cs ++ new ∷ []) (length cs) ≡ Some x = ap (slice_get (cs ++ new ∷ [])) (sym count ∙ sym same) ∙ at in
              subst L (sym same) (subst X (is_last x at_end) right)

  -- the same where the old numbers are seen as a graph
  pub kept_behind : (graph : List (Option ℕ)) → previous_numbers cs ≡ graph → IsKept cs → IsEarlier graph new.previous
      → IsCommit (graph ++ new.previous ∷ []) (length graph) new → IsKept (cs ++ new ∷ [])
  kept_behind graph seen kept =
      let P : List (Option ℕ) → Type 0 = λ g. IsEarlier g new.previous → IsCommit (g ++ new.previous ∷ []) (length g) new → IsKept (cs ++ new ∷ []) in
      subst P seen (kept_more kept)
