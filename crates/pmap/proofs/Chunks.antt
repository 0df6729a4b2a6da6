-- Where the items of chunks stand.
use Rattle.std.proofs.Common.{◌≡◌, ℕ, zero, suc, ◌+◌, ◌*◌, ◌<◌, ◌≤◌, List, [], ◌∷◌, ◌++◌, length, Some, None, option_map, refl, sym, ap, ◌∙◌, subst, arith, lit<, append_assoc, append-nil, length-append}
use Rattle.std.specs.List.{slice_get}
use Rattle.std.specs.Ordering.{nat_cmp}
use Rattle.std.specs.FinMap.{put}
use Rattle.std.specs.declared.sync.Arc.{Arc}
use Rattle.std.specs.declared.vec.Vec.{Vec}
use Rattle.std.specs.declared.alloc.Global.{Global}
use Rattle.std.proofs.lemmas.List.{length-map}
use Rattle.std.proofs.lemmas.Option.{slice_get_past}
use Rattle.pmap.specs.Numbered.{AreNumberedFrom}
use Rattle.pmap.specs.Chunks.{behind, in_chunks, AreFull, IsChunked}
use Rattle.pmap.proofs.Numbered.{put_last, one_numbered_more}

module _ {A : Type 0} where
  get_within : (xs ys : List A) (k : ℕ) → k < length xs → slice_get (xs ++ ys) k ≡ slice_get xs k
  get_within [] ys k lt = absurd (omega (arith, lt))
  get_within (x ∷ xs) ys zero lt = refl
  get_within (x ∷ xs) ys (suc k) lt = get_within xs ys k (omega arith)

  get_past : (xs ys : List A) (n k : ℕ) → n ≡ length xs + k → slice_get (xs ++ ys) n ≡ slice_get ys k
  get_past [] ys n k is = ap (slice_get ys) (omega (arith, is))
  get_past (x ∷ xs) ys zero k is = absurd (omega (arith, is))
  get_past (x ∷ xs) ys (suc n) k is = get_past xs ys n k (omega (arith, is))

  pub past_the_end : {B : Type 0} (f : A → B) (xs : List A) (k : ℕ) → None ≡ option_map f (slice_get xs k) → length xs ≤ k
  past_the_end f [] k is = omega arith
  past_the_end f (x ∷ xs) zero is = cc
  past_the_end f (x ∷ xs) (suc k) is = let le = past_the_end f xs k is in omega (arith, le)

module _ {V : Type 0} where
  length-in_chunks : (es : List (ℕ × Vec (Arc V Global) Global)) → AreFull es → length (in_chunks es) ≡ 16 * length es
  length-in_chunks [] full = refl
  length-in_chunks (e ∷ es) full = omega (arith, length-append (behind e.1.items) (in_chunks es), full.0, length-in_chunks es full.1)

  -- item k of chunk q
  pub in_full : (es : List (ℕ × Vec (Arc V Global) Global)) (last : List V) (q k : ℕ) (chunk : Vec (Arc V Global) Global) → AreFull es → k < 16 → Some chunk ≡ option_map (λ e. e.1) (slice_get es q)
      → slice_get (behind chunk.items) k ≡ slice_get (in_chunks es ++ last) (16 * q + k)
  in_full [] last q k chunk full lt is = cc
  in_full (e ∷ es) last zero k chunk full lt is =
      let same : chunk ≡ e.1 = cc in
      ap (λ c. slice_get (behind c.items) k) same
      ∙ sym (get_within (behind e.1.items) (in_chunks es ++ last) k (omega (arith, full.0)))
      ∙ ap (λ xs. slice_get xs k) (sym (append_assoc (behind e.1.items) (in_chunks es) last))
      ∙ ap (slice_get ((behind e.1.items ++ in_chunks es) ++ last)) (omega arith)
  in_full (e ∷ es) last (suc q) k chunk full lt is =
      in_full es last q k chunk full.1 lt is
      ∙ sym (get_past (behind e.1.items) (in_chunks es ++ last) (16 * suc q + k) (16 * q + k) (omega (arith, full.0)))
      ∙ ap (λ xs. slice_get xs (16 * suc q + k)) (sym (append_assoc (behind e.1.items) (in_chunks es) last))

  -- item k behind the full chunks
  pub in_rest : (es : List (ℕ × Vec (Arc V Global) Global)) (last : List V) (q k : ℕ) → AreFull es → q ≡ length es → slice_get last k ≡ slice_get (in_chunks es ++ last) (16 * q + k)
  in_rest es last q k full is = sym (get_past (in_chunks es) last (16 * q + k) k (omega (arith, length-in_chunks es full)))

  pub in_none : (es : List (ℕ × Vec (Arc V Global) Global)) (last : List V) (q k : ℕ) → AreFull es → length last < 16 → length es < q → None ≡ slice_get (in_chunks es ++ last) (16 * q + k)
  in_none es last q k full short lt =
      sym (slice_get_past (in_chunks es ++ last) (16 * q + k) (omega (arith, length-append (in_chunks es) last, length-in_chunks es full)))

  -- one more chunk
  in_chunks-push : (es : List (ℕ × Vec (Arc V Global) Global)) (e : ℕ × Vec (Arc V Global) Global) → in_chunks (es ++ e ∷ []) ≡ in_chunks es ++ behind e.1.items
  in_chunks-push [] e = append-nil (behind e.1.items)
  in_chunks-push (d ∷ es) e = ap (λ xs. behind d.1.items ++ xs) (in_chunks-push es e) ∙ sym (append_assoc (behind d.1.items) (in_chunks es) (behind e.1.items))

  full-push : (es : List (ℕ × Vec (Arc V Global) Global)) (e : ℕ × Vec (Arc V Global) Global) → AreFull es → length (behind e.1.items) ≡ 16 → AreFull (es ++ e ∷ [])
  full-push [] e full is = (is, tt)
  full-push (d ∷ es) e full is = (full.0, full-push es e full.1 is)

  -- the last chunk and one more item fill a chunk, which is the next full one
  module _ (es new : List (ℕ × Vec (Arc V Global) Global)) (last : List V) (q : ℕ) (chunk : Vec (Arc V Global) Global) (v : V)
      (numbered : AreNumberedFrom 0 es) (next : q ≡ length es) (is : new ≡ put nat_cmp q chunk es) (more : behind chunk.items ≡ last ++ v ∷ []) where
    pushed : new ≡ es ++ (q, chunk) ∷ []
    pushed = is ∙ put_last es 0 q chunk (omega arith) numbered

    pub one_chunk_more : in_chunks new ++ [] ≡ (in_chunks es ++ last) ++ v ∷ []
    one_chunk_more =
        append-nil (in_chunks new)
        ∙ ap in_chunks pushed
        ∙ in_chunks-push es (q, chunk)
        ∙ ap (λ xs. in_chunks es ++ xs) more
        ∙ sym (append_assoc (in_chunks es) last (v ∷ []))

    pub chunked : (len : ℕ) → AreFull es → length chunk.items ≡ 16 → len ≡ length (in_chunks es ++ last) → IsChunked new None (len + 1)
    chunked len full sixteen counted = record {
      numbered = subst (AreNumberedFrom 0) (sym pushed) (one_numbered_more es 0 q chunk (omega arith) numbered);
      full = subst AreFull (sym pushed) (full-push es (q, chunk) full (length-map chunk.items (λ p. p.value) ∙ sixteen));
      short = lit< tt;
      counted = omega (arith, ap length one_chunk_more, length-append (in_chunks es ++ last) (v ∷ []));
    }
