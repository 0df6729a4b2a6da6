-- Entries seen as changes.
use Rattle.std.proofs.Common.{◌≡◌, ℕ, List, [], ◌∷◌, ◌++◌, Option, None, Some, option_map, refl, sym, ap, ap₂, ◌∙◌}
use Rattle.std.specs.List.{slice_get}
use Rattle.std.proofs.lemmas.List.{map-append}
use Rattle.std.proofs.lemmas.Option.{slice_get-map}
use Rattle.timeline.specs.declared.history.Entry.{Entry}
use Rattle.timeline.specs.Seen.{seen, said}

mapped_twice : {A B C : Type 0} (f : A → B) (g : B → C) (o : Option A) → option_map g (option_map f o) ≡ option_map (λ x. g (f x)) o
mapped_twice f g None = refl
mapped_twice f g (Some x) = refl

module _ {T : Type 0} (es : List (Entry T)) (cs : List (ℕ × Option T)) (are : said es ≡ cs) where
  -- the entry at a place is seen as the change there
  pub seen_at : {A : Type 0} (read : A → Entry T) (o : Option A) (k : ℕ) → option_map read o ≡ slice_get es k → option_map (λ x. seen (read x)) o ≡ slice_get cs k
  seen_at read o k is = sym (mapped_twice read seen o) ∙ ap (option_map seen) is ∙ sym (slice_get-map seen es k) ∙ ap (λ l. slice_get l k) are

  -- one entry more is seen as one change more
  pub said_pushed : (longer : List (Entry T)) (e : Entry T) (c : ℕ × Option T) → longer ≡ es ++ e ∷ [] → seen e ≡ c → said longer ≡ cs ++ c ∷ []
  said_pushed longer e c is one = ap said is ∙ map-append seen es (e ∷ []) ∙ ap₂ (λ l d. l ++ d ∷ []) are one
