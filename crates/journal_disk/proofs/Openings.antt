-- One record more of a journal that is read.
use Rattle.std.proofs.Common.{◌≡◌, ℕ, ◌+◌, ◌^◌, ◌<◌, ◌≤◌, List, [], ◌∷◌, ◌++◌, length, take, drop, Option, Some, None, refl, sym, ◌∙◌, ap, subst, arith, append_assoc, length-append, length-drop, take-append-drop}
use Rattle.std.proofs.lemmas.List.{drop_at, drop_more, drop-drop, length-replicate, length-take-le}
use Rattle.std.specs.Option.{option_map}
use Rattle.std.specs.Int.{to_be_bytes, w32}
use Rattle.journal_disk.specs.Format.{Begins, header, body, base, places_from, Fits, HasRecords, records_at}
use Rattle.journal_disk.specs.Finding.{IsNext, IsFound, behind}
use Rattle.journal_disk.proofs.Formats.{length-body, base-push, base-nil, length-empty, places-push, Fits-push, records_of_base, shut_records}
use Rattle.journal_disk.proofs.Fills.{less_begins}

abbrev pub SoFar : Option (List ℕ) → ℕ → List ℕ → ℕ → ℕ → Type 0
SoFar reading n places place gate = (rs : List (List ℕ)) × Fits 16 rs × (places ≡ places_from 16 rs) × (place ≡ length (base n rs)) × ((b : List ℕ) → reading ≡ Some b → Begins (base n rs ++ gate ∷ []) b)

pub none_so_far : (reading : Option (List ℕ)) (n : ℕ) (places : List ℕ) (gate : ℕ) → places ≡ [] → ((b : List ℕ) → reading ≡ Some b → Begins (header n ++ gate ∷ []) b) → SoFar reading n places 16 gate
none_so_far reading n places gate none head =
    ([], tt, none, sym (length-empty n), λ b is. subst (λ (l : List ℕ). Begins (l ++ gate ∷ []) b) (sym (base-nil n)) (head b is))

module _ (n : ℕ) (rs : List (List ℕ)) (place len next : ℕ) (at : place ≡ length (base n rs)) where
  length-behind : (reading : Option (List ℕ)) → ((b : List ℕ) → reading ≡ Some b → IsNext place b len next) → length (behind reading place len) ≡ len
  length-behind None is = length-replicate len 0
  length-behind (Some b) is = let within = (is b refl).within in length-take-le len (drop (place + 5) b) (omega (arith, within, length-drop (place + 5) b))

  text : (r b : List ℕ) → r ≡ take len (drop (place + 5) b) → length r ≡ len → IsNext place b len next → Begins (base n rs ++ 1 ∷ []) b → Begins (base n (rs ++ r ∷ []) ++ next ∷ []) b
  unfolding body
  text r b r_is long is begins =
      let rest = begins.0 in
      let there : drop (place + 1) b ≡ rest = ap (λ (l : List ℕ). drop (place + 1) l) begins.1 ∙ drop_at (base n rs ++ 1 ∷ []) rest (place + 1) (omega (arith, at, length-append (base n rs) (1 ∷ []))) in
      let number : take 4 rest ≡ to_be_bytes w32 (length r) = ap (λ (l : List ℕ). take 4 l) (sym there) ∙ is.number ∙ ap (λ (k : ℕ). to_be_bytes w32 k) (sym long) in
      let five : place + 1 + 4 ≡ place + 5 = omega arith in
      let later : drop 4 rest ≡ drop (place + 5) b = ap (λ (l : List ℕ). drop 4 l) (sym there) ∙ drop-drop 4 (place + 1) b ∙ ap (λ (k : ℕ). drop k b) five in
      let last : drop len (drop (place + 5) b) ≡ next ∷ drop (place + 5 + len + 1) b =
      drop-drop len (place + 5) b ∙ drop_more b (place + 5 + len) 0 (let w = is.within in omega arith) ∙ ap (λ (g : ℕ). g ∷ drop (place + 5 + len + 1) b) (sym is.gate_is) in
      let tail = drop (place + 5 + len + 1) b in
      let record_is : drop 4 rest ≡ r ++ (next ∷ tail) = later ∙ sym (take-append-drop len (drop (place + 5) b)) ∙ ap (λ (l : List ℕ). l ++ drop len (drop (place + 5) b)) (sym r_is) ∙ ap (λ (l : List ℕ). r ++ l) last in
      let rest_is : rest ≡ (to_be_bytes w32 (length r) ++ r) ++ (next ∷ tail) =
      sym (take-append-drop 4 rest) ∙ ap (λ (l : List ℕ). l ++ drop 4 rest) number ∙ ap (λ (l : List ℕ). to_be_bytes w32 (length r) ++ l) record_is ∙ sym (append_assoc (to_be_bytes w32 (length r)) r (next ∷ tail)) in (
        tail,
        begins.1 ∙ append_assoc (base n rs) (1 ∷ []) rest ∙ ap (λ (l : List ℕ). base n rs ++ (1 ∷ l)) rest_is
            ∙ sym (append_assoc (base n rs) (1 ∷ (to_be_bytes w32 (length r) ++ r)) (next ∷ tail))
            ∙ ap (λ (l : List ℕ). l ++ (next ∷ tail)) (sym (base-push n rs r))
            ∙ sym (append_assoc (base n (rs ++ r ∷ [])) (next ∷ []) tail),
      )

  pub more_so_far : (reading : Option (List ℕ)) (places more : List ℕ) (gate : ℕ) → Fits 16 rs → places ≡ places_from 16 rs → ((b : List ℕ) → reading ≡ Some b → Begins (base n rs ++ gate ∷ []) b) → gate ≡ 1
      → place < 2 ^ 36 → len ≤ 2 ^ 27 → ((b : List ℕ) → reading ≡ Some b → IsNext place b len next) → more ≡ places ++ place ∷ [] → SoFar reading n more (place + (5 + len)) next
  more_so_far reading places more gate fits places_are begins is_open low small is grown =
      let r = behind reading place len in
      let long = length-behind reading is in (
        rs ++ r ∷ [],
        Fits-push n rs r place at fits low (omega (arith, long, small)),
        grown ∙ ap (λ (l : List ℕ). l ++ place ∷ []) places_are ∙ sym (places-push n rs r place at),
        omega (arith, at, ap length (base-push n rs r), length-append (base n rs) (1 ∷ body r), length-body r, long),
        λ b now. text r b (ap (λ (o : Option (List ℕ)). behind o place len) now) long (is b now) (subst (λ (g : ℕ). Begins (base n rs ++ g ∷ []) b) is_open (begins b now)),
      )

pub found_records : (reading : Option (List ℕ)) (n used : ℕ) (places : List ℕ) → IsFound reading n used places → (b : List ℕ) → reading ≡ Some b → (kept : List (List ℕ)) × (option_map (records_at places) reading ≡ Some kept) × HasRecords n kept b
found_records reading n used places found b is =
    let begins = found.begins b is in
    let told : records_at places b ≡ found.records = ap (λ (l : List ℕ). records_at l b) found.places_are ∙ records_of_base n found.records b found.fits (less_begins (base n found.records) (found.gate ∷ []) b begins) in
    (found.records, ap (λ (o : Option (List ℕ)). option_map (records_at places) o) is ∙ ap (λ (l : List (List ℕ)). Some l) told, shut_records n found.records found.gate b found.number found.fits found.shut begins)
