-- One more call of a disk in memory.
use Rattle.std.proofs.Common.{◌≡◌, ◌⊎◌, inl, inr, ⊎_elim, ℕ, ◌+◌, ◌-◌, ◌<◌, ◌≤◌, min, Bool, true, false, IsTrue, cond, Some, None, List, [], ◌∷◌, ◌++◌, length, get_or, take, drop, replicate, Vec, refl, sym, ◌∙◌, ap, subst, arith, length-append, length-take, length-drop, take-append-drop}
use Rattle.std.proofs.lemmas.Bool.{cases_lt, lt-ltb, le-ltb}
use Rattle.std.proofs.lemmas.List.{append-nil, take_more, take-append-le, take_all, drop_all, drop-drop, length-replicate}
use Rattle.std.specs.declared.alloc.Global.{Global}
use Rattle.journal_disk.specs.Disk.{Torn, Cut, written}
use Rattle.journal_disk.specs.MemoryCalls.{Step, After, read_write, read_cut, read_step, read_calls}
use Rattle.journal_disk.specs.Memory.{fill_step, fill_calls}
use Rattle.journal_disk.specs.declared.memory.Call.{Call}
use Rattle.journal_disk.specs.declared.memory.Call.TheVariants.{Write, Shorten, Sync}

After-push : (old : List ℕ → Type 0) (calls : List Call) (call : Call) (c : List ℕ) → After old (calls ++ call ∷ []) c → Step call (After old calls) c
After-push old [] call c left = left
After-push old (x ∷ calls) call c left = After-push (Step x old) calls call c left

-- a whole write, or none, is a torn one
torn_written : (at : ℕ) (from d : List ℕ) → at ≤ length d → Torn at (length from) d (written d at from)
torn_written at from d within = record {
  part = take (length d - at) from;
  more = drop (length d - at) from;
  is = elim (cases_lt (length d) (at + length from)) [
    | inr fits ↦
        let whole : take (length d - at) from ≡ from = take_all (length d - at) from (omega arith) in
        let none : drop (length d - at) from ≡ [] = drop_all (length d - at) from (omega arith) in
        ap (λ (l : List ℕ). take at d ++ (from ++ l)) (sym (append-nil (drop (at + length from) d)))
        ∙ ap (λ (l : List ℕ). take at d ++ (l ++ (drop (at + length from) d ++ []))) (sym whole)
        ∙ ap (λ (l : List ℕ). take at d ++ (take (length d - at) from ++ (drop (at + length from) d ++ l))) (sym none)
    | inl past ↦
        let gone : drop (at + length from) d ≡ [] = drop_all (at + length from) d (omega arith) in
        ap (λ (l : List ℕ). take at d ++ (from ++ l)) gone
        ∙ ap (λ (l : List ℕ). take at d ++ l) (append-nil from ∙ sym (take-append-drop (length d - at) from))
        ∙ ap (λ (l : List ℕ). take at d ++ (take (length d - at) from ++ (l ++ drop (length d - at) from))) (sym gone)
  ];
  len = omega (arith, length-take (length d - at) from);
}

torn_same : (at n : ℕ) (d : List ℕ) → Torn at n d d
torn_same at n d = record {
  part = take n (drop at d);
  more = [];
  is =
      sym (take-append-drop at d)
      ∙ ap (λ (l : List ℕ). take at d ++ l) (sym (take-append-drop n (drop at d)) ∙ ap (λ (l : List ℕ). take n (drop at d) ++ l) (drop-drop n at d ∙ sym (append-nil (drop (at + n) d))));
  len = omega (arith, length-take n (drop at d), length-drop at d);
}

-- what a read gives is one of the images: a whole write or cut, or none
torn_read : (at : ℕ) (from : List ℕ) (done : Bool) (d : List ℕ) → Torn at (length from) d (read_write at from done d)
torn_read at from true d = elim (cases_lt (length d) at) [
  | inl lt ↦ rw (lt-ltb (length d) at lt) (torn_same at (length from) d)
  | inr le ↦ rw (le-ltb (length d) at le) (torn_written at from d le)
]
torn_read at from false d = torn_same at (length from) d

cut_same : (n : ℕ) (d : List ℕ) → Cut n d d
cut_same n d = (drop n d, sym (take-append-drop n d))

cut_read : (n : ℕ) (done : Bool) (d : List ℕ) → Cut n d (read_cut n done d)
cut_read n true d = ([], sym (append-nil (take n d)))
cut_read n false d = cut_same n d

read_left : (call : Call) (P : List ℕ → Type 0) (d : List ℕ) → P d → Step call P (read_step call d)
read_left (Write at from done) P d p = (d, p, torn_read at from.items done d)
read_left (Shorten len done) P d p = (d, p, cut_read len done d)
read_left (Sync bytes) P d p = refl

reading_left : (calls : List Call) (P : List ℕ → Type 0) (d : List ℕ) → P d → After P calls (read_calls calls d)
reading_left [] P d p = p
reading_left (call ∷ calls) P d p = reading_left calls (Step call P) (read_step call d) (read_left call P d p)

read-push : (calls : List Call) (call : Call) (d : List ℕ) → read_calls (calls ++ call ∷ []) d ≡ read_step call (read_calls calls d)
read-push [] call d = refl
read-push (x ∷ calls) call d = read-push calls call (read_step x d)

module _ (first : List ℕ) where
  abbrev pub Now : Bool → List ℕ → List Call → List ℕ → Type 0
  Now told bytes calls c = IsTrue told × ((c ≡ bytes) ⊎ After (λ c. c ≡ first) calls c)

  abbrev pub Since : Bool → List ℕ → List Call → ℕ → List ℕ → Type 0
  Since told bytes calls t c = Now told bytes calls c ⊎ (IsTrue told × ((k : ℕ) × (t ≤ k) × (k < length calls) × After (λ c. c ≡ first) (take k calls) c))

  module _ (told told' : Bool) (bytes bytes' : List ℕ) (calls calls' : List Call) (kept : IsTrue told' → IsTrue told × ((call : Call) × (calls' ≡ calls ++ call ∷ []))) where
    take_kept : (k : ℕ) → k ≤ length calls → (now : IsTrue told') → take k calls' ≡ take k calls
    take_kept k le now = let was = kept now in ap (λ (l : List Call). take k l) was.1.1 ∙ take-append-le k calls (was.1.0 ∷ []) le

    one_more : IsTrue told' → length calls' ≡ length calls + 1
    one_more now = let was = kept now in ap length was.1.1 ∙ length-append calls (was.1.0 ∷ [])

    pub time_push : (t : ℕ) (c : List ℕ) → t ≤ length calls → Since told' bytes' calls' t c → Since told bytes calls t c ⊎ Now told' bytes' calls' c
    time_push t c le (inl now) = inr now
    time_push t c le (inr past) =
        let was = kept past.0 in
        let k = past.1.0 in
        let short : k < length calls + 1 = omega (arith, past.1.2, one_more past.0) in
        let earlier : After (λ c. c ≡ first) (take k calls) c = subst (λ (l : List Call). After (λ c. c ≡ first) l c) (take_kept k (omega arith) past.0) past.1.3 in
        elim (cases_lt k (length calls)) [
          | inl lt ↦ inl (inr (was.0, (k, past.1.1, lt, earlier)))
          | inr ge ↦ inl (inl (was.0, inr (subst (λ (l : List Call). After (λ c. c ≡ first) l c) (take_all k calls ge) earlier)))
        ]

    -- no image is forgotten
    pub time_kept : IsTrue told' → (IsTrue told → bytes ≡ read_calls calls first) → (t : ℕ) (c : List ℕ) → t ≤ length calls → Since told bytes calls t c → Since told' bytes' calls' t c
    time_kept now replayed t c le (inl left) =
        let after : After (λ c. c ≡ first) calls c = ⊎_elim
        (λ is. subst (After (λ c. c ≡ first) calls) (sym (is ∙ replayed left.0)) (reading_left calls (λ c. c ≡ first) first refl))
        (λ after. after) left.1 in
        let same : take (length calls) calls' ≡ calls = take_kept (length calls) (omega arith) now ∙ take_all (length calls) calls (omega arith) in
        inr (now, (length calls, le, omega (arith, one_more now), subst (λ (l : List Call). After (λ c. c ≡ first) l c) (sym same) after))
    time_kept now replayed t c le (inr past) =
        let k = past.1.0 in
        let lt : k < length calls = past.1.2 in
        inr (now, (k, past.1.1, omega (arith, lt, one_more now), subst (λ (l : List Call). After (λ c. c ≡ first) l c) (sym (take_kept k (omega arith) now)) past.1.3))

  module _ (told told' : Bool) (bytes bytes' : List ℕ) (calls calls' : List Call) (call : Call) where
    -- an image now is one before after the call's step
    pub image_push : (IsTrue told' → IsTrue told × (calls' ≡ calls ++ call ∷ [])) → (c : List ℕ) → Now told' bytes' calls' c → IsTrue told × ((c ≡ bytes') ⊎ Step call (After (λ c. c ≡ first) calls) c)
    image_push kept c now =
        let was = kept now.0 in
        (was.0, ⊎_elim (λ is. inl is) (λ left. inr (After-push (λ c. c ≡ first) calls call c (subst (λ (l : List Call). After (λ c. c ≡ first) l c) was.1 left))) now.1)

    -- what a read gives follows from the calls
    pub read_push : calls' ≡ calls ++ call ∷ [] → bytes ≡ read_calls calls first → bytes' ≡ read_step call bytes → bytes' ≡ read_calls calls' first
    read_push more replayed step = step ∙ ap (read_step call) replayed ∙ sym (read-push calls call first) ∙ ap (λ (l : List Call). read_calls l first) (sym more)

  module _ (told told' : Bool) (bytes bytes' : List ℕ) (calls calls' : List Call) (at : ℕ) (done : Bool) where
    pub write_image : (from : List ℕ) → (IsTrue told' → IsTrue told × ((v : Vec ℕ Global) × (v.items ≡ from) × (calls' ≡ calls ++ Write at v done ∷ []))) → (IsTrue told' → bytes' ≡ read_write at from done bytes)
        → (c : List ℕ) → Now told' bytes' calls' c → (d : List ℕ) × Now told bytes calls d × Torn at (length from) d c
    write_image from kept does c now =
        let v = (kept now.0).1 in
        let before = image_push told told' bytes bytes' calls calls' (Write at v.0 done) (λ t. ((kept t).0, v.2)) c now in
        ⊎_elim
        (λ is. (bytes, (before.0, inl refl), subst (Torn at (length from) bytes) (sym (is ∙ does now.0)) (torn_read at from done bytes)))
        (λ step. (step.0, (before.0, inr step.1), subst (λ (l : List ℕ). Torn at (length l) step.0 c) v.1 step.2)) before.1

    pub write_replayed : (from : List ℕ) → (IsTrue told' → IsTrue told × ((v : Vec ℕ Global) × (v.items ≡ from) × (calls' ≡ calls ++ Write at v done ∷ []))) → (IsTrue told' → bytes' ≡ read_write at from done bytes)
        → (IsTrue told → bytes ≡ read_calls calls first) → IsTrue told' → bytes' ≡ read_calls calls' first
    write_replayed from kept does replayed now =
        let was = kept now in
        let v = was.1 in
        read_push told told' bytes bytes' calls calls' (Write at v.0 done) v.2 (replayed was.0) (does now ∙ ap (λ (l : List ℕ). read_write at l done bytes) (sym v.1))

    pub cut_image : (IsTrue told' → IsTrue told × (calls' ≡ calls ++ Shorten at done ∷ [])) → bytes' ≡ read_cut at done bytes → (c : List ℕ) → Now told' bytes' calls' c → (d : List ℕ) × Now told bytes calls d × Cut at d c
    cut_image kept does c now =
        let before = image_push told told' bytes bytes' calls calls' (Shorten at done) kept c now in
        ⊎_elim
        (λ is. (bytes, (before.0, inl refl), subst (Cut at bytes) (sym (is ∙ does)) (cut_read at done bytes)))
        (λ step. (step.0, (before.0, inr step.1), step.2)) before.1

  module _ (told told' : Bool) (bytes : List ℕ) (calls calls' : List Call) where
    pub sync_image : (IsTrue told' → IsTrue told × ((v : Vec ℕ Global) × (v.items ≡ bytes) × (calls' ≡ calls ++ Sync v ∷ []))) → (c : List ℕ) → Now told' bytes calls' c → IsTrue told × (c ≡ bytes)
    sync_image kept c now =
        let was = kept now.0 in
        let v = was.1 in
        let before = image_push told told' bytes bytes calls calls' (Sync v.0) (λ t. let w = kept t in (w.0, was.1.2)) c now in
        (before.0, ⊎_elim (λ is. is) (λ step. step ∙ v.1) before.1)

pub told_reading : (told : Bool) (bytes c : List ℕ) → IsTrue told → c ≡ bytes → cond told (Some bytes) None ≡ Some c
told_reading told bytes c is same = ap (λ (b : Bool). cond b (Some bytes) None) is ∙ ap (λ (l : List ℕ). Some l) (sym same)

-- the bytes with f in the range of a write that failed, as far as they go
torn_short : (at n k f : ℕ) (d : List ℕ) → at ≤ length d → k ≡ min n (length d - at) → Torn at n d (written d at (replicate k f))
torn_short at n k f d within is = record {
  part = replicate k f;
  more = [];
  is = ap (λ (l : List ℕ). take at d ++ (replicate k f ++ l)) (rest (at + length (replicate k f)) (omega (arith, length-replicate k f)) ∙ sym (append-nil (drop (at + n) d)));
  len = length-replicate k f ∙ is;
}
  where
    rest : (m : ℕ) → m ≡ at + k → drop m d ≡ drop (at + n) d
    rest m m_is = elim (cases_lt (length d) (at + n)) [
      | inl past ↦ drop_all m d (omega arith) ∙ sym (drop_all (at + n) d (omega arith))
      | inr fits ↦ ap (λ (j : ℕ). drop j d) (omega arith)
    ]

cut_short : (n : ℕ) (text d : List ℕ) → Cut n d (written d n text)
cut_short n text d = (text ++ drop (n + length text) d, refl)

torn_filled : (at n f : ℕ) (done : Bool) (d : List ℕ) → at ≤ length d → Torn at n d (written d at (replicate (cond done n (min n (length d - at))) f))
torn_filled at n f true d within = subst (λ (m : ℕ). Torn at m d (written d at (replicate n f))) (length-replicate n f) (torn_written at (replicate n f) d within)
torn_filled at n f false d within = torn_short at n (min n (length d - at)) f d within refl

cut_filled : (n f : ℕ) (done : Bool) (d : List ℕ) → Cut n d (cond done (take n d) (written d n (replicate (length d - n) f)))
cut_filled n f true d = ([], sym (append-nil (take n d)))
cut_filled n f false d = cut_short n (replicate (length d - n) f) d

-- what a crash may make of a call
step_of : (f : ℕ) (call : Call) (P : List ℕ → Type 0) (d : List ℕ) → P d → Step call P (fill_step f call d)
step_of f (Write at from done) P d p = (
  d,
  p,
  elim (cases_lt (length d) at) [
    | inl lt ↦ rw (lt-ltb (length d) at lt) (torn_same at (length from.items) d)
    | inr le ↦ rw (le-ltb (length d) at le) (torn_filled at (length from.items) f done d le)
  ],
)
step_of f (Shorten len done) P d p = (
  d,
  p,
  elim (cases_lt (length d) len) [
    | inl lt ↦ rw (lt-ltb (length d) len lt) (cut_same len d)
    | inr le ↦ rw (le-ltb (length d) len le) (cut_filled len f done d)
  ],
)
step_of f (Sync bytes) P d p = refl

fill_image : (f : ℕ) (calls : List Call) (P : List ℕ → Type 0) (d : List ℕ) → P d → After P calls (fill_calls f calls d)
fill_image f [] P d p = p
fill_image f (call ∷ calls) P d p = fill_image f calls (Step call P) (fill_step f call d) (step_of f call P d p)

-- the image that is taken is one of those that a crash may leave
pub filled_image : (f : ℕ) (calls : List Call) (first : List ℕ) → After (λ c. c ≡ first) calls (fill_calls f calls first)
filled_image f calls first = fill_image f calls (λ c. c ≡ first) first refl

fill-push : (f : ℕ) (calls : List Call) (call : Call) (d : List ℕ) → fill_calls f (calls ++ call ∷ []) d ≡ fill_step f call (fill_calls f calls d)
fill-push f [] call d = refl
fill-push f (x ∷ calls) call d = fill-push f calls call (fill_step f x d)

pub fill_more : (f : ℕ) (first : List ℕ) (calls : List Call) (i : ℕ) (call : Call) (image next : List ℕ) → i < length calls → call ≡ get_or calls i call → image ≡ fill_calls f (take i calls) first → next ≡ fill_step f call image
    → next ≡ fill_calls f (take (i + 1) calls) first
fill_more f first calls i call image next within is so_far step =
    let more : take (i + 1) calls ≡ take i calls ++ call ∷ [] = take_more calls i call within ∙ ap (λ (x : Call). take i calls ++ x ∷ []) (sym is) in
    step ∙ ap (fill_step f call) so_far ∙ sym (fill-push f (take i calls) call first) ∙ ap (λ (l : List Call). fill_calls f l first) (sym more)
