-- What a read of a source in memory moves.
use Rattle.std.proofs.Common.{◌≡◌, ℕ, ◌+◌, ◌-◌, ◌<◌, ◌≤◌, min, List, [], ◌++◌, length, take, drop, sym, ap, ◌∙◌, arith, length-take, length-drop, take-append-drop}
use Rattle.std.proofs.lemmas.List.{take-append-le, take_all, drop_all, drop-drop}

-- the bytes from a place on begin with those that were moved
pub moved : (at n : ℕ) (bytes into copied : List ℕ) → n ≤ length bytes - at → copied ≡ take n (drop at bytes)
    → drop at bytes ≡ take n (copied ++ into) ++ drop (at + n) bytes
moved at n bytes into copied fits is =
    let long : length copied ≡ n = ap length is ∙ omega (arith, length-take n (drop at bytes), length-drop at bytes) in
    let front : take n (copied ++ into) ≡ copied = take-append-le n copied into (omega arith) ∙ take_all n copied (omega arith) in
    rw front (rw is (sym (take-append-drop n (drop at bytes)) ∙ ap (λ (l : List ℕ). take n (drop at bytes) ++ l) (drop-drop n at bytes)))

-- where nothing was moved, there was nothing or no room
pub at_end : (at n most room : ℕ) (bytes : List ℕ) → 0 < most → n ≡ min (min room most) (length bytes - at) → n ≡ 0 → 0 < room → drop (at + n) bytes ≡ []
at_end at n most room bytes some is none space = drop_all (at + n) bytes (omega arith)
