-- Lengths of the parts of entries.
use Rattle.std.proofs.Common.{◌≡◌, ℕ, ◌+◌, ◌^◌, ◌<◌, take, get_or, Option, Some, None, List, ◌++◌, length, refl, arith}
use Rattle.std.specs.List.{flat_map, All}
use Rattle.std.specs.Int.{w32, w64}
use Rattle.std.proofs.lemmas.List.{length-append}
use Rattle.std.proofs.lemmas.Grind.{common_steps}
use Rattle.std.proofs.lemmas.List.Concat.{length-flat_map}
use Rattle.std.proofs.lemmas.List.Sums.{get_or-le-sum_by}
use Rattle.api_records.specs.declared.command.Change.{Change}
use Rattle.api_records.specs.Spelling.{number_bytes, optional, list_bytes, id_bytes, document_bytes, change_bytes}
use Rattle.entry_bytes.proofs.Fields.{count_le}

pub length_64 : (n : ℕ) → length (number_bytes w64 n) ≡ 8
unfolding number_bytes
length_64 n = refl

length_optional : {A : Type 0} (s : A → List ℕ) (o : Option A) → 0 < length (optional s o)
length_optional s None = omega arith
length_optional s (Some a) = omega arith

pub length_change : (c : Change) → 0 < length (change_bytes c)
length_change c = omega (arith, length_optional id_bytes c.identity, length-append (optional id_bytes c.identity) (optional document_bytes c.payload))

-- a list whose bytes are few has few members, and each has few bytes
pub changes_few : (cs : List Change) → length (list_bytes change_bytes cs) < 2 ^ 32 → length cs < 2 ^ 32
changes_few cs lt = omega (arith, lt, count_le change_bytes length_change cs, length-append (number_bytes w32 (length cs)) (flat_map change_bytes cs))

pub each_few : (cs : List Change) → length (list_bytes change_bytes cs) < 2 ^ 32 → All (λ c. length (change_bytes c) < 2 ^ 32) cs
each_few cs lt k d within =
    omega (arith, lt, length-append (number_bytes w32 (length cs)) (flat_map change_bytes cs), length-flat_map change_bytes cs, get_or-le-sum_by (λ c. length (change_bytes c)) cs k d within)

-- the bytes of one member more
pub one_more : {A : Type 0} (s : A → List ℕ) (xs : List A) (i : ℕ) (x : A) (front old new : List ℕ) → i < length xs → x ≡ get_or xs i x
    → old ≡ front ++ flat_map s (take i xs) → new ≡ old ++ s x → new ≡ front ++ flat_map s (take (i + 1) xs)
one_more s xs i x front old new within is before e = grind (arith, common_steps)
