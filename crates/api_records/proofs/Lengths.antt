-- Lengths of the parts of commands.
use Rattle.std.proofs.Common.{◌≡◌, ◌∙◌, ℕ, ◌+◌, ◌-◌, ◌*◌, ◌^◌, ◌≤◌, min, take, List, [], ◌∷◌, ◌++◌, length, refl, ap, arith}
use Rattle.std.specs.List.{flat_map}
use Rattle.std.specs.Int.{w32}
use Rattle.std.proofs.lemmas.List.{length-append, take_all}
use Rattle.std.proofs.lemmas.List.Concat.{flat_map-cons}
use Rattle.doc_value.specs.Length.{plus}
use Rattle.api_records.specs.declared.command.Change.{Change}
use Rattle.api_records.specs.Spelling.{number_bytes, list_bytes, id_bytes, change_bytes}

pub length_32 : (n : ℕ) → length (number_bytes w32 n) ≡ 4
unfolding number_bytes
length_32 n = refl

pub length_id : (n : ℕ) → length (id_bytes n) ≡ 16
unfolding number_bytes
length_id n = refl

pub length_ids : (ns : List ℕ) → length (flat_map id_bytes ns) ≡ 16 * length ns
length_ids [] = refl
length_ids (n ∷ ns) = omega (arith, ap length (flat_map-cons id_bytes n ns), length-append (id_bytes n) (flat_map id_bytes ns), length_id n, length_ids ns)

pub ruleset lengths = (length-append, length_32, length_id, length_ids)

-- the length of all members
pub total_all : (cs : List Change) (i n m total : ℕ) → length cs ≤ i → m ≡ min (n + 4) (2 ^ 64 - 1) → total ≡ plus m (flat_map change_bytes (take i cs)) → total ≡ plus n (list_bytes change_bytes cs)
total_all cs i n m total le e is =
    let all : take i cs ≡ cs = take_all i cs le in
    let same : total ≡ plus m (flat_map change_bytes cs) = is ∙ ap (λ (l : List Change). plus m (flat_map change_bytes l)) all in
    omega (arith, same, e, length-append (number_bytes w32 (length cs)) (flat_map change_bytes cs), length_32 (length cs))
