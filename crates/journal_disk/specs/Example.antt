-- A journal with one record.
use Rattle.std.specs.Prelude.{ℕ, ◌+◌, List, [], ◌∷◌, ◌++◌, take, drop}

-- the record's bytes
abbrev pub entry : List ℕ
entry = 0 ∷ 0 ∷ 0 ∷ 0xdc ∷ 0x6a ∷ 0xcf ∷ 0xac ∷ 0 ∷ 1 ∷ 1 ∷ 0 ∷ 0 ∷ 0 ∷ 1 ∷ 0x50 ∷ 0 ∷ []

-- and the journal's: the header of repository 1, an open gate, the length, the record, a closed gate
abbrev pub journal : List ℕ
journal = 0x53 ∷ 0x59 ∷ 0x53 ∷ 0x41 ∷ 0x50 ∷ 0x49 ∷ 0x4a ∷ 1 ∷ 0 ∷ 0 ∷ 0 ∷ 0 ∷ 0 ∷ 1 ∷ 0 ∷ 0 ∷ 1 ∷ 0 ∷ 0 ∷ 0 ∷ 0x10 ∷ (entry ++ 0 ∷ [])

-- the same with another byte at a place
abbrev pub with_byte : ℕ → ℕ → List ℕ
with_byte at byte = take at journal ++ byte ∷ drop (at + 1) journal
