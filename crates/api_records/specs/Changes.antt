-- The changes of a commit: which data they name, what serials they draw, and what they store. r is the repository's number, n the
-- next serial, and `known` tells which identities are known in the project: those of its accepted changes, and those that this
-- commit names. An identity that was made earlier in the same commit needs no place in it, since its serial is below n.
use Rattle.std.specs.Prelude.{◌≡◌, ◌≤◌, ◌<◌, ℕ, zero, suc, ◌+◌, ◌-◌, ◌^◌, Bool, true, false, if◌then◌else◌, List, [], ◌∷◌, Option, Some, None, option_map, codes}
use Rattle.std.specs.Ordering.{nat_cmp}
use Rattle.std.specs.Cmp.Lexicographic.{slice_cmp}
use Rattle.std.specs.FinMap.{put}
use Rattle.sysapi_base.specs.Id.{id_text, made_id}
use Rattle.doc_value.specs.Document.{text}
use Rattle.doc_value.specs.Reference.{reference}
use Rattle.doc_value.specs.Seen.{document}
use Rattle.doc_value.specs.declared.doc.Doc.{Doc}
use Rattle.doc_value.specs.declared.doc.Doc.TheVariants as doc
use Rattle.api_records.specs.Sets.{added}
use Rattle.api_records.specs.declared.command.Change.{Change}
use Rattle.api_records.specs.declared.record.Version.{Version}

-- ---- identities

-- the id that a payload's `@id` names
abbrev pub payload_id : Option Doc → Option ℕ
payload_id None = None
payload_id (Some d) = reference (document d)

abbrev pub first_given : Option ℕ → Option ℕ → Option ℕ
first_given (Some x) other = Some x
first_given None other = other

-- the identity that a change names: the given one, else its payload's
abbrev pub named : Change → Option ℕ
named c = first_given c.identity (payload_id c.payload)

-- what is known, and what the changes name
abbrev pub and_named : Option ℕ → (ℕ → Bool) → ℕ → Bool
and_named (Some x) known = added x known
and_named None known = known

abbrev pub known_with : (ℕ → Bool) → List Change → ℕ → Bool
known_with known [] = known
known_with known (c ∷ cs) = known_with (and_named (named c) known) cs

-- ---- serials

-- the first of n and the `room` numbers behind it whose id is unknown
abbrev pub free : ℕ → (ℕ → Bool) → ℕ → ℕ → ℕ
free r known zero n = n
free r known (suc room) n = if known (made_id r n) then free r known room (n + 1) else n

-- The least serial from n on whose id is unknown, and 2^62 where each one is known. It is no abbreviation, since at a literal that
-- would be computed in as many steps.
unfoldable pub free_from : ℕ → (ℕ → Bool) → ℕ → ℕ
free_from r known n = free r known (2 ^ 62 - n) n

-- m is the least serial from n on whose id is unknown
abbrev pub IsLeast : ℕ → (ℕ → Bool) → ℕ → ℕ → Type 0
IsLeast r known n m = (n ≤ m) × (known (made_id r m) ≡ false) × ((k : ℕ) → n ≤ k → k < m → known (made_id r k) ≡ true)

-- A change draws the serial n for its data version, and, where it names no identity, the least serial behind n whose id is unknown
-- for its identity. Serials that are passed over are never drawn.
abbrev pub identity_at : ℕ → (ℕ → Bool) → ℕ → Option ℕ → ℕ
identity_at r known n (Some x) = x
identity_at r known n None = made_id r (free_from r known (n + 1))

abbrev pub serial_behind : ℕ → (ℕ → Bool) → ℕ → Option ℕ → ℕ
serial_behind r known n (Some x) = n + 1
serial_behind r known n None = free_from r known (n + 1) + 1

-- ---- what is stored

-- a payload with its `@id` set to its identity's text
abbrev pub with_id : ℕ → Doc → Doc
with_id x (doc.Object es) = doc.Object (put (slice_cmp nat_cmp) (codes "@id") (text (id_text x)) es)
with_id x other = other

-- the data version of a change
abbrev pub version : ℕ → (ℕ → Bool) → ℕ → Change → Version
version r known n c = record {
  id = made_id r n;
  identity = identity_at r known n (named c);
  payload = option_map (with_id (identity_at r known n (named c))) c.payload;
}

-- the data versions of changes, and the next serial behind them
abbrev pub versions : ℕ → (ℕ → Bool) → ℕ → List Change → List Version
versions r known n [] = []
versions r known n (c ∷ cs) = version r known n c ∷ versions r known (serial_behind r known n (named c)) cs

abbrev pub last_serial : ℕ → (ℕ → Bool) → ℕ → List Change → ℕ
last_serial r known n [] = n
last_serial r known n (c ∷ cs) = last_serial r known (serial_behind r known n (named c)) cs
