-- Entries and their bytes, computed.
use Rattle.std.proofs.Common.{◌≡◌, ℕ, List, [], ◌∷◌, ◌++◌, codes, Some, None, refl}
use Rattle.std.specs.Str.{is_utf8, chars}
use Rattle.api_records.specs.declared.command.Command.TheVariants.{CreateProject}
use Rattle.entry_codec.specs.declared.entry.Entry.{Entry}
use Rattle.api_records.specs.Spelling.{number_bytes}
use Rattle.entry_bytes.specs.Spelling.{entry_bytes}
use Rattle.entry_bytes.specs.Reading.{number_at, entry_in, IsNoEntry}
use Rattle.entry_bytes.proofs.Entries.{no_entry}

-- a project `P`, made as the year 2000 begins
abbrev example : Entry
example = record { moment = 946_684_800_000; command = CreateProject (Some (codes "P")) None }

abbrev example_bytes : List ℕ
example_bytes = 0 ∷ 0 ∷ 0 ∷ 220 ∷ 106 ∷ 207 ∷ 172 ∷ 0 ∷ 1 ∷ 1 ∷ 0 ∷ 0 ∷ 0 ∷ 1 ∷ 80 ∷ 0 ∷ []

pub spelled_so : entry_bytes example ≡ example_bytes
unfolding number_bytes
spelled_so = refl

pub read_so : entry_in example_bytes ≡ Some example
unfolding number_at is_utf8 chars lib.Utf8.encode
read_so = refl

-- a byte more follows
read_no_more : entry_in (example_bytes ++ 0 ∷ []) ≡ None
unfolding number_at is_utf8 chars lib.Utf8.encode
read_no_more = refl

pub nothing_follows : IsNoEntry (example_bytes ++ 0 ∷ [])
nothing_follows = no_entry (example_bytes ++ 0 ∷ []) read_no_more

-- the first moment of the year 10000
read_not_so_late : entry_in (0 ∷ 0 ∷ 230 ∷ 119 ∷ 210 ∷ 31 ∷ 220 ∷ 0 ∷ 1 ∷ 0 ∷ 0 ∷ []) ≡ None
unfolding number_at
read_not_so_late = refl

pub not_so_late : IsNoEntry (0 ∷ 0 ∷ 230 ∷ 119 ∷ 210 ∷ 31 ∷ 220 ∷ 0 ∷ 1 ∷ 0 ∷ 0 ∷ [])
not_so_late = no_entry _ read_not_so_late

-- no tag is 9
read_no_tag : entry_in (0 ∷ 0 ∷ 0 ∷ 0 ∷ 0 ∷ 0 ∷ 0 ∷ 0 ∷ 9 ∷ []) ≡ None
unfolding number_at
read_no_tag = refl

pub no_tag : IsNoEntry (0 ∷ 0 ∷ 0 ∷ 0 ∷ 0 ∷ 0 ∷ 0 ∷ 0 ∷ 9 ∷ [])
no_tag = no_entry _ read_no_tag
