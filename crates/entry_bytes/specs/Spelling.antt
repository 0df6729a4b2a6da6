-- The bytes that spell an entry. Numbers are big-endian.
use Rattle.std.specs.Prelude.{ℕ, List, ◌++◌}
use Rattle.std.specs.Int.{w64}
use Rattle.api_records.specs.Spelling.{number_bytes, command_bytes}
use Rattle.entry_codec.specs.declared.entry.Entry.{Entry}

-- the moment in milliseconds, in eight bytes, and the command
abbrev pub entry_bytes : Entry → List ℕ
entry_bytes e = number_bytes w64 e.moment ++ command_bytes e.command
