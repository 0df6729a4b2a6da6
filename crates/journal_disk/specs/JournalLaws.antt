-- The laws of a journal as a keeper.
use Rattle.std.proofs.Common.{◌≡◌, List, ℕ, Bool, false, if◌then◌else◌, Option, None, ◌-◌, ap}
use Rattle.std.specs.Option.{option_map}
use Rattle.journal_disk.specs.Format.{record_at}
use Rattle.journal_disk.specs.Journal.{Held, doubted}

pub no_doubted : {D : Type 0} (reading : D → Option (List ℕ)) (journal : Held D) → journal.doubt ≡ false → doubted reading journal ≡ None
no_doubted reading journal is = ap (λ (d : Bool). if d then option_map (record_at (journal.used - 1)) (reading journal.disk) else None) is
