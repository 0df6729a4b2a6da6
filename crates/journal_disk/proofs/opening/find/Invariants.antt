use Rattle.std.proofs.Common.{◌≡◌, ◌+◌, ◌-◌, ◌<◌, ◌≤◌, ◌^◌, ℕ, List, [], ◌∷◌, ◌++◌, length, Some}
use Rattle.journal_disk.specs.Format.{Begins, base, Fits, places_from}
use Rattle.journal_disk.specs.Reading.{IsPiece}
use Rattle.journal_disk.proofs.opening.find.Given as goal

abbrev pub invariant-records : goal.invariant-records
invariant-records g l = record {
  same : g.D.Disk.reading l.disk ≡ g.D.Disk.reading l.fn.disk;
  crash : (c : List ℕ) → g.D.Disk.images l.disk c → g.D.Disk.images l.fn.disk c;
  moment : g.D.Disk.moment l.disk ≡ g.D.Disk.moment l.fn.disk;
  moments : (t : ℕ) (c : List ℕ) → g.D.Disk.images_since l.disk t c → g.D.Disk.images_since l.fn.disk t c;
  later : g.D.Disk.faults l.fn.disk ≤ g.D.Disk.faults l.disk;
  steady : g.D.Disk.IsSteady l.fn.disk → g.D.Disk.IsSteady l.disk × (g.D.Disk.faults l.disk ≡ g.D.Disk.faults l.fn.disk);
  low : l.place ≤ 2 ^ 36 + 2 ^ 27 + 5;
  number : l.repository < 2 ^ 48;
  holds : IsPiece (g.D.Disk.reading l.disk) l.piece.from l.piece.len l.piece.bytes;
  so_far : (rs : List (List ℕ)) × Fits 16 rs × (l.places.items ≡ places_from 16 rs) × (l.place ≡ length (base l.repository rs)) × ((b : List ℕ) → g.D.Disk.reading l.disk ≡ Some b → Begins (base l.repository rs ++ l.gate ∷ []) b);
}

abbrev pub decreases-records : goal.decreases-records
decreases-records g l = 2 ^ 37 - l.place
