use Rattle.journal_disk.proofs.Formats.{one_reading}
use Rattle.journal_disk.proofs.Judged.{one_number}
use Rattle.journal_disk.proofs.laws.read_once.Goals as goal

pub returns-clause-records : goal.returns-clause-records
returns-clause-records c = one_reading

pub returns-clause-repository : goal.returns-clause-repository
returns-clause-repository c = one_number
