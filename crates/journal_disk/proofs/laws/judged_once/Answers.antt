use Rattle.journal_disk.proofs.Judged as lem
use Rattle.journal_disk.proofs.laws.judged_once.Goals as goal

pub returns-clause-sound : goal.returns-clause-sound
returns-clause-sound c = lem.sound_or_damaged

pub returns-clause-version : goal.returns-clause-version
returns-clause-version c = lem.sound_or_other

pub returns-clause-damaged : goal.returns-clause-damaged
returns-clause-damaged c = lem.damaged_or_other

pub returns-clause-place : goal.returns-clause-place
returns-clause-place c = lem.one_place

pub returns-clause-one_version : goal.returns-clause-one_version
returns-clause-one_version c = lem.one_version
