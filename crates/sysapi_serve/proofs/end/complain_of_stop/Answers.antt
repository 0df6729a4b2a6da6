use Rattle.sysapi_serve.proofs.end.complain_of_stop.Goals as goal

pub returns-in-Fault : goal.returns-in-Fault
returns-in-Fault g c = rw c.in-Fault.is c.complain.ensures

pub returns-in-Memory : goal.returns-in-Memory
returns-in-Memory g c = rw c.in-Memory.is c.complain-in-Memory.ensures

pub returns-in-Damaged : goal.returns-in-Damaged
returns-in-Damaged g c = rw c.in-Damaged.is c.complain_of_number.ensures

pub returns-in-OtherVersion : goal.returns-in-OtherVersion
returns-in-OtherVersion g c = rw c.in-OtherVersion.is c.complain_of_number-in-OtherVersion.ensures
