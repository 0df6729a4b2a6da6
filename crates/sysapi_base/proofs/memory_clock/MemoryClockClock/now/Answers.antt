use Rattle.std.proofs.Common.{◌≡◌, arith}
use Rattle.sysapi_base.specs.InMemory.{reading}
use Rattle.sysapi_base.proofs.ClockLemmas.{reads_on}
use Rattle.sysapi_base.proofs.memory_clock.MemoryClockClock.now.Goals as goal

pub returns-clause-readings : goal.returns-clause-readings
returns-clause-readings c =
    let clock = c.self.inside in
    let value : c.at_most-reading.result ≡ reading clock.first clock.step clock.count = omega (arith, c.at_most-reading.ensures, c.saturating_add.ensures, c.millis.ensures.value, c.saturating_mul-gone.ensures) in
    rw (← c.self.view_is) (reads_on clock.first clock.step clock.count c.saturating_add-self-inside.result c.at_most-reading.result (omega arith) c.saturating_add-self-inside.ensures value)
