-- The adapters over readers, writers and clocks of std.
use Rattle.std.specs.Prelude.{ℕ, List, Option, None, take, Result, MatchResult}
use Rattle.std.specs.Io.KnownBytes.{Appends}
use Rattle.sysapi_base.specs.declared.stream_source.StreamSource.{StreamSource}
use Rattle.sysapi_base.specs.declared.stream_sink.StreamSink.{StreamSink}
use Rattle.sysapi_base.specs.declared.system_clock.SystemClock.{SystemClock}

abbrev pub reader_of : {R : Type 0} → StreamSource R → R
reader_of source = source.reader

abbrev pub source_faults : {R : Type 0} → StreamSource R → ℕ
source_faults source = source.faults

-- a real stream may fail at any time
abbrev pub IsSourceSteady : {R : Type 0} → StreamSource R → Type 0
IsSourceSteady source = ⊥

abbrev pub writer_of : {W : Type 0} → StreamSink W → W
writer_of sink = sink.writer

abbrev pub sink_faults : {W : Type 0} → StreamSink W → ℕ
sink_faults sink = sink.faults

abbrev pub IsSinkSteady : {W : Type 0} → StreamSink W → Type 0
IsSinkSteady sink = ⊥

-- no bytes are told, since a flush may fail after a write
abbrev pub sink_taken : {W : Type 0} → StreamSink W → Option (List ℕ)
sink_taken sink = None

-- A writer that tells its bytes got the first n of the piece where the answer is n, and some of the first or none where it failed.
abbrev pub PassesOn : {E : Type 0} → Option (List ℕ) → Option (List ℕ) → Result ℕ E → List ℕ → Type 0
PassesOn old new result piece = MatchResult result (λ n. Appends old new (take n piece)) (λ _. (n : ℕ) × Appends old new (take n piece))

abbrev pub runtime_of : {R : Type 0} → SystemClock R → R
runtime_of clock = clock.rt

-- a real clock tells no readings
abbrev pub clock_readings : {R : Type 0} → SystemClock R → Option (List ℕ)
clock_readings clock = None
