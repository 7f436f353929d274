-- A sink in memory.
use Rattle.std.specs.Prelude.{true}
use Rattle.lt_io.specs.SinkState.{SinkState}
use Rattle.lt_io.specs.Calls.{never_fails}
use Rattle.lt_io.specs.declared.calls.Calls.{Calls}
use Rattle.lt_io.specs.declared.mem_sink.MemSink.{MemSink}

abbrev pub mem_sink_state : MemSink → SinkState
mem_sink_state m = record { sound = never_fails m.calls; told = true; taken = m.bytes; faults = m.calls.faults }

-- the calls on this sink
abbrev pub sink_calls : MemSink → Calls
sink_calls m = m.calls
