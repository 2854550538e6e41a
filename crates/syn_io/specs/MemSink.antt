-- What a sink in memory holds.
use Rattle.std.specs.Prelude.{ℕ, List, Some}
use Rattle.syn_io.specs.Outside.{Screen}
use Rattle.syn_io.specs.declared.calls.Calls.{Calls}
use Rattle.syn_io.specs.declared.mem_sink.MemSink.{MemSink}

-- The bytes taken.
abbrev pub bytes_taken : MemSink → List ℕ
bytes_taken held = held.bytes.items

-- How many bytes it takes in all.
abbrev pub room_of : MemSink → ℕ
room_of held = held.room

-- The calls of `put`.
abbrev pub sink_calls : MemSink → Calls
sink_calls held = held.calls

-- How often a call has failed.
abbrev pub sink_faults : MemSink → ℕ
sink_faults held = held.faults

-- It tells the bytes taken.
abbrev pub screen_of : MemSink → Screen
screen_of held = record { told = Some (bytes_taken held); faults = sink_faults held }
