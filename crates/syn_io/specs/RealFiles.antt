-- What the system's files and its output tell: how often a call has failed, and nothing of contents.
use Rattle.std.specs.Prelude.{ℕ, None}
use Rattle.syn_io.specs.Outside.{Disk, Screen}

abbrev pub untold_disk : ℕ → Disk
untold_disk faults = record { told = None; faults = faults }

abbrev pub untold_screen : ℕ → Screen
untold_screen faults = record { told = None; faults = faults }
