-- What files, a sink and lines are before and after a command, and what is done to them.
use Rattle.std.specs.Prelude.{◌≡◌, ℕ, ◌≤◌, ◌<◌, List, ◌++◌, length, Option, Some, None, IfSome, IsSomeAnd, Result, Ok, Err}
use Rattle.syn_io.specs.declared.SinkFailed.{SinkFailed}
use Rattle.syn_io.specs.Outside.{Disk, Input, Screen, Rose, file_at, without_file, GrewByPart, next_line, after_line}
use Rattle.syn_command_files.specs.Sources.{text_limit}
use Rattle.syn_words.specs.declared.inputs.LutSizes.{LutSizes}
use Rattle.syn_words.specs.Commands.{luts_alike}
use Rattle.syn_shell.specs.Networks.{Written}

-- What a session keeps from command to command: its network, and the LUTs that mapping uses where a command names none.
pub record Kept : Type 0 where
  pub network : Option Written
  pub luts : LutSizes

-- What it begins with: no network, and LUTs of six inputs at most that all cost the same.
abbrev pub nothing_yet : Kept
nothing_yet = record { network = None; luts = luts_alike 6 }

-- What commands work on: what the session keeps, the files and the sink.
pub record State : Type 0 where
  pub network : Option Written
  pub luts : LutSizes
  pub files : Disk
  pub sink : Screen

abbrev pub state : Kept → Disk → Screen → State
state kept files sink = record { network = kept.network; luts = kept.luts; files = files; sink = sink }

-- No file but the one of that name changed.
pub record OthersUnchanged (name : List ℕ) (before after : Disk) : Type 0 where
  pub told : IfSome before.told (λ was. IsSomeAnd after.told (λ now. without_file name now ≡ without_file name was))
  pub later : before.faults ≤ after.faults

-- The sink took all of the bytes.
pub record Took (bytes : List ℕ) (before after : Screen) : Type 0 where
  pub told : IfSome before.told (λ was. after.told ≡ Some (was ++ bytes))
  pub later : before.faults ≤ after.faults

-- The sink failed, and took a first part of the bytes.
pub record TookPart (bytes : List ℕ) (before after : Screen) : Type 0 where
  pub told : IfSome before.told (λ was. IsSomeAnd after.told (GrewByPart was bytes))
  pub failed : Rose before.faults after.faults
  pub later : before.faults ≤ after.faults

-- The bytes are put: the sink took all of them, or failed.
abbrev pub Puts : Result (Unit {0}) SinkFailed → List ℕ → Screen → Screen → Type 0
Puts (Ok done) bytes before after = Took bytes before after
Puts (Err failed) bytes before after = TookPart bytes before after

-- The next line was given, and is taken from what is left.
pub record GaveLine (line : List ℕ) (before after : Input) : Type 0 where
  pub next : IfSome before.told (λ left. Some line ≡ next_line left)
  pub left : IfSome before.told (λ left. after.told ≡ Some (after_line left))
  pub short : length line ≤ text_limit
  pub later : before.faults ≤ after.faults

-- No line is left.
pub record GaveNone (before after : Input) : Type 0 where
  pub none : IfSome before.told (λ left. None ≡ next_line left)
  pub left : IfSome before.told (λ left. after.told ≡ Some (after_line left))
  pub later : before.faults ≤ after.faults

-- The next line is longer than a script may be.
pub record LineIsLong (before after : Input) : Type 0 where
  pub long : IfSome before.told (λ left. IsSomeAnd (next_line left) (λ line. text_limit < length line))
  pub later : before.faults ≤ after.faults
