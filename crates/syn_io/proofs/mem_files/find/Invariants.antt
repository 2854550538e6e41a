use Rattle.std.proofs.Common.{◌≡◌, drop}
use Rattle.syn_io.specs.Outside.{file_at}
use Rattle.syn_io.specs.NamedFiles.{all_named}
use Rattle.syn_io.proofs.mem_files.find.Given as goal

abbrev pub invariant-loop-file : goal.invariant-loop-file
invariant-loop-file l = file_at l.name (all_named (drop l.file-index l.files)) ≡ file_at l.name (all_named l.files)
