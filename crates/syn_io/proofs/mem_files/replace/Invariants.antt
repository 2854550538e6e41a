use Rattle.std.proofs.Common.{◌≡◌, ◌++◌, drop, take}
use Rattle.syn_io.specs.Outside.{with_file}
use Rattle.syn_io.specs.NamedFiles.{all_named}
use Rattle.syn_io.proofs.mem_files.replace.Given as goal

abbrev pub invariant-loop-file : goal.invariant-loop-file
invariant-loop-file l = record {
  same : l.files ≡ l.initial.files;
  left : with_file l.name l.bytes.items (all_named l.files) ≡ all_named (take l.file-index l.files) ++ with_file l.name l.bytes.items (all_named (drop l.file-index l.files));
}
