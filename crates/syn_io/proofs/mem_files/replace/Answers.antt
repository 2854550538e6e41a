use Rattle.std.proofs.Common.{ap, get_or, string_bytes, rules, sym, ◌∙◌}
use Rattle.syn_io.specs.NamedFiles.{all_named}
use Rattle.syn_io.specs.Outside.{with_file}
use Rattle.syn_io.specs.declared.mem_files.MemFile.{MemFile}
use Rattle.syn_io.proofs.Replacing.{replaced_at}
use Rattle.syn_io.proofs.mem_files.replace.Goals as goal

pub returns-then-eq-clause-replaced : goal.returns-then-eq-clause-replaced
returns-then-eq-clause-replaced c =
    let file : MemFile = c.file-item.result in
    let new : MemFile = record { name = (get_or c.loop-file.files c.loop-file.file-index file).name; bytes = c.args.bytes } in
    replaced_at c.args.name.now c.args.bytes.items c.loop-file.files c.loop-file.file-index file new (search rules) (sym c.file-item.is) (search rules) (ap (λ f. (string_bytes f.name, c.args.bytes.items)) (sym c.file-item.is)) c.loop-file.invariant.left
    ∙ ap (λ files. with_file c.args.name.now c.args.bytes.items (all_named files)) c.loop-file.invariant.same
