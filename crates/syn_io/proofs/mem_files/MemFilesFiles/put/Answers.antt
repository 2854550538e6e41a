use Rattle.syn_io.specs.MemFiles.{files_in}
use Rattle.syn_io.proofs.Replacing.{stored_bytes, stored_others}
use Rattle.syn_io.proofs.mem_files.MemFilesFiles.put.Goals as goal

pub returns-clause-bytes : goal.returns-clause-bytes
returns-clause-bytes c = rw c.in_ok-store.ensures.stored (stored_bytes c.args.name.now c.args.bytes.now (files_in c.args.self.now))

pub returns-clause-others : goal.returns-clause-others
returns-clause-others c = rw c.in_ok-store.ensures.stored (stored_others c.args.name.now c.args.bytes.now (files_in c.args.self.now))
