use Rattle.std.proofs.Common.{arith}
use Rattle.syn_models.specs.FlatFaults.{checks}
use Rattle.syn_models.specs.Files.{all_in}
use Rattle.syn_models.proofs.Undefined.{models_none}
use Rattle.syn_models.proofs.undriven.first_undriven_name.Goals as goal

pub model_undriven-requires-clause-none : goal.model_undriven-requires-clause-none
model_undriven-requires-clause-none c = models_none checks (all_in c.args.file.now) c.args.file.now.models.now c.loop-m.m-index c.m-item.result c.requires.none (omega arith) c.m-item.is
