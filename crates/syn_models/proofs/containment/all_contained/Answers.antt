use Rattle.std.proofs.Common.{arith}
use Rattle.syn_models.proofs.ModelTables.{all_there}
use Rattle.syn_models.proofs.containment.all_contained.Goals as goal

pub contained_models-requires-clause-there : goal.contained_models-requires-clause-there
contained_models-requires-clause-there c = all_there c.args.file.now.models.now c.loop-m.m-index c.m-item.result c.requires.none (omega arith) c.m-item.is
