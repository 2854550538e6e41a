use Rattle.syn_models.specs.Answers.{models_in}
use Rattle.syn_reader.specs.Causes.{fault_in}
use Rattle.syn_reader.proofs.Flat.{is_told}
use Rattle.syn_reader.proofs.checked.flat.Goals as goal

pub returns-in-Err-clause-fault : goal.returns-in-Err-clause-fault
returns-in-Err-clause-fault c = is_told (models_in c.args.models.models) c.in-Err.fault (fault_in c.of_models.result) c.of_models.ensures c.in-Err.ensures.fault
