use Rattle.std.proofs.Common.{ap, is_some, ◌∙◌}
use Rattle.syn_aiger_files.specs.Files.{variable_of}
use Rattle.syn_aiger.specs.Values.{defined_variables}
use Rattle.syn_aiger.proofs.Counting.{is_placed}
use Rattle.syn_aiger.proofs.file_numbers.Numbered.is_defined.Goals as goal

pub returns : goal.returns
returns c = c.is_some.ensures ∙ ap is_some c.place.ensures ∙ is_placed (defined_variables c.args.self.now.aig) (variable_of c.args.l)
