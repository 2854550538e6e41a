use Rattle.std.proofs.Common.{arith}
use Rattle.syn_netlist.specs.Words.{has_word}
use Rattle.syn_netlist.proofs.Renumbering.{word_passes}
use Rattle.syn_netlist.proofs.frame_names.Chosen.numbers.Goals as goal

pub number-requires-clause-there : goal.number-requires-clause-there
number-requires-clause-there c = word_passes (has_word c.args.self.now.names) c.args.self.now.all.now c.args.numbers.now c.loop-number.number-index c.requires.there (omega arith)
