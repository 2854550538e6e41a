use Rattle.std.proofs.Common.{ap, ◌∙◌}
use Rattle.syn_netlist.specs.Words.{is_word}
use Rattle.syn_network.proofs.Inner.{inner_word_is_word}
use Rattle.syn_text.proofs.graph_netlist.add_inner_name.Goals as goal

pub push_name-requires-clause-word : goal.push_name-requires-clause-word
push_name-requires-clause-word c = ap is_word (c.deref-else-has_word.ensures.value ∙ c.in_ok-word.ensures) ∙ inner_word_is_word c.args.k
