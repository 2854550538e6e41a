use Rattle.std.proofs.Common.{sym, refl}
use Rattle.syn_network.proofs.Observing.{not_there}
use Rattle.syn_text.proofs.graph_netlist.NameSet.has_word.Goals as goal

pub returns-in-None : goal.returns-in-None
returns-in-None c =
    let s = c.args.self.now in
    sym (not_there s.names.now s.numbers.items c.args.word.now s.below (c.in-None.ensures.none.0 refl))
