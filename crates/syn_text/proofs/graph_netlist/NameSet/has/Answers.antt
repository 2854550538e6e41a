use Rattle.std.proofs.Common.{◌∙◌}
use Rattle.syn_text.proofs.Finding.{marked_has}
use Rattle.syn_text.proofs.graph_netlist.NameSet.has.Goals as goal

pub returns : goal.returns
returns c =
    let s = c.args.self.now in
    c.index.ensures ∙ marked_has s.names.now s.numbers.items s.marks.items c.args.number c.index.result.now s.distinct s.below s.count s.marked c.requires
