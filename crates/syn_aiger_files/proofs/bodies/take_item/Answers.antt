use Rattle.std.proofs.Common.{ap, sym, ◌∙◌}
use Rattle.syn_aiger_files.specs.Parts.{Wanted, taken}
use Rattle.syn_aiger_files.proofs.bodies.take_item.Goals as goal

pub returns-in-NextLine-clause-taken : goal.returns-in-NextLine-clause-taken
returns-in-NextLine-clause-taken c ls = c.take_next.ensures.taken ls ∙ ap (λ (w : Wanted). taken c.args.most ls w c.args.bytes.now) (sym c.in-NextLine.is)

pub returns-in-OutputLine-clause-taken : goal.returns-in-OutputLine-clause-taken
returns-in-OutputLine-clause-taken c ls = c.take_output.ensures.taken ls ∙ ap (λ (w : Wanted). taken c.args.most ls w c.args.bytes.now) (sym c.in-OutputLine.is)
