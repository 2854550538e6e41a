use Rattle.syn_shell.proofs.MappedGraphs.{LutLaws, least_mapped_to, mapped_for_area, mapped_loosely, mapped_to, of_made}
use Rattle.syn_shell.proofs.commands.mapped.Goals as goal

laws_of : (c : goal.After-mapped_copy) → LutLaws
laws_of c = record { graphs = c.network_of_graph.ensures; luts = c.network_of_luts.ensures; means = c.mapped_keeps_meaning.ensures }

pub returns-clause-plain : goal.returns-clause-plain
returns-clause-plain c = λ k are.
    of_made c.args.network.now c.args.net c.mapped_copy.result _ c.mapped_copy.ensures.frame c.mapped_copy.ensures.body c.requires
    (λ made h. mapped_to (laws_of c) k c.args.network.now c.args.net made h are)

pub returns-clause-few : goal.returns-clause-few
returns-clause-few c = λ k are.
    of_made c.args.network.now c.args.net c.mapped_copy.result _ c.mapped_copy.ensures.frame c.mapped_copy.ensures.body c.requires
    (λ made h. mapped_for_area (laws_of c) k c.args.network.now c.args.net made h are)

pub returns-clause-fewest : goal.returns-clause-fewest
returns-clause-fewest c = λ sizes slack are.
    of_made c.args.network.now c.args.net c.mapped_copy.result _ c.mapped_copy.ensures.frame c.mapped_copy.ensures.body c.requires
    (λ made h. mapped_loosely (laws_of c) sizes slack c.args.network.now c.args.net made h are)

pub returns-clause-least : goal.returns-clause-least
returns-clause-least c = λ k are.
    of_made c.args.network.now c.args.net c.mapped_copy.result _ c.mapped_copy.ensures.frame c.mapped_copy.ensures.body c.requires
    (λ made h. least_mapped_to (laws_of c) k c.args.network.now c.args.net made h are)
