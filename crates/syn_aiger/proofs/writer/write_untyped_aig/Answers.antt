use Rattle.std.proofs.Common.{◌≡◌, ℕ, false, List, sym, ap, ◌∙◌, subst}
use Rattle.syn_network.specs.declared.networks.Network.{Network}
use Rattle.syn_network.specs.Written.{network_of}
use Rattle.syn_aiger_files.specs.declared.files.Aig.{Aig}
use Rattle.syn_aiger_files.specs.Printed.{printed}
use Rattle.syn_aiger.specs.Faults.{Spells}
use Rattle.syn_aiger.specs.Writing.{aig_of}
use Rattle.syn_aiger.proofs.WrittenFiles.{graph_is_normal, graph_leaves_types}
use Rattle.syn_aiger.proofs.Sound.{printed_spells}
use Rattle.syn_aiger.proofs.writer.write_untyped_aig.Goals as goal

pub returns-clause-spells : goal.returns-clause-spells
returns-clause-spells c =
    let g : Network = c.args.graph.now in
    let made : Aig = aig_of (network_of g) in
    let bytes : c.in_ok-bytes.bytes.items ≡ printed c.args.ascii made = c.in_ok-bytes.ensures ∙ ap (printed c.args.ascii) c.in_ok-file.ensures in
    subst (λ (b : List ℕ). Spells false b made) (sym bytes) (printed_spells false made (graph_is_normal g c.requires.rows c.requires.outputs c.are_words.ensures) c.args.ascii)

pub returns-clause-written : goal.returns-clause-written
returns-clause-written c = graph_leaves_types c.args.graph.now c.are_words.ensures
