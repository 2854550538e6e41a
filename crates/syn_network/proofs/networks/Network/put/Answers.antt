use Rattle.syn_netlist.specs.Frames.{frame_in}
use Rattle.syn_network.proofs.Naming.{named_graph, names_stay}
use Rattle.syn_network.proofs.networks.Network.put.Goals as goal

pub invariant_of-self : goal.invariant_of-self
invariant_of-self c =
    let named = names_stay (frame_in c.args.self.now.frame) c.args.self.now.body c.args.body c.requires c.args.self.now.named in
    record {
      named = named;
      graph = named_graph (frame_in c.args.self.now.frame) c.args.body named;
      few_names = c.args.self.now.few_names;
    }
