use Rattle.syn_cuts.proofs.Naming.{found_named}
use Rattle.syn_cuts.proofs.node_cuts.ListingFinderFoundIsListedFor.find.Goals as goal

pub returns : goal.returns
returns c = found_named c.args.self.now.k c.args.self.now.rows.now c.args.known.now.tag.numbers _ c.requires.1 c.in_ok-found.ensures
