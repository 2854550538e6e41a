use Rattle.std.proofs.Common.{◌≡◌, get_or, None, Some, rules}
use Rattle.syn_netlist.proofs.Renumbering.{place_of}
use Rattle.syn_netlist.proofs.frame_names.Chosen.number.Goals as goal

pub returns-clause-below : goal.returns-clause-below
returns-clause-below c =
    let own = c.args.self.now in
    let some : get_or own.places.items c.args.number None ≡ Some c.in-Some.place = search rules in
    (place_of own.all.now own.names own.places.items c.args.number c.in-Some.place own.placed c.requires.below some).0
