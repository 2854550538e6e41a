use Rattle.syn_resub.specs.Sides.{divisor_of}
use Rattle.syn_resub.proofs.Found.{found_four}
use Rattle.syn_resub.proofs.form_search.push_ands_over.Goals as goal

pub returns-clause-found : goal.returns-clause-found
returns-clause-found c =
    let rows = c.args.graph.now.rows in
    let leaves = c.args.divided.now.leaves.items in
    let first = c.requires.first in
    let second = c.requires.second in
    found_four rows leaves c.args.node (divisor_of c.args.first.now) (divisor_of c.args.second.now) c.args.found.now.items c.push_ands_of.new.found.items c.push_ands_of-2.new.found.items c.push_ands_of-3.new.found.items c.push_ands_of-4.new.found.items
    c.args.first.now.plain.lit c.args.first.now.complemented.lit c.args.second.now.plain.lit c.args.second.now.complemented.lit first.plain_lit first.complemented_lit second.plain_lit second.complemented_lit
    c.push_ands_of.ensures.found c.push_ands_of-2.ensures.found c.push_ands_of-3.ensures.found c.push_ands_of-4.ensures.found
