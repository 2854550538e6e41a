use Rattle.std.proofs.Common.{List, ℕ, filter, map, take, ap, ◌∙◌}
use Rattle.syn_resub.specs.Forms.{forms, stands_for}
use Rattle.syn_resub.specs.Sides.{divisor_of}
use Rattle.syn_resub.proofs.Found.{found_all}
use Rattle.syn_resub.proofs.form_search.found_forms.Goals as goal

pub returns : goal.returns
returns c =
    let rows = c.args.graph.now.rows in
    let leaves = c.args.divided.now.leaves.items in
    found_all rows leaves c.args.node c.args.divided.now.nodes.items (map divisor_of c.as_slice.result.now) c.new-found.result.items c.push_constants.new.found.items c.push_divisors.new.found.items c.push_ands.new.found.items
    c.new-found.ensures c.push_constants.ensures.found c.push_divisors.ensures.found (ap (map divisor_of) c.as_slice.ensures.value ∙ c.all_sides-sides.ensures.divisors) c.push_ands.ensures.found
    ∙ ap (λ (ds : List ℕ). take 16 (filter (stands_for rows leaves c.args.node) (forms ds))) c.requires.divided.nodes
