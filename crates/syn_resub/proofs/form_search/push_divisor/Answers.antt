use Rattle.std.proofs.Common.{◌++◌, [], ◌∷◌, filter, get_or, length, take, ap₂, ◌∙◌}
use Rattle.syn_cones.specs.Values.{value_over}
use Rattle.syn_resub.specs.declared.forms.Form.TheVariants.{One}
use Rattle.syn_resub.specs.Divided.{lit_over}
use Rattle.syn_resub.specs.Forms.{stands_for}
use Rattle.syn_resub.proofs.Found.{found_two}
use Rattle.syn_resub.proofs.Valued.{opposite_has, opposite_lit}
use Rattle.syn_resub.proofs.form_search.push_divisor.Goals as goal

pub returns-clause-found : goal.returns-clause-found
returns-clause-found c =
    let rows = c.args.graph.now.rows in
    let leaves = c.args.divided.now.leaves.items in
    let node = c.args.node in
    let n = length leaves in
    let d = get_or c.args.divided.now.nodes.items c.args.place 0 in
    let plain = c.literal.ensures.lit in
    let opposite = opposite_lit c.literal.result.0 c.not-2.result d plain c.not-2.ensures in
    let opposite_table = opposite_has rows leaves n d c.literal.result.1 c.not.result c.literal.result.0 c.not-2.result plain opposite c.not.ensures.vars c.not.ensures.values c.literal.ensures.table in
    found_two 16 (stands_for rows leaves node) c.args.found.now.items c.push_form.new.found.items c.push_form-2.new.found.items (One c.literal.result.0) (One c.not-2.result) c.stands-plain.result c.stands-complemented.result
    (c.stands-plain.ensures n (lit_over rows leaves c.literal.result.0) (value_over rows leaves node) c.literal.ensures.table c.requires.divided.table)
    (c.stands-complemented.ensures n (lit_over rows leaves c.not-2.result) (value_over rows leaves node) opposite_table c.requires.divided.table)
    c.push_form.ensures.found
    c.push_form-2.ensures.found
    ∙ ap₂ (λ l m. take 16 (c.args.found.now.items ++ filter (stands_for rows leaves node) (One l ∷ One m ∷ []))) plain opposite
