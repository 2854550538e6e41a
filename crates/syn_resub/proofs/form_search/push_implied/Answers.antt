use Rattle.std.proofs.Common.{◌&&◌, not, Bool, List, true, false, length, ap, ◌∙◌}
use Rattle.syn_cones.specs.Values.{value_over}
use Rattle.syn_resub.specs.declared.forms.Form.TheVariants.{Both}
use Rattle.syn_resub.specs.Divided.{lit_over}
use Rattle.syn_resub.specs.Forms.{stands_for}
use Rattle.syn_resub.proofs.Found.{complemented_stands, found_two, plain_stands}
use Rattle.syn_resub.proofs.Valued.{values_and, values_not}
use Rattle.syn_resub.proofs.form_search.push_implied.Goals as goal

pub returns-clause-found : goal.returns-clause-found
returns-clause-found c =
    let rows = c.args.graph.now.rows in
    let leaves = c.args.divided.now.leaves.items in
    let node = c.args.node in
    let l = c.args.first.now.lit in
    let m = c.args.second.now.lit in
    let both : List Bool → Bool = λ xs. lit_over rows leaves l xs && lit_over rows leaves m xs in
    let table = values_and (length leaves) c.args.first.now.table c.args.second.now.table c.and-table.result (lit_over rows leaves l) (lit_over rows leaves m) c.and-table.ensures.vars c.and-table.ensures.values c.requires.first.table c.requires.second.table in
    let opposite = values_not (length leaves) c.and-table.result c.not.result both c.not.ensures.vars c.not.ensures.values table in
    found_two 16 (stands_for rows leaves node) c.args.found.now.items c.push_form.new.found.items c.push_form-2.new.found.items (Both l m false) (Both l m true) c.stands-plain.result c.stands-complemented.result
    (c.stands-plain.ensures (length leaves) both (value_over rows leaves node) table c.requires.divided.table
    ∙ ap (λ b. b && stands_for rows leaves node (Both l m false)) c.both.ensures
    ∙ plain_stands rows leaves node l m c.args.first.now.above c.args.second.now.above c.requires.first.above c.requires.second.above)
    (c.stands-complemented.ensures (length leaves) (λ xs. not (both xs)) (value_over rows leaves node) opposite c.requires.divided.table
    ∙ ap (λ b. b && stands_for rows leaves node (Both l m true)) c.both-2.ensures
    ∙ complemented_stands rows leaves node l m c.args.first.now.above_not c.args.second.now.above_not c.requires.first.above_not c.requires.second.above_not)
    c.push_form.ensures.found
    c.push_form-2.ensures.found
