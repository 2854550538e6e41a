use Rattle.std.proofs.Common.{true, false, not, length, ◌∙◌}
use Rattle.syn_cones.specs.Values.{value_over}
use Rattle.syn_resub.specs.declared.forms.Form.TheVariants.{Constant}
use Rattle.syn_resub.specs.Forms.{stands_for}
use Rattle.syn_resub.proofs.Found.{found_two}
use Rattle.syn_resub.proofs.Valued.{constant_has, values_not}
use Rattle.syn_resub.proofs.form_search.push_constants.Goals as goal

pub returns-clause-found : goal.returns-clause-found
returns-clause-found c =
    let rows = c.args.graph.now.rows in
    let leaves = c.args.divided.now.leaves.items in
    let node = c.args.node in
    let n = length leaves in
    let zero_has = constant_has n c.constant-zero.result false (c.constant-zero.ensures.vars ∙ c.requires.divided.table.vars) (λ xs long. c.constant-zero.ensures.values xs (long ∙ c.constant-zero.ensures.vars)) in
    let one_has = values_not n c.constant-zero.result c.not.result (λ xs. false) c.not.ensures.vars c.not.ensures.values zero_has in
    found_two 16 (stands_for rows leaves node) c.args.found.now.items c.push_form.new.found.items c.push_form-2.new.found.items (Constant false) (Constant true) c.stands-is_zero.result c.stands-is_one.result
    (c.stands-is_zero.ensures n (λ xs. false) (value_over rows leaves node) zero_has c.requires.divided.table)
    (c.stands-is_one.ensures n (λ xs. not false) (value_over rows leaves node) one_has c.requires.divided.table)
    c.push_form.ensures.found
    c.push_form-2.ensures.found
