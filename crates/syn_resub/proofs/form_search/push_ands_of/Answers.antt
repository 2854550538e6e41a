use Rattle.std.proofs.Common.{◌≡◌, ◌&&◌, List, [], true, false, take, sym, ap, ◌∙◌, ◌++◌}
use Rattle.syn_resub.specs.declared.forms.Form.{Form}
use Rattle.syn_resub.specs.declared.forms.Form.TheVariants.{Both}
use Rattle.syn_resub.specs.Forms.{stands_for}
use Rattle.syn_resub.proofs.Found.{complemented_stands, filter_neither, found_none, plain_stands}
use Rattle.syn_resub.proofs.form_search.push_ands_of.Goals as goal

pub returns-else-complemented-clause-found : goal.returns-else-complemented-clause-found
returns-else-complemented-clause-found c =
    let rows = c.args.graph.now.rows in
    let leaves = c.args.divided.now.leaves.items in
    let node = c.args.node in
    let l = c.args.first.now.lit in
    let m = c.args.second.now.lit in
    let found = c.args.found.now.items in
    let plain_fails : stands_for rows leaves node (Both l m false) ≡ false =
    sym (plain_stands rows leaves node l m c.args.first.now.above c.args.second.now.above c.requires.first.above c.requires.second.above)
    ∙ ap (λ b. b && stands_for rows leaves node (Both l m false)) (sym c.both-plain.ensures ∙ c.if-plain.false) in
    let other_fails : stands_for rows leaves node (Both l m true) ≡ false =
    sym (complemented_stands rows leaves node l m c.args.first.now.above_not c.args.second.now.above_not c.requires.first.above_not c.requires.second.above_not)
    ∙ ap (λ b. b && stands_for rows leaves node (Both l m true)) (sym c.both-complemented.ensures ∙ c.if-complemented.false) in
    found_none 16 found c.requires.few ∙ ap (λ (fs : List Form). take 16 (found ++ fs)) (sym (filter_neither (stands_for rows leaves node) (Both l m false) (Both l m true) [] plain_fails other_fails))
