use Rattle.std.proofs.Common.{sym, ◌∙◌, arith}
use Rattle.syn_cones.specs.Cones.{IsTruthOver}
use Rattle.syn_cones.proofs.carried.CutFunction.of_cone.Goals as goal

pub word_of_table-requires : goal.word_of_table-requires
word_of_table-requires c =
    let is : IsTruthOver c.args.rows.now c.args.leaves.now c.args.root c.in_ok-table.table = c.in_ok-table.ensures in
    omega (arith, is.vars, c.requires.few)

pub returns : goal.returns
returns c =
    let is : IsTruthOver c.args.rows.now c.args.leaves.now c.args.root c.in_ok-table.table = c.in_ok-table.ensures in
    record {
      word = λ xs len v fits at. is.values xs len v fits at ∙ sym (c.word_of_table.ensures xs (len ∙ sym is.vars));
      min_inner = c.floor_of.ensures;
    }
