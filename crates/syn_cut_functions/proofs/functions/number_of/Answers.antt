use Rattle.std.proofs.Common.{rules, arith}
use Rattle.syn_cut_functions.proofs.functions.number_of.Goals as goal

pub returns : goal.returns
returns c = λ rows node is.
    record {
      table = c.table.result;
      truth = c.table.ensures.truth rows node is;
      few = omega (arith, c.table.ensures.vars, c.requires);
      within = search rules;
      values = c.to_bits.ensures;
    }
