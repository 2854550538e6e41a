use Rattle.std.proofs.Common.{length, sym, ap, ◌∙◌, arith}
use Rattle.syn_aiger.proofs.Slicing.{all_defined, are_literals}
use Rattle.syn_aiger.proofs.reader.graph_of.Goals as goal

pub body_of-requires-clause-count : goal.body_of-requires-clause-count
body_of-requires-clause-count c = ap (λ v. length v.items) c.in_ok-framed.ensures.literals ∙ c.in_ok-given.ensures.keeps.count ∙ sym (ap length c.in_ok-framed.ensures.names)

pub body_of-requires-clause-literals : goal.body_of-requires-clause-literals
body_of-requires-clause-literals c = are_literals c.args.file.now.aig c.in_ok-given.given c.in_ok-given.ensures.keeps c.in_ok-framed.framed.frame.names c.in_ok-framed.framed.literals.items c.in_ok-framed.ensures.names (ap (λ v. v.items) c.in_ok-framed.ensures.literals)

pub body_of-requires-clause-stand : goal.body_of-requires-clause-stand
body_of-requires-clause-stand c = all_defined c.args.file.now.aig c.requires.defined c.in_ok-given.given c.in_ok-given.ensures.keeps c.in_ok-framed.framed.frame.names c.in_ok-framed.ensures.names

pub body_of-requires-clause-names : goal.body_of-requires-clause-names
body_of-requires-clause-names c =
    omega (arith, c.in_ok-given.ensures.few, ap length c.in_ok-framed.ensures.names)
