use Rattle.std.proofs.Common.{rules, ◌≡◌, length, ap, ◌∙◌, arith}
use Rattle.syn_aiger_files.specs.Literals.{literals_from}
use Rattle.syn_aiger_files.proofs.Counts.{as_many, literals_count}
use Rattle.syn_aiger_files.proofs.files.Inputs.as_listed.Goals as goal

pub returns-in-First-clause-first : goal.returns-in-First-clause-first
returns-in-First-clause-first c = as_many c.args.self.now c.in-First.count (search rules)

pub returns-in-First-clause-few : goal.returns-in-First-clause-few
returns-in-First-clause-few c =
    let e : c.args.self.now ≡ literals_from 1 c.in-First.count = search rules in
    let n : length c.args.self.now ≡ c.in-First.count = ap length e ∙ literals_count 1 c.in-First.count in
    omega arith
