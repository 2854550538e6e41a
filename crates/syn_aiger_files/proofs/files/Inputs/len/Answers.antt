use Rattle.std.proofs.Common.{rules, ◌≡◌, length, ap, sym, ◌∙◌}
use Rattle.syn_aiger_files.specs.Literals.{literals_from}
use Rattle.syn_aiger_files.proofs.Counts.{literals_count}
use Rattle.syn_aiger_files.proofs.files.Inputs.len.Goals as goal

pub returns-in-First : goal.returns-in-First
returns-in-First c =
    let e : c.args.self.now ≡ literals_from 1 c.in-First.count = search rules in
    sym (ap length e ∙ literals_count 1 c.in-First.count)
