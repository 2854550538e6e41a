use Rattle.std.proofs.Common.{option_map, Option, sym, subst, ap, ◌∙◌, IfSome}
use Rattle.syn_aiger_files.specs.Parts.{Part, defined_by}
use Rattle.syn_aiger_files.specs.Seen.{AreSeen}
use Rattle.syn_aiger_files.proofs.Saying.{line_taken, text_taken}
use Rattle.syn_aiger_files.proofs.bodies.take_line.Goals as goal

pub returns-in-Some-clause-taken : goal.returns-in-Some-clause-taken
returns-in-Some-clause-taken c ls seen =
    let d = c.in_ok-said.ensures ls seen in (
      ap (option_map (λ (p : Part). (p, c.cut_line.result.1.now))) (sym c.in-Some.is) ∙ line_taken c.args.most ls c.args.wanted c.args.bytes.now c.cut_line.result.0.now c.cut_line.result.1.now c.numbers_on.result c.in_ok-said.said (text_taken c.args.most ls c.args.wanted c.requires) c.cut_line.ensures.line c.cut_line.ensures.behind c.numbers_on.ensures d.0,
      subst (λ (o : Option Part). IfSome o (λ (p : Part). AreSeen c.said_by.new.defined (defined_by ls p))) c.in-Some.is d.1,
    )

pub returns-in-None-clause-taken : goal.returns-in-None-clause-taken
returns-in-None-clause-taken c ls seen =
    let d = c.in_ok-said.ensures ls seen in
    (ap (option_map (λ (p : Part). (p, c.cut_line.result.1.now))) (sym c.in-None.is) ∙ line_taken c.args.most ls c.args.wanted c.args.bytes.now c.cut_line.result.0.now c.cut_line.result.1.now c.numbers_on.result c.in_ok-said.said (text_taken c.args.most ls c.args.wanted c.requires) c.cut_line.ensures.line c.cut_line.ensures.behind c.numbers_on.ensures d.0, tt)
