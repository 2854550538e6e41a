use Rattle.std.proofs.Common.{option_map, sym, ap, ◌∙◌, refl}
use Rattle.syn_aiger_files.specs.Parts.{NextLine, Part}
use Rattle.syn_aiger_files.proofs.Saying.{line_taken}
use Rattle.syn_aiger_files.proofs.bodies.take_next.Goals as goal

pub returns-in-Some-clause-taken : goal.returns-in-Some-clause-taken
returns-in-Some-clause-taken c ls =
    ap (option_map (λ (p : Part). (p, c.cut_line.result.1.now))) (sym c.in-Some.is) ∙ line_taken c.args.most ls (NextLine c.args.own) c.args.bytes.now c.cut_line.result.0.now c.cut_line.result.1.now c.numbers_on.result c.said_next-said.result (λ bs. refl) c.cut_line.ensures.line c.cut_line.ensures.behind c.numbers_on.ensures (c.said_next-said.ensures ls)

pub returns-in-None-clause-taken : goal.returns-in-None-clause-taken
returns-in-None-clause-taken c ls =
    ap (option_map (λ (p : Part). (p, c.cut_line.result.1.now))) (sym c.in-None.is) ∙ line_taken c.args.most ls (NextLine c.args.own) c.args.bytes.now c.cut_line.result.0.now c.cut_line.result.1.now c.numbers_on.result c.said_next-said.result (λ bs. refl) c.cut_line.ensures.line c.cut_line.ensures.behind c.numbers_on.ensures (c.said_next-said.ensures ls)
