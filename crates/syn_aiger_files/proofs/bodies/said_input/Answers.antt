use Rattle.std.proofs.Common.{sym, ◌∙◌}
use Rattle.syn_aiger_files.proofs.Saying.{says_input}
use Rattle.syn_aiger_files.proofs.bodies.said_input.Goals as goal

pub returns-then-branch : goal.returns-then-branch
returns-then-branch c ls seen =
    let d = c.in_ok-define-in-One.ensures ls seen in
    (says_input c.args.most ls c.in-One.l c.args.numbers c.in-One.is (sym d.0 ∙ c.if-branch.true), d.1 c.if-branch.true)
