use Rattle.std.proofs.Common.{◌++◌, ◌∷◌, [], ap, ◌∙◌}
use Rattle.syn_aiger.proofs.Giving.{gives}
use Rattle.syn_aiger.proofs.given.Given.give.Goals as goal

pub returns-clause-keeps : goal.returns-clause-keeps
returns-clause-keeps c given k free =
    gives c.args.self.now _ given c.args.name.now c.args.l c.in_ok-number.number k free c.in_ok-number.ensures.number.0 c.in_ok-number.ensures.number.1 c.in_ok-number.ensures.names c.in_ok-number.ensures.literals
    (c.in_ok-push.ensures.items ∙ ap (λ v. v.items ++ c.in_ok-number.number ∷ []) c.in_ok-number.ensures.numbers)
