use Rattle.std.proofs.Common.{List, ◌∙◌, subst, append-nil}
use Rattle.syn_rows.specs.declared.Lit.{Lit}
use Rattle.syn_pairs.specs.Conjunctions.{AreLeaves}
use Rattle.syn_pairs.proofs.leaves.step.Goals as goal

pub returns-in-Some : goal.returns-in-Some
returns-in-Some c = λ n order all.
    c.part.ensures n order (subst (λ (xs : List Lit). AreLeaves c.args.rows.now n xs c.args.found.now.items) c.in-Some.ensures.items all)

pub returns-in-None : goal.returns-in-None
returns-in-None c = λ n order all.
    subst (λ (xs : List Lit). AreLeaves c.args.rows.now n xs c.args.found.now.items) (c.in-None.ensures.items ∙ append-nil c.pop.new.self.items) all
