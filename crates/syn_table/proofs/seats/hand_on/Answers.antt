use Rattle.std.proofs.Common.{ℕ, List, [], ◌∷◌, ◌++◌, sym, ap, ◌∙◌}
use Rattle.syn_table.specs.Splitting.{last_of, all_but_last}
use Rattle.syn_table.proofs.SplitLaws.{last_is, front_is}
use Rattle.syn_table.proofs.seats.hand_on.Goals as goal

pub returns-in-Some-clause-left : goal.returns-in-Some-clause-left
returns-in-Some-clause-left c = sym (ap all_but_last c.in-Some.ensures.items ∙ front_is c.pop.new.self.items c.in-Some.number)

pub returns-in-Some-clause-last : goal.returns-in-Some-clause-last
returns-in-Some-clause-last c =
    c.push.ensures.items
    ∙ (ap (λ (ns : List ℕ). ns ++ c.in-Some.number ∷ []) c.new-last.ensures
    ∙ sym (ap (λ (ns : List ℕ). last_of ns ∷ []) c.in-Some.ensures.items ∙ ap (λ (n : ℕ). n ∷ []) (last_is c.pop.new.self.items c.in-Some.number)))
