use Rattle.std.proofs.Common.{◌≡◌, ◌++◌, ◌∷◌, [], List, ℕ, OnOk, ap, ◌∙◌, subst}
use Rattle.syn_aiger.specs.Keeping.{Keeps, taken_by}
use Rattle.syn_aiger.specs.Naming.{free_name, is_given_otherwise}
use Rattle.syn_aiger.proofs.Giving.{one}
use Rattle.syn_aiger.proofs.Taking.{free_is_free, not_other}
use Rattle.syn_aiger.proofs.given.Given.name.Goals as goal

pub returns-clause-keeps : goal.returns-clause-keeps
returns-clause-keeps c given k =
    let first = c.args.first.items in
    let e : c.as_slice.result.now ≡ free_name given (taken_by c.args.keeps c.args.l given) first = c.as_slice.ensures.value ∙ c.in_ok-name.ensures.name given k in
    subst (λ (w : List ℕ). OnOk c.give.result (Keeps c.give.new.self (given ++ one w c.args.l ∷ []))) e
    (c.give.ensures.keeps given k (ap (is_given_otherwise c.args.l given) e ∙ not_other c.args.keeps c.args.l given _ (free_is_free c.args.keeps c.args.l given first)))
