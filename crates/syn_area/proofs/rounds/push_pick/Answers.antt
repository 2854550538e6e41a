use Rattle.std.proofs.Common.{ℕ, List, sym, subst}
use Rattle.syn_covering.specs.Cuts.{IsLutCut}
use Rattle.syn_area.proofs.rounds.push_pick.Goals as goal

pub returns-in-Chosen : goal.returns-in-Chosen
returns-in-Chosen c = λ rows node joins left right is old.
    c.push_cut.ensures c.args.k node rows old (subst (λ (l : List ℕ). IsLutCut c.args.k rows node l) (sym c.copied.ensures) is)

pub returns-in-Union : goal.returns-in-Union
returns-in-Union c = λ rows node joins left right is old. c.push_union_at.ensures rows node joins left right old
