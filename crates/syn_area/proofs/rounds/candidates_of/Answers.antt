use Rattle.std.proofs.Common.{ℕ, List, sym, subst}
use Rattle.syn_covering.specs.Cuts.{IsLutCut}
use Rattle.syn_area.proofs.rounds.candidates_of.Goals as goal

pub returns : goal.returns
returns c = λ rows joins listed fit.
    c.cuts_of.ensures rows c.args.node joins (c.of-left.ensures rows listed) (c.of-right.ensures rows listed)
    (subst (λ (l : List ℕ). IsLutCut c.args.k rows c.args.node l) (sym c.of.ensures.leaves) fit)
