use Rattle.std.proofs.Common.{ℕ, List, sym, subst}
use Rattle.syn_covering.specs.Cuts.{IsLutCut}
use Rattle.syn_area.specs.Kept.{IsKept}
use Rattle.syn_area.proofs.rounds.push_union.Goals as goal

pub returns-in-Some : goal.returns-in-Some
returns-in-Some c = λ rows node joins left right old.
    let k = c.args.k in
    let is = c.in-Some.ensures.some in
    let first : IsKept rows c.args.a c.as_slice.result.now = subst (λ (m : ℕ). IsKept rows m c.as_slice.result.now) c.requires.first (subst (λ (l : List ℕ). IsKept rows c.args.left.now.node l) (sym c.as_slice.ensures.value) left) in
    let second : IsKept rows c.args.b c.as_slice-2.result.now = subst (λ (m : ℕ). IsKept rows m c.as_slice-2.result.now) c.requires.second (subst (λ (l : List ℕ). IsKept rows c.args.right.now.node l) (sym c.as_slice-2.ensures.value) right) in
    c.push_cut.ensures k node rows old (subst (λ (l : List ℕ). IsLutCut k rows node l) (sym is.0) (joins c.as_slice.result.now c.as_slice-2.result.now first second is.1))
