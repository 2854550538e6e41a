use Rattle.std.proofs.Common.{◌≡◌, ◌∷◌, ℕ, List, rules, sym, ap, ◌∙◌, subst}
use Rattle.std.proofs.lemmas.List.Elements.{All-head, All-same}
use Rattle.arrayvec.specs.ArrayVec.{ArrayVec}
use Rattle.syn_cuts.specs.Leaves.{leaves_of}
use Rattle.syn_covering.specs.Cuts.{IsLutCut}
use Rattle.syn_area.proofs.Visiting.{chosen_set, length_set}
use Rattle.syn_area.proofs.rounds.choose_first.Goals as goal

pub returns-clause-len : goal.returns-clause-len
returns-clause-len c = length_set c.args.chosen.now c.set.new.self c.args.node c.copied.result.items c.set.ensures

pub returns-clause-chosen : goal.returns-clause-chosen
returns-clause-chosen c = λ k rows all fit.
    let node = c.args.node in
    let best : ArrayVec ℕ = c.in-Some.best.now in
    let rest = c.in-Some.field-0-1.now in
    let split : c.args.kept.now ≡ best ∷ rest = search rules in
    let first : IsLutCut k rows node best.items = All-head (IsLutCut k rows node) best.items (leaves_of rest) (All-same (IsLutCut k rows node) (leaves_of (best ∷ rest)) (leaves_of c.args.kept.now) (ap leaves_of (sym split)) all) in
    let copy : IsLutCut k rows node c.copied.result.items = subst (λ (l : List ℕ). IsLutCut k rows node l) (sym (c.copied.ensures ∙ c.as_slice.ensures.value)) first in
    chosen_set k rows c.args.chosen.now c.set.new.self node c.copied.result.items c.set.ensures c.requires copy fit
