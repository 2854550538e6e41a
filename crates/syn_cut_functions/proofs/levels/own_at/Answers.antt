use Rattle.std.proofs.Common.{◌≡◌, get_or, sym, ap, ◌∙◌, subst, arith}
use Rattle.std.proofs.lemmas.List.{get_or_default}
use Rattle.syn_cut_functions.specs.CutTruth.{AreCarried}
use Rattle.syn_cut_functions.specs.Cuts.{cuts_of}
use Rattle.syn_cut_functions.specs.declared.levels.Found.{Found}
use Rattle.syn_cut_functions.proofs.CutTruth.{own_found}
use Rattle.syn_cut_functions.proofs.levels.own_at.Goals as goal

pub returns-then-found-index : goal.returns-then-found-index
returns-then-found-index c = λ rows all.
    let i = c.args.index in
    let node = c.args.node in
    let found = c.args.found.now in
    let first = c.index-found-index.result in
    let read = c.index-found-index-then-found-index.result in
    let is = ap (λ (x : Found). x.node) c.index-found-index.is in
    let here : (get_or found i first).node ≡ node = omega (arith, is, c.if-found-index.true) in
    let same : (get_or found i read).node ≡ node = ap (λ (x : Found). x.node) (get_or_default found i read first c.if-index-found.true) ∙ here in
    subst (AreCarried rows node (cuts_of rows node)) (sym c.as_slice.ensures.value) (own_found rows found i node read c.if-index-found.true same all)
