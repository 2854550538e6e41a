use Rattle.std.proofs.Common.{ap, ap₂, sym, ◌∙◌, take, get_or}
use Rattle.std.proofs.lemmas.List.{take_more, map-append}
use Rattle.syn_rows.specs.declared.Lit.{Lit}
use Rattle.std.proofs.Common.{◌++◌, map, List, [], ◌∷◌}
use Rattle.syn_hashed.specs.Compacting.{moved_lit}
use Rattle.syn_hashed.proofs.compaction.moved_lits.Goals as goal

-- src/compact.rt:112:5
pub loop-lit-preserved : goal.loop-lit-preserved
loop-lit-preserved c = λ place h.
    let l : Lit = get_or c.args.lits.now c.loop-lit.lit-index (record { 0 = 0 }) in
    c.in_ok-push.ensures.items ∙ ap₂ (λ (xs : List Lit) (x : Lit). xs ++ x ∷ []) (c.loop-lit.invariant place h) (c.moved_lit.ensures place h)
    ∙ sym (ap (map (moved_lit place)) (take_more c.args.lits.now c.loop-lit.lit-index (record { 0 = 0 }) c.loop-lit-test.true) ∙ map-append (moved_lit place) (take c.loop-lit.lit-index c.args.lits.now) (l ∷ []))
