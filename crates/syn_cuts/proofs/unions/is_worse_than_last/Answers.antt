use Rattle.std.proofs.Common.{[], sym, ap, ◌∙◌, arith}
use Rattle.std.proofs.lemmas.Bool.{not-true}
use Rattle.std.proofs.lemmas.List.{get_or-map}
use Rattle.syn_cuts.specs.Cuts.{comes_before}
use Rattle.syn_cuts.specs.Leaves.{leaves, leaves_of}
use Rattle.syn_cuts.proofs.Putting.{leaves_length}
use Rattle.syn_cuts.proofs.Refusing.{put_last}
use Rattle.syn_cuts.proofs.unions.is_worse_than_last.Goals as goal

pub returns-then-cuts-eq-CUTS_PER_NODE : goal.returns-then-cuts-eq-CUTS_PER_NODE
returns-then-cuts-eq-CUTS_PER_NODE c = λ true.
    let cut = c.args.cut.now in
    let cuts = c.args.cuts.now in
    let full = c.if-cuts-eq-CUTS_PER_NODE.true in
    let size = leaves_length cuts in
    let last = get_or-map leaves cuts 30 c.index-cuts.result [] (omega (arith, full)) ∙ ap leaves (sym c.index-cuts.is) ∙ sym c.as_slice.ensures.value in
    put_last cut (leaves_of cuts) (omega (arith, size, full))
    (ap (comes_before cut) last ∙ sym c.comes_before.ensures ∙ not-true c.comes_before.result true) c.requires.order
