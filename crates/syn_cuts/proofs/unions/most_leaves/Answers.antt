use Rattle.std.proofs.Common.{[], length, get_or, sym, ap, ◌∙◌, arith}
use Rattle.std.proofs.lemmas.List.{get_or-map}
use Rattle.syn_cuts.specs.Leaves.{leaves, leaves_of}
use Rattle.syn_cuts.proofs.Putting.{leaves_length}
use Rattle.syn_cuts.proofs.Refusing.{longer_behind, put_last}
use Rattle.syn_cuts.proofs.unions.most_leaves.Goals as goal

pub returns-then-last-k-clause-longer : goal.returns-then-last-k-clause-longer
returns-then-last-k-clause-longer c = λ cut more small.
    let cuts = c.args.cuts.now in
    let full = c.if-cuts-lt-CUTS_PER_NODE.false in
    let size = leaves_length cuts in
    let last = get_or-map leaves cuts 30 c.index-cuts.result [] (omega (arith, full)) ∙ ap leaves (sym c.index-cuts.is) in
    let len = ap length last in
    put_last cut (leaves_of cuts) (omega (arith, size, full, c.requires.few))
    (longer_behind cut (get_or (leaves_of cuts) 30 []) (omega (arith, len, more, c.len-last.ensures.value))) c.requires.order
