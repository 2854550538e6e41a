use Rattle.std.proofs.Common.{◌≡◌, ℕ, List, ap, ◌∙◌, subst, sym}
use Rattle.syn_cuts.specs.Leaves.{leaves_of}
use Rattle.syn_cuts.specs.Lists.{nontrivial}
use Rattle.syn_cut_functions.specs.CutTruth.{AreCarried}
use Rattle.syn_cut_functions.specs.Cuts.{cuts_of}
use Rattle.syn_cut_functions.proofs.cut_truth.fan_in.Goals as goal

pub returns : goal.returns
returns c = λ rows order listed have.
    let cuts = c.nontrivial.result.now in
    let same : leaves_of cuts ≡ cuts_of rows c.args.node = c.nontrivial.ensures ∙ ap (λ lists. nontrivial lists c.args.node) listed in
    c.in_ok-found.ensures rows order (subst (λ (cs : List (List ℕ)). AreCarried rows c.args.node cs c.args.known.now) (sym same) have)
