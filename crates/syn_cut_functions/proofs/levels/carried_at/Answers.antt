use Rattle.std.proofs.Common.{All, sym, subst}
use Rattle.syn_cut_functions.specs.CutTruth.{AreCarried, IsFoundIn}
use Rattle.syn_cut_functions.specs.Cuts.{cuts_of}
use Rattle.syn_cut_functions.proofs.CutTruth.{found_of}
use Rattle.syn_cut_functions.proofs.levels.carried_at.Goals as goal

pub returns-in-Some : goal.returns-in-Some
returns-in-Some c = λ rows name.
    let all = (found_of rows c.args.known.now.tag.numbers c.in-Some.found.now name c.in-Some.ensures).each in
    subst (λ m. AreCarried rows m (cuts_of rows m) c.own_at.result.now) c.node-in-Some.ensures
    (c.own_at.ensures rows (subst (All (IsFoundIn rows)) (sym c.deref.ensures.value) all))
