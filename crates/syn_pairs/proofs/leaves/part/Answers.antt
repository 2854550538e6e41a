use Rattle.std.proofs.Common.{List, sym, subst}
use Rattle.std.proofs.lemmas.Result.{on_ok_weaker}
use Rattle.syn_rows.specs.declared.Lit.{Lit}
use Rattle.syn_pairs.specs.Conjunctions.{AreLeaves}
use Rattle.syn_pairs.proofs.Conjoining.{found_last, parted_last}
use Rattle.syn_pairs.proofs.leaves.part.Goals as goal

pub returns-in-Some : goal.returns-in-Some
returns-in-Some c = λ n order all.
    let rows = c.args.rows.now in
    let both = c.in-Some.both in
    let found = c.args.found.now.items in
    let parted = parted_last rows order n c.args.waiting.now.items found c.args.leaf both.0 both.1 c.in-Some.ensures.0 c.in-Some.ensures.1 all in
    on_ok_weaker c.wait.result (λ is. subst (λ (xs : List Lit). AreLeaves rows n xs found) (sym is) parted) c.wait.ensures

pub returns-in_ok-push-in-None : goal.returns-in_ok-push-in-None
returns-in_ok-push-in-None c = λ n order all.
    let rows = c.args.rows.now in
    let waiting = c.args.waiting.now.items in
    subst (AreLeaves rows n waiting) (sym c.in_ok-push-in-None.ensures.items) (found_last rows n waiting c.args.found.now.items c.args.leaf all)
