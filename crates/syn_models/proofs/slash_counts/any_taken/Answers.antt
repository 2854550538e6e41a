use Rattle.std.proofs.Common.{◌+◌, ◌≤◌, length, map, sym, ◌∙◌, arith}
use Rattle.syn_models.specs.Walking.{entry_in}
use Rattle.syn_models.proofs.Slashes.{taken_long}
use Rattle.syn_models.proofs.slash_counts.any_taken.Goals as goal

pub returns-then-branch-clause-few : goal.returns-then-branch-clause-few
returns-then-branch-clause-few c = λ t.
    let long : c.args.count + 1 ≤ length c.word.result.now = taken_long c.args.count 1 (map entry_in c.args.instances.now) c.word.result.now (omega arith) (sym c.in_ok-is_taken.ensures ∙ c.if-branch.true) in
    omega (arith, long, c.word.type_inv)
