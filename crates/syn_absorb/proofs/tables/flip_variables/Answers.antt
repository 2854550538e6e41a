use Rattle.std.proofs.Common.{◌≡◌, ◌≤◌, length, ap, ◌∙◌, arith, rules}
use Rattle.syn_truth.specs.Truth.{value_of}
use Rattle.syn_absorb.specs.Flips.{xor_list}
use Rattle.syn_absorb.proofs.Flipped.{flips_step, take_all}
use Rattle.syn_absorb.proofs.tables.flip_variables.Goals as goal

pub loop-flip-preserved : goal.loop-flip-preserved
loop-flip-preserved c =
    let inv = c.loop-flip.invariant in
    record {
      place = omega (arith, inv.place);
      vars = c.flip_if-next.ensures.vars ∙ inv.vars;
      values = flips_step c.args.flips.now c.args.truth c.loop-flip.flipped c.flip_if-next.result c.loop-flip.flip-index c.loop-flip.i _
          inv.place (search rules) c.loop-flip-test.true c.requires inv.vars c.flip_if-next.ensures.values inv.values;
    }

pub returns-clause-values : goal.returns-clause-values
returns-clause-values c xs e =
    let all : length c.args.flips.now ≡ c.loop-flip.flip-index = omega arith in
    let most : length c.args.flips.now ≤ c.loop-flip.flip-index = omega (arith, all) in
    c.loop-flip.invariant.values xs e ∙ ap (λ bs. value_of c.args.truth (xor_list bs xs)) (take_all c.args.flips.now c.loop-flip.flip-index most)
