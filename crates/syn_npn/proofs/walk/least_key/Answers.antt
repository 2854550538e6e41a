use Rattle.std.proofs.Common.{◌+◌, ◌*◌, ◌<◌, false, ap, sym, ◌∙◌, arith, below_more}
use Rattle.syn_npn.specs.Permutations.{key_at, permutation_at}
use Rattle.syn_npn.specs.Values.{image_by}
use Rattle.syn_npn.specs.Walk.{exchange}
use Rattle.syn_npn.specs.Images.{value_at}
use Rattle.syn_npn.proofs.Steps.{image_by-turn, IsKey-either, key_at-turn, key_at-turn_negated, perm_of_turn-is, walk_at-start, turn_of_permutation}
use Rattle.syn_npn.proofs.walk.least_key.Goals as goal

pub loop-turn-init : goal.loop-turn-init
loop-turn-init c =
    let start = perm_of_turn-is 0 (omega arith) ∙ ap permutation_at walk_at-start in
    record {
      image = c.flipped-image.ensures ∙ ap (λ p. image_by p c.args.flips false c.args.function) (sym start);
      key = c.requires.key;
      kept = omega arith;
      plain = λ turn h. absurd (omega arith);
      negated = λ turn h. absurd (omega arith);
    }

pub loop-turn-preserved : goal.loop-turn-preserved
loop-turn-preserved c =
    let f = c.args.function in
    let flips = c.args.flips in
    let turn = c.loop-turn.turn in
    let image = c.loop-turn.image in
    let at = c.walked.result in
    let keeps = c.loop-turn.invariant in
    let within : turn < 24 = omega arith in
    let first = c.lesser-least.ensures in
    let second = c.lesser-least-in-loop-turn.ensures in
    let plain = key_at-turn f turn flips image at within c.walked.ensures.within c.requires.few c.walked.ensures.place keeps.image in
    let negated = key_at-turn_negated f turn flips image at within c.walked.ensures.within c.requires.few c.walked.ensures.place keeps.image in
    let walked = c.walked.ensures.place in
    record {
      image = image_by-turn f turn flips image c.exchanged-image.result within c.requires.few (omega arith) keeps.image
          (λ m h. c.exchanged-image.ensures m h ∙ ap (λ e. value_at image (exchange e m)) c.exchange_after.ensures.variable);
      key = IsKey-either f c.lesser-least.result c.lesser-least-in-loop-turn.result _ (at * 16 + flips + 384)
          (IsKey-either f c.loop-turn.least c.lesser-least.result _ (at * 16 + flips) keeps.key (omega arith) plain first.either)
          (omega arith) negated second.either;
      kept = omega (arith, first.key, second.key, keeps.kept);
      plain = below_more _ _ (λ t h. omega (arith, keeps.plain t h, first.key, second.key))
          (omega (arith, plain, first.image, second.key, ap (λ w. key_at f (w * 16 + flips)) walked));
      negated = below_more _ _ (λ t h. omega (arith, keeps.negated t h, first.key, second.key))
          (omega (arith, negated, second.image, ap (λ w. key_at f (w * 16 + flips + 384)) walked));
    }

pub returns-clause-plain : goal.returns-clause-plain
returns-clause-plain c = λ perm h.
    let at = turn_of_permutation perm h in
    let same = ap (λ p. key_at c.args.function (p * 16 + c.args.flips)) at.2 in
    omega (arith, same, c.loop-turn.invariant.plain at.0 (omega arith))

pub returns-clause-negated : goal.returns-clause-negated
returns-clause-negated c = λ perm h.
    let at = turn_of_permutation perm h in
    let same = ap (λ p. key_at c.args.function (p * 16 + c.args.flips + 384)) at.2 in
    omega (arith, same, c.loop-turn.invariant.negated at.0 (omega arith))
