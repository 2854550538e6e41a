use Rattle.std.proofs.Common.{◌≡◌, ◌+◌, ◌≤◌, subst, sym, ap, ◌∙◌, length, arith}
use Rattle.std.specs.List.{sum_by}
use Rattle.syn_decide.specs.Words.{IsMade, unmade}
use Rattle.syn_decide.proofs.Sweeping.{made_tells, most_unmade, no_made, still_tells}
use Rattle.syn_decide.proofs.decisions.Cone.root_word.Goals as goal

pub loop-word-init : goal.loop-word-init
loop-word-init c = record {
  count = count;
  made = (0, few, subst (IsMade c.args.self.now 0) (sym c.as_mut_slice-words.ensures.value) (no_made c.args.self.now c.no_words.new.words.items c.no_words.ensures.none));
}
  where
    count : length c.as_mut_slice-words.result.now ≡ length c.args.self.now.inner.now
    count = ap length c.as_mut_slice-words.ensures.value ∙ c.no_words.ensures.count

    few : 0 + sum_by unmade c.as_mut_slice-words.result.now ≤ length c.args.self.now.inner.now
    few = omega (arith, most_unmade c.as_mut_slice-words.result.now, count)

pub returns-in-Some : goal.returns-in-Some
returns-in-Some c =
    made_tells c.args.self.now (c.loop-word.invariant.made.0 + c.sweep-made.result) (length c.args.self.now.inner.now) c.args.root c.in-Some.word c.sweep-made.new.words
    (omega (arith, c.loop-word.invariant.made.1, c.sweep-made.ensures.fewer)) (c.sweep-made.ensures.made c.loop-word.invariant.made.0 c.loop-word.invariant.made.2) c.in-Some.ensures

pub returns-then-made-eq0 : goal.returns-then-made-eq0
returns-then-made-eq0 c =
    still_tells c.args.self.now (c.loop-word.invariant.made.0 + c.sweep-made.result) c.sweep-made.new.words c.sweep-made.ensures.count (c.sweep-made.ensures.still c.if-made-eq0.true)
    (c.sweep-made.ensures.made c.loop-word.invariant.made.0 c.loop-word.invariant.made.2) (length c.args.self.now.inner.now) c.args.root c.in_default.ensures
