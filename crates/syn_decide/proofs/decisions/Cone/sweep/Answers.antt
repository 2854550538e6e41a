use Rattle.std.proofs.Common.{◌≡◌, ◌+◌, ◌-◌, rules, subst, sym, arith, inl, inr}
use Rattle.std.proofs.lemmas.Bool.{cases_eq}
use Rattle.syn_decide.specs.Words.{IsMade, IsStill, IsStillAt}
use Rattle.syn_decide.proofs.Sweeping.{most_unmade}
use Rattle.syn_decide.proofs.decisions.Cone.sweep.Goals as goal

pub overflow_add-made : goal.overflow_add-made
overflow_add-made c = omega (arith, c.make_word-made.ensures.fewer, c.loop-place.invariant.fewer, most_unmade c.args.words.now)

pub loop-place-preserved : goal.loop-place-preserved
loop-place-preserved c = record {
  within = search rules;
  count = search rules;
  fewer = omega (arith, c.make_word-made.ensures.fewer, c.loop-place.invariant.fewer);
  made = λ steps h. subst (λ k. IsMade c.args.self.now k c.make_word-made.new.words) (let same : steps + c.loop-place.made + c.make_word-made.result ≡ steps + (c.loop-place.made + c.make_word-made.result) = omega arith in same)
      (c.make_word-made.ensures.made (steps + c.loop-place.made) (c.loop-place.invariant.made steps h));
  still = λ none.
      let no_more : c.make_word-made.result ≡ 0 = omega arith in
      let none_before : c.loop-place.made ≡ 0 = omega arith in
      subst (λ ws. IsStill c.args.self.now ws (c.loop-place.place - 1)) (sym (c.make_word-made.ensures.same no_more))
      (λ place from within. elim (cases_eq place (c.loop-place.place - 1)) [
        | inl e ↦ subst (IsStillAt c.args.self.now c.loop-place.words) (sym e) (c.make_word-made.ensures.still no_more)
        | inr ne ↦ c.loop-place.invariant.still none_before place (omega arith) within
      ]);
}

pub returns-clause-still : goal.returns-clause-still
returns-clause-still c = λ none place from within. c.loop-place.invariant.still none place (omega arith) within
