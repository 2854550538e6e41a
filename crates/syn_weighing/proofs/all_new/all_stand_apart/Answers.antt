use Rattle.std.proofs.Common.{rules, ◌≡◌, ℕ, true, List, take, get_or, subst, arith, inl, inr}
use Rattle.std.proofs.lemmas.Bool.{cases_lt}
use Rattle.std.proofs.lemmas.List.{get_or_default}
use Rattle.syn_plan.specs.declared.PLit.{PLit}
use Rattle.syn_weighing.specs.AllNew.{StandsApart, first_of}
use Rattle.syn_weighing.proofs.all_new.all_stand_apart.Goals as goal

pub loop-i-preserved : goal.loop-i-preserved
loop-i-preserved c = λ j gate lt. elim (cases_lt j c.loop-i.i) [
  | inl less ↦ c.loop-i.invariant j gate less
  | inr ge ↦
      let gates = c.args.gates.now in
      let first = first_of c.args.base c.args.firsts.now in
      let same : c.loop-i.i ≡ j = omega (arith, ge, lt) in
      let told : c.stands_apart.result ≡ true = search rules in
      let here : StandsApart c.args.named c.args.base first (take c.loop-i.i gates) (get_or gates c.loop-i.i gate) =
      subst (λ (before : List (PLit × PLit)). StandsApart c.args.named c.args.base first before (get_or gates c.loop-i.i gate)) c.split_at.ensures.front
      (subst (StandsApart c.args.named c.args.base first c.split_at.result.0.now) (get_or_default gates c.loop-i.i _ gate (omega (arith, c.loop-i-test.true))) (c.stands_apart.ensures told)) in
      subst (λ (k : ℕ). StandsApart c.args.named c.args.base first (take k gates) (get_or gates k gate)) same here
]
