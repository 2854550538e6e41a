use Rattle.std.proofs.Common.{◌≡◌, ℕ, suc, ◌+◌, ◌-◌, ◌/◌, ◌<◌, false, [], drop, get_or, sym, ap, ◌∙◌, subst, arith}
use Rattle.std.proofs.lemmas.List.{get_or-map}
use Rattle.syn_cuts.specs.Cuts.{comes_before}
use Rattle.syn_cuts.specs.Leaves.{leaves, leaves_of}
use Rattle.syn_cuts.proofs.Putting.{IsBehind, behind_there, drop_leaves, leaves_length}
use Rattle.syn_cuts.proofs.Refusing.{behind_past, neither_before}
use Rattle.syn_cuts.proofs.unions.place.Goals as goal

pub loop-low-preserved : goal.loop-low-preserved
loop-low-preserved c =
    let cut = c.args.cut.now in
    let all = leaves_of c.args.cuts.now in
    let keeps = c.loop-low.invariant in
    let test = c.loop-low-test.true in
    let i : ℕ = c.loop-low.low + (c.loop-low.high - c.loop-low.low) / 2 in
    let inside : i < c.loop-low.high = omega (arith, test) in
    let next : suc i ≡ i + 1 = omega arith in
    let size = leaves_length c.args.cuts.now in
    let there = get_or-map leaves c.args.cuts.now i c.index-cuts-middle.result [] (omega (arith, inside, keeps.within)) ∙ ap leaves (sym c.index-cuts-middle.is) ∙ sym c.as_slice.ensures.value in
    let before = ap (λ e. comes_before e cut) there ∙ sym c.comes_before.ensures ∙ c.if-not-comes_before.false in
    record {
      between = omega (arith, test);
      within = keeps.within;
      behind = subst (IsBehind cut all) next (behind_past cut all i (omega (arith, inside, size, keeps.within)) before c.requires);
      ahead = keeps.ahead;
    }

pub returns-then-not-comes_before-2-clause-none : goal.returns-then-not-comes_before-2-clause-none
returns-then-not-comes_before-2-clause-none c =
    let cut = c.args.cut.now in
    let all = leaves_of c.args.cuts.now in
    let keeps = c.loop-low.invariant in
    let i = c.loop-low.low in
    let d = c.index-cuts-low.result in
    let there = c.if-low-cuts.true in
    let end : c.loop-low.high ≡ i = omega (arith, c.loop-low-test.false, keeps.between) in
    let at = get_or-map leaves c.args.cuts.now i d [] there ∙ ap leaves (sym c.index-cuts-low.is) in
    let ahead = subst (λ k. comes_before (get_or all k []) cut ≡ false) end (keeps.ahead (omega (arith, there, end))) in
    let after = ap (λ e. comes_before e cut) (sym at) ∙ ahead in
    let behind = ap (comes_before cut) (sym c.as_slice-then-low-cuts.ensures.value) ∙ sym c.comes_before-then-low-cuts.ensures ∙ c.if-not-comes_before-2.true in
    behind_there cut all i (leaves d) (drop (i + 1) all) keeps.behind (drop_leaves c.args.cuts.now i d there c.index-cuts-low.is) behind (neither_before cut (leaves d) after behind)
