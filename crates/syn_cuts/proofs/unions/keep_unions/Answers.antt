use Rattle.std.proofs.Common.{◌+◌, ℕ, List, length, take, drop, sym, ap, ◌∙◌, subst, refl, ◌∷◌, [], arith}
use Rattle.std.proofs.lemmas.List.{get_or-map}
use Rattle.syn_cuts.specs.Cuts.{arranged, union, unions_with}
use Rattle.syn_cuts.specs.Keeping.{NoneLonger}
use Rattle.syn_cuts.specs.Leaves.{leaves, leaves_of}
use Rattle.syn_cuts.proofs.Putting.{step_union, kept_short, drop_leaves, drop_all_leaves, leaves_length}
use Rattle.syn_cuts.proofs.Refusing.{none_kept, order_on}
use Rattle.syn_cuts.proofs.unions.keep_unions.Goals as goal

pub loop-i-preserved : goal.loop-i-preserved
loop-i-preserved c =
    let all = leaves_of c.args.others.now in
    let i = c.loop-i.i in
    let d = c.index-others-i.result in
    record {
      rest = step_union c.args.k c.args.left.now (leaves d) (drop (i + 1) all) (leaves_of c.loop-i.kept.items) (leaves_of c.keep_union-most.new.kept.items)
          (take 31 (arranged (leaves_of c.args.kept.now.items) (unions_with c.args.k c.args.left.now all)))
          (drop i all) (drop_leaves c.args.others.now i d c.loop-i-test.true c.index-others-i.is) c.loop-i.invariant.rest
          (c.keep_union-most.ensures.kept ∙ ap (λ l. take 31 (arranged (leaves_of c.loop-i.kept.items) (unions_with c.args.k c.args.left.now (l ∷ [])))) c.as_slice-in-loop-i.ensures.value);
      few = c.keep_union-most.ensures.few;
      most = c.keep_union-most.ensures.most;
      longer = c.keep_union-most.ensures.longer;
      order = order_on (leaves_of c.loop-i.kept.items) (leaves_of c.keep_union-most.new.kept.items) (unions_with c.args.k c.args.left.now (c.as_slice-in-loop-i.result.now ∷ [])) c.loop-i.invariant.order c.keep_union-most.ensures.kept;
    }

pub returns-then-most-left-clause-kept : goal.returns-then-most-left-clause-kept
returns-then-most-left-clause-kept c =
    let old = leaves_of c.args.kept.now.items in
    let size = leaves_length c.args.kept.now.items in
    none_kept c.args.k c.most_leaves-most.result c.args.left.now (leaves_of c.args.others.now) old (omega (arith, size, c.requires.few))
    (subst (λ (l : List (List ℕ)). NoneLonger c.most_leaves-most.result c.args.k l) (ap leaves_of c.as_slice.ensures.value) c.most_leaves-most.ensures.longer) c.if-most-left.true

pub loop-i-init : goal.loop-i-init
loop-i-init c = record {
  rest = refl;
  few = c.requires.few;
  order = c.requires.order;
  most = c.most_leaves-most.ensures.small;
  longer = subst (λ (l : List (List ℕ)). NoneLonger c.most_leaves-most.result c.args.k l) (ap leaves_of c.as_slice.ensures.value) c.most_leaves-most.ensures.longer;
}

pub returns-clause-kept : goal.returns-clause-kept
returns-clause-kept c =
    sym (kept_short c.loop-i.kept.items c.loop-i.invariant.few)
    ∙ ap (λ l. take 31 (arranged (leaves_of c.loop-i.kept.items) (unions_with c.args.k c.args.left.now l))) (sym (drop_all_leaves c.args.others.now c.loop-i.i c.loop-i-test.false))
    ∙ c.loop-i.invariant.rest

pub keep_union-most-requires-clause-least : goal.keep_union-most-requires-clause-least
keep_union-most-requires-clause-least c =
    let all = leaves_of c.args.others.now in
    let i = c.loop-i.i in
    let d = c.index-others-i.result in
    let there = get_or-map leaves c.args.others.now i d [] c.loop-i-test.true ∙ ap leaves (sym c.index-others-i.is) ∙ sym c.as_slice-in-loop-i.ensures.value in
    let few = c.least_leaves-least.ensures c.args.left.now all c.signature-bits.ensures c.requires.words in
    let same = ap (λ l. length (union c.args.left.now l)) there in
    omega (arith, few, same)
