use Rattle.std.proofs.Common.{take, [], ◌∷◌, List, ℕ, sym, ap, ◌∙◌, subst, arith}
use Rattle.syn_cuts.specs.Cuts.{put, arranged}
use Rattle.syn_cuts.specs.Keeping.{NoneLonger}
use Rattle.syn_cuts.specs.Leaves.{leaves_of}
use Rattle.syn_cuts.proofs.Putting.{leaves_length, unions_small}
use Rattle.syn_cuts.proofs.Refusing.{order_on, refused}
use Rattle.syn_cuts.proofs.unions.keep_union.Goals as goal

pub returns-then-most-least-clause-kept : goal.returns-then-most-least-clause-kept
returns-then-most-least-clause-kept c =
    let old = leaves_of c.args.kept.now.items in
    let size = leaves_length c.args.kept.now.items in
    refused c.args.k c.args.most c.args.left.now c.args.right.now old (omega (arith, size, c.requires.few)) c.requires.longer (omega (arith, c.requires.least))

pub returns-in_default-clause-kept : goal.returns-in_default-clause-kept
returns-in_default-clause-kept c =
    let old = leaves_of c.args.kept.now.items in
    let size = leaves_length c.args.kept.now.items in
    refused c.args.k c.args.most c.args.left.now c.args.right.now old (omega (arith, size, c.requires.few)) c.requires.longer c.in_default.ensures.none

pub returns-clause-kept : goal.returns-clause-kept
returns-clause-kept c =
    let old = leaves_of c.args.kept.now.items in
    let few = c.in-Some.ensures.some.1 in
    c.keep.ensures.kept ∙ ap (λ u. take 31 (put u old)) c.in-Some.ensures.some.0
    ∙ ap (λ l. take 31 (arranged old l)) (sym (unions_small c.args.k c.args.left.now c.args.right.now [] (omega (arith, few, c.requires.most))))

pub returns-clause-longer : goal.returns-clause-longer
returns-clause-longer c = subst (λ (l : List (List ℕ)). NoneLonger c.most_leaves.result c.args.k l) (ap leaves_of c.as_slice.ensures.value) c.most_leaves.ensures.longer

pub most_leaves-requires-clause-order : goal.most_leaves-requires-clause-order
most_leaves-requires-clause-order c =
    let old = leaves_of c.args.kept.now.items in
    order_on old (leaves_of c.as_slice.result.now) (c.in-Some.cut.items ∷ []) c.requires.order (ap leaves_of c.as_slice.ensures.value ∙ c.keep.ensures.kept)
