use Rattle.std.proofs.Common.{◌⊎◌, ◌<◌, get_or, refl, inl, inr, arith}
use Rattle.syn_cones.proofs.Together.{found_next, gap_next}
use Rattle.syn_cones.proofs.carried.CutFunction.with_leaf.Goals as goal

pub returns-then-leaves-part : goal.returns-then-leaves-part
returns-then-leaves-part c =
    found_next c.args.self c.args.root c.args.leaves.now c.args.more.now c.args.i c.args.part _ c.requires.part c.requires.place c.if-part-leaves.true c.if-leaves-part.true refl refl

pub returns-then-root-leaf : goal.returns-then-root-leaf
returns-then-root-leaf c =
    let leaf = get_or c.args.more.now c.args.i 0 in
    let clear : (leaf < c.args.self.min_inner) ⊎ (c.args.root < leaf) = elim c.if-root-leaf.either [ inl low ↦ inl low | inr both ↦ inr both.1 ] in
    gap_next c.args.self c.args.root c.args.leaves.now c.args.more.now c.args.i c.args.part _ c.requires.part c.requires.place c.requires.few (omega (arith, c.requires.part.within, c.requires.place, c.if-leaves-part-2.false)) clear refl c.with_gap.ensures
