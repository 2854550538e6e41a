use Rattle.std.proofs.Common.{◌≡◌, [], ◌∷◌, length, ap, arith}
use Rattle.syn_lists.specs.Numbers.{without_numbers}
use Rattle.syn_growing.proofs.Inner.{room_with}
use Rattle.syn_growing.proofs.leaves.put_inner.Goals as goal

pub push-requires : goal.push-requires
push-requires c =
    let same : length c.take_out.new.inner.items ≡ length (without_numbers (c.args.a ∷ c.args.b ∷ []) c.args.inner.now.items) = ap length c.take_out.ensures in
    let longer = room_with c.args.inner.now.items c.args.leaf c.args.a c.args.b in
    (omega arith, omega (arith, same, longer, c.requires))
