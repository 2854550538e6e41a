use Rattle.std.proofs.Common.{length, sym, arith}
use Rattle.syn_cuts.proofs.Putting.{not_full, take_short}
use Rattle.syn_cuts.proofs.unions.make_room.Goals as goal

pub returns-else-is_full-clause-items : goal.returns-else-is_full-clause-items
returns-else-is_full-clause-items c =
    let few = not_full (length c.args.kept.now.items) c.is_full.result c.is_full.ensures.value c.if-is_full.false c.requires in
    sym (take_short c.args.kept.now.items 30 few)

pub returns-else-is_full-clause-len : goal.returns-else-is_full-clause-len
returns-else-is_full-clause-len c =
    let few = not_full (length c.args.kept.now.items) c.is_full.result c.is_full.ensures.value c.if-is_full.false c.requires in
    omega (arith, few)
