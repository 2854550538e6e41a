use Rattle.std.proofs.Common.{length}
use Rattle.syn_hashed.proofs.pairs.make_room.Goals as goal

pub returns-in_err-lengthen-clause-index : goal.returns-in_err-lengthen-clause-index
returns-in_err-lengthen-clause-index c = c.lengthen.ensures.index (length c.args.heads.now.items) c.args.rows.now c.args.heads.now.items c.requires.index

pub grow-requires-clause-index : goal.grow-requires-clause-index
grow-requires-clause-index c = c.lengthen.ensures.index (length c.args.heads.now.items) c.args.rows.now c.args.heads.now.items c.requires.index

pub returns-else-len-rows-clause-index : goal.returns-else-len-rows-clause-index
returns-else-len-rows-clause-index c = c.lengthen.ensures.index (length c.args.heads.now.items) c.args.rows.now c.args.heads.now.items c.requires.index
