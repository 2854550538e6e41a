use Rattle.std.proofs.Common.{arith}
use Rattle.syn_npn.proofs.Noting.{is_class, seen_class, seen_none}
use Rattle.syn_npn.proofs.table.note_new.Goals as goal

pub note_class-requires-clause-class : goal.note_class-requires-clause-class
note_class-requires-clause-class c = is_class c.args.number c.args.keys.now (omega arith) c.requires.seen c.if-keys-number.true

pub returns-then-keys-number-clause-seen : goal.returns-then-keys-number-clause-seen
returns-then-keys-number-clause-seen c = seen_class c.args.number c.args.keys.now c.note_class.new.keys c.requires.seen c.note_class.ensures.noted

pub returns-else-keys-number-clause-seen : goal.returns-else-keys-number-clause-seen
returns-else-keys-number-clause-seen c = seen_none c.args.number c.args.keys.now (omega arith) c.requires.seen c.if-keys-number.false
