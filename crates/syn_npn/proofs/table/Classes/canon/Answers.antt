use Rattle.syn_npn.proofs.Least.{canon_key-parts}
use Rattle.syn_npn.proofs.table.Classes.canon.Goals as goal

pub of_key-requires-clause-class : goal.of_key-requires-clause-class
of_key-requires-clause-class c = (canon_key-parts c.args.function c.key.result c.key.ensures).0

pub of_key-requires-clause-place : goal.of_key-requires-clause-place
of_key-requires-clause-place c = (canon_key-parts c.args.function c.key.result c.key.ensures).1
