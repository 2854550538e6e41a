use Rattle.std.proofs.Common.{arith}
use Rattle.syn_npn.proofs.Least.{read_key}
use Rattle.syn_npn.proofs.table.Classes.key.Goals as goal

pub returns : goal.returns
returns c = read_key c.args.self.now.keys.items c.args.function c.index.result.now c.args.self.now.keyed (omega (arith, c.args.self.now.count)) c.index.ensures
