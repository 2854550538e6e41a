use Rattle.std.proofs.Common.{arith}
use Rattle.syn_aiger.proofs.Counting.{place_small, undefined_here}
use Rattle.syn_aiger.proofs.file_numbers.Numbered.lit.Goals as goal

pub of-requires : goal.of-requires
of-requires c = let small = place_small c.args.self.now.aig c.args.self.now.sound c.args.l c.in-Some.place c.in-Some.ensures in omega arith

pub unreachable-requires : goal.unreachable-requires
unreachable-requires c = undefined_here c.args.self.now.aig c.args.l c.requires c.in-None.ensures
