use Rattle.std.proofs.Common.{arith}
use Rattle.syn_table.proofs.JoinLaws.{look_allowed}
use Rattle.syn_table.proofs.Shared.see_numbers.Goals as goal

pub load-requires : goal.load-requires
load-requires c = (c.requires, omega arith, look_allowed _ _ _ _)
