use Rattle.std.proofs.Common.{rules}
use Rattle.syn_command_files.proofs.Decimals.{clipped}
use Rattle.syn_command_files.proofs.luts.thousandths.Goals as goal

pub returns : goal.returns
returns c = search (rules, clipped)
