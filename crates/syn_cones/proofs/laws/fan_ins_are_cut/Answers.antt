use Rattle.syn_cones.proofs.Swapping.{fan_ins_are_cut}
use Rattle.syn_cones.proofs.laws.fan_ins_are_cut.Goals as goal

pub returns : goal.returns
returns c = fan_ins_are_cut
