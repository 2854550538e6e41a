use Rattle.syn_cuts.proofs.Rising.{listed_cuts_rise}
use Rattle.syn_cuts.proofs.laws.listed_cuts_rise.Goals as goal

pub returns : goal.returns
returns c = listed_cuts_rise
