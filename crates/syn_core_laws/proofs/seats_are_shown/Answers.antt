use Rattle.syn_core_laws.proofs.Showing as Showing
use Rattle.syn_core_laws.proofs.seats_are_shown.Goals as goal

pub returns : goal.returns
returns c = Showing.seats_are_shown
