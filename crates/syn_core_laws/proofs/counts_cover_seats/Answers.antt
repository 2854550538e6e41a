use Rattle.syn_core_laws.proofs.Showing as Showing
use Rattle.syn_core_laws.proofs.counts_cover_seats.Goals as goal

pub returns : goal.returns
returns c = Showing.counts_cover_seats
