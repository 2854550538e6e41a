use Rattle.syn_cones.proofs.Carrying.{fits_past}
use Rattle.syn_cones.proofs.laws.fits_past_more.Goals as goal

pub returns : goal.returns
returns c = fits_past
