use Rattle.syn_npn.proofs.Moving.{value_at-moved}
use Rattle.syn_npn.proofs.walk.moved.Goals as goal

pub returns : goal.returns
returns c = λ m h. value_at-moved c.args.table c.args.kept c.args.lower c.args.gap m c.requires.gap c.requires.fits
