use Rattle.std.proofs.Common.{refl}
use Rattle.syn_reader.proofs.laws.worked_models.Goals as goal

pub returns : goal.returns
returns c = record {
  names = refl;
  words = refl;
  said = refl;
  top = refl;
  one = refl;
}
