use Rattle.std.proofs.Common.{refl}
use Rattle.syn_models.proofs.laws.worked_small_models.Goals as goal

pub returns : goal.returns
returns c = record {
  adder_faultless = refl;
  adder_opens = (refl, refl, (refl, refl, (refl, refl, (refl, refl, (refl, refl, (refl, refl, (refl, refl, tt)))), tt)));
  adder_words = refl;
  adder_apart = refl;
  adder_flat = refl;
  shifter_faultless = refl;
  shifter_opens = (refl, refl, (refl, refl, (refl, refl, (refl, refl, (refl, refl, (refl, refl, tt))), (refl, refl, (refl, refl, (refl, refl, (refl, refl, tt))), tt))));
  shifter_apart = refl;
  shifter_flat = refl;
}
