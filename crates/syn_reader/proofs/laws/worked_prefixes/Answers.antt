use Rattle.std.proofs.Common.{refl}
use Rattle.syn_reader.proofs.laws.worked_prefixes.Goals as goal

pub returns : goal.returns
returns c = record {
  at_0 = refl;
  at_1 = refl;
  at_6 = refl;
  at_8 = refl;
  at_15 = refl;
  at_21 = refl;
  at_28 = refl;
  at_30 = refl;
  at_32 = refl;
  at_37 = refl;
  at_39 = refl;
  at_41 = refl;
  at_43 = refl;
  at_45 = refl;
  at_48 = refl;
  at_50 = refl;
  at_53 = refl;
  at_55 = refl;
}
