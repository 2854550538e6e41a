use Rattle.std.proofs.Common.{refl}
use Rattle.syn_reader.proofs.laws.worked_texts.Goals as goal

pub returns : goal.returns
returns c = record {
  accepted = refl;
  mixed = refl;
  shape = refl;
  bad_byte = refl;
  backslash = refl;
  twice = refl;
  after_end = refl;
  stray = refl;
  extra = refl;
  latch = refl;
  latch_control = refl;
  latch_nil = refl;
  latch_shape = refl;
  latch_type = refl;
  latch_type_first = refl;
  latch_init = refl;
  latch_twice = refl;
  shared = refl;
  shared_twice = refl;
  joined = refl;
}
