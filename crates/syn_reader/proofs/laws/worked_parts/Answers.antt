use Rattle.std.proofs.Common.{refl}
use Rattle.syn_reader.proofs.laws.worked_parts.Goals as goal

pub returns : goal.returns
returns c = record {
  accepted = refl;
  empty = refl;
  unnamed = refl;
  second_model = refl;
  after_end = refl;
  after_both = refl;
  model_after_end = refl;
  model_without_end = refl;
  unnamed_after_end = refl;
  model_twice = refl;
  no_name = refl;
  extra_word = refl;
  own_names = refl;
  own_twice = refl;
  own_rows = refl;
  earlier_line = refl;
  bad_byte = refl;
  unknown = refl;
}
