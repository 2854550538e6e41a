use Rattle.std.proofs.Common.{refl}
use Rattle.syn_reader.proofs.laws.worked_subcircuits.Goals as goal

pub returns : goal.returns
returns c = record {
  unbound = refl;
  no_model = refl;
  no_equals = refl;
  no_formal = refl;
  no_actual = refl;
  nil_actual = refl;
  nil_formal = refl;
  bound_twice = refl;
  shape_first = refl;
  no_rows = refl;
  first_equals = refl;
}
