use Rattle.std.proofs.Common.{◌≡◌, [], map, take, drop}
use Rattle.syn_models.specs.FlatFaults.{checks, first_of_statements}
use Rattle.syn_models.specs.Files.{all_in}
use Rattle.syn_models.specs.Kept.{statement_in}
use Rattle.syn_models.specs.Marked.{Marked, defined_before, above_of}
use Rattle.syn_models.specs.Views.{model_in}
use Rattle.syn_models.proofs.first_fault.statements_fault.Given as goal

abbrev pub invariant-loop-s : goal.invariant-loop-s
invariant-loop-s l = record {
  left : first_of_statements checks (all_in l.file) (model_in l.m) (above_of [] (map (statement_in l.m.names) (take l.s-index l.m.statements))) (map (statement_in l.m.names) (drop l.s-index l.m.statements))
      ≡ first_of_statements checks (all_in l.file) (model_in l.m) [] (model_in l.m).statements;
  marked : Marked l.m.names (defined_before (all_in l.file) (model_in l.m) (above_of [] (map (statement_in l.m.names) (take l.s-index l.m.statements)))) l.marks;
}
