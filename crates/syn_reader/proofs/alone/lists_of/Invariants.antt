use Rattle.std.proofs.Common.{◌≡◌, ◌++◌, [], flat_map, length}
use Rattle.std.specs.Vec.Iter.{into_iter_items, into_iter_len}
use Rattle.syn_models.specs.declared.ports.Role.TheVariants.{Clock, Input, Output}
use Rattle.syn_models.specs.Listed.{listed_in}
use Rattle.syn_models.specs.Reading.{read_in}
use Rattle.syn_reader.specs.Alone.{latches_in, tables_in}
use Rattle.syn_reader.proofs.alone.lists_of.Given as goal

abbrev pub invariant-loop-statement : goal.invariant-loop-statement
invariant-loop-statement l = record {
  inputs : l.lists.inputs.items ++ flat_map (listed_in Input) (into_iter_items l.statement-iterator) ≡ flat_map (listed_in Input) l.fn.statements.items;
  clocks : l.lists.clocks.items ++ flat_map (listed_in Clock) (into_iter_items l.statement-iterator) ≡ flat_map (listed_in Clock) l.fn.statements.items;
  outputs : l.lists.outputs.items ++ flat_map (listed_in Output) (into_iter_items l.statement-iterator) ≡ flat_map (listed_in Output) l.fn.statements.items;
  latches : l.lists.latches.items ++ flat_map latches_in (into_iter_items l.statement-iterator) ≡ flat_map latches_in l.fn.statements.items;
  tables : l.lists.tables.items ++ flat_map tables_in (into_iter_items l.statement-iterator) ≡ flat_map tables_in l.fn.statements.items;
  reads : l.lists.reads.items ++ flat_map (read_in []) (into_iter_items l.statement-iterator) ≡ flat_map (read_in []) l.fn.statements.items;
  len : into_iter_len l.statement-iterator ≡ length (into_iter_items l.statement-iterator);
}
