use Rattle.std.proofs.Common.{◌≡◌, ◌∷◌, [], length, sym, ap, ◌∙◌, arith}
use Rattle.std.specs.Vec.Iter.{into_iter_items}
use Rattle.syn_models.specs.declared.ports.Role.TheVariants.{Clock, Input, Output}
use Rattle.syn_models.specs.Listed.{listed_in}
use Rattle.syn_models.specs.Reading.{read_in}
use Rattle.syn_reader.specs.Alone.{latches_in, tables_in}
use Rattle.syn_reader.proofs.Moving.{all_listed, no_more, one_listed}
use Rattle.syn_reader.proofs.alone.lists_of.Goals as goal

pub loop-statement-preserved : goal.loop-statement-preserved
loop-statement-preserved c =
    let at = c.loop-statement in
    let was = at.invariant in
    let x = c.in-Some.statement in
    let rest = into_iter_items c.next.new.self in
    let next : into_iter_items at.statement-iterator ≡ x ∷ rest = c.in-Some.ensures.steps.0 in
    let one = c.in_ok-add.ensures in
    let long = was.len in
    let gone = c.in-Some.ensures.steps.1 in
    let short = ap length next in
    record {
      inputs = one_listed (listed_in Input) _ _ x _ rest _ next one.inputs was.inputs;
      clocks = one_listed (listed_in Clock) _ _ x _ rest _ next one.clocks was.clocks;
      outputs = one_listed (listed_in Output) _ _ x _ rest _ next one.outputs was.outputs;
      latches = one_listed latches_in _ _ x _ rest _ next one.latches was.latches;
      tables = one_listed tables_in _ _ x _ rest _ next one.tables was.tables;
      reads = one_listed (read_in []) _ _ x _ rest _ next one.reads was.reads;
      len = omega (arith, long, gone, short);
    }

pub returns : goal.returns
returns c =
    let at = c.loop-statement in
    let was = at.invariant in
    let none : into_iter_items at.statement-iterator ≡ [] = no_more _ (sym was.len ∙ c.in-None.ensures.steps.0) in
    record {
      inputs = all_listed (listed_in Input) _ _ _ none was.inputs;
      clocks = all_listed (listed_in Clock) _ _ _ none was.clocks;
      outputs = all_listed (listed_in Output) _ _ _ none was.outputs;
      latches = all_listed latches_in _ _ _ none was.latches;
      tables = all_listed tables_in _ _ _ none was.tables;
      reads = all_listed (read_in []) _ _ _ none was.reads;
    }
