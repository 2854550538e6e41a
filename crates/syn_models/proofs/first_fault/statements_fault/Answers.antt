use Rattle.std.proofs.Common.{◌≡◌, ℕ, ◌<◌, List, [], map, take, length, get_or, sym, ap, ◌∙◌, subst, arith}
use Rattle.syn_models.specs.declared.hierarchy.Statement.{Statement}
use Rattle.syn_models.specs.FlatFaults.{checks}
use Rattle.syn_models.specs.Files.{all_in}
use Rattle.syn_models.specs.Kept.{is_spelled, statement_in}
use Rattle.syn_models.specs.Marked.{Marked, defined_before, above_of}
use Rattle.syn_models.specs.Models as models
use Rattle.syn_models.specs.Models.{binds_once, subcircuits_in}
use Rattle.syn_models.specs.Views.{model_in}
use Rattle.syn_models.proofs.Stepping.{at_statement, above_on, statements_on}
use Rattle.syn_models.proofs.first_fault.statements_fault.Goals as goal

pub statement_fault-requires-clause-spelled : goal.statement_fault-requires-clause-spelled
statement_fault-requires-clause-spelled c =
    at_statement is_spelled subcircuits_in c.args.m.now.names c.args.m.now.statements c.loop-s.s-index c.s-item.result c.args.m.now.spelled (omega (arith, ap length c.as_slice-s-items.ensures)) (c.s-item.is ∙ ap (λ (xs : List Statement). get_or xs c.loop-s.s-index c.s-item.result) c.as_slice-s-items.ensures)

pub statement_fault-requires-clause-once : goal.statement_fault-requires-clause-once
statement_fault-requires-clause-once c =
    at_statement binds_once subcircuits_in c.args.m.now.names c.args.m.now.statements c.loop-s.s-index c.s-item.result c.args.m.now.formals_once (omega (arith, ap length c.as_slice-s-items.ensures)) (c.s-item.is ∙ ap (λ (xs : List Statement). get_or xs c.loop-s.s-index c.s-item.result) c.as_slice-s-items.ensures)

pub loop-s-preserved : goal.loop-s-preserved
loop-s-preserved c =
    let all : List models.Model = all_in c.args.file.now in
    let m = c.args.m.now in
    let i : ℕ = c.loop-s.s-index in
    let s : Statement = c.s-item.result in
    let inside : c.loop-s.s-index < length c.args.m.now.statements = omega (arith, ap length c.as_slice-s-items.ensures) in
    let is : c.s-item.result ≡ get_or c.args.m.now.statements c.loop-s.s-index c.s-item.result = c.s-item.is ∙ ap (λ (xs : List Statement). get_or xs c.loop-s.s-index c.s-item.result) c.as_slice-s-items.ensures in
    let above : List models.Statement = above_of [] (map (statement_in c.args.m.now.names) (take c.loop-s.s-index c.args.m.now.statements)) in
    let marked = rw c.in_default.is at c.in_ok-fault.ensures.marked in
    record {
      left =
          statements_on checks all (model_in m) m.names m.statements i s inside is (sym c.in_default.is ∙ c.in_ok-fault.ensures.found (model_in m) above c.loop-s.invariant.marked)
          ∙ c.loop-s.invariant.left;
      marked =
          subst (λ (a : List models.Statement). Marked m.names (defined_before all (model_in m) a) c.statement_fault.new.marks) (sym (above_on m.names m.statements i s inside is)) (marked (model_in m) above c.loop-s.invariant.marked);
    }
