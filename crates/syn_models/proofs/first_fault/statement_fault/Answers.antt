use Rattle.std.proofs.Common.{◌∷◌, length, sym, ap, ◌∙◌, subst}
use Rattle.syn_netlist.specs.Numbers.{all_below}
use Rattle.syn_models.specs.declared.hierarchy.StatementKind.{StatementKind}
use Rattle.syn_models.specs.Files.{all_in}
use Rattle.syn_models.specs.Kept.{kind_in, numbers_in}
use Rattle.syn_models.specs.Marked.{Marked, defined_before}
use Rattle.syn_models.proofs.Stepping.{actuals_are_below}
use Rattle.syn_models.proofs.first_fault.statement_fault.Goals as goal

pub subcircuit_fault-requires-clause-below : goal.subcircuit_fault-requires-clause-below
subcircuit_fault-requires-clause-below c =
    sym (actuals_are_below (length c.args.home.now) c.in-Subckt.c.binds) ∙ sym (ap (λ (k : StatementKind). all_below (length c.args.home.now) (numbers_in k)) c.in-Subckt.is) ∙ c.requires.below

pub returns-in-None-clause-marked : goal.returns-in-None-clause-marked
returns-in-None-clause-marked c =
    let marked = rw c.in-None.is at c.in_ok-fault-in-Subckt.ensures.marked in
    λ m above h.
    subst (λ (k : StatementKind). Marked c.args.home.now (defined_before (all_in c.args.file.now) m (record { line = c.args.s.now.line; kind = kind_in c.args.home.now k } ∷ above)) c.subcircuit_fault.new.marks) (sym c.in-Subckt.is) (marked m above h)
