use Rattle.std.proofs.Common.{◌≡◌, ℕ, List, Option, None, Some, sym, ap, ◌∙◌}
use Rattle.syn_netlist.specs.Faults.{first_undriven}
use Rattle.syn_netlist.specs.Views.{netlist_in}
use Rattle.syn_models.specs.Answers.{models_in}
use Rattle.syn_models.proofs.ModelTables.{checked_first}
use Rattle.syn_models.proofs.Totalling.{check_tells_recursion}
use Rattle.syn_models.proofs.containment.model_order.Goals as goal

pub unreachable-requires : goal.unreachable-requires
unreachable-requires c =
    let models = models_in c.args.file.now.models.now in
    let found : first_undriven (netlist_in c.in_ok-netlist.netlist) ≡ Some c.in-Err-Undriven.field-0-0 = rw c.in-Err-Undriven.field-0-is at c.in-Err-Undriven.ensures.fault in
    let none : first_undriven (netlist_in c.in_ok-netlist.netlist) ≡ None = ap first_undriven c.in_ok-netlist.ensures ∙ check_tells_recursion.driven models (checked_first models c.requires.none) in
    let both : ◌≡◌ {A = Option (List ℕ)} (Some c.in-Err-Undriven.field-0-0) None = sym found ∙ none in
    absurd cc
