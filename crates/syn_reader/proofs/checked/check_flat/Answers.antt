use Rattle.std.proofs.Common.{subst}
use Rattle.std.proofs.lemmas.Result.{err_from_is_err_and}
use Rattle.syn_netlist.specs.declared.netlists.Netlist.{Netlist}
use Rattle.syn_netlist.specs.Views.{netlist_in}
use Rattle.syn_reader.specs.Limits.{IsNetFault}
use Rattle.syn_reader.proofs.FaultLaws.{passes_fault}
use Rattle.syn_reader.proofs.checked.check_flat.Goals as goal

pub returns-in_err-check_limits-clause-fault : goal.returns-in_err-check_limits-clause-fault
returns-in_err-check_limits-clause-fault c =
    let p = err_from_is_err_and c.from_residual-in_err-check_limits.result c.from_residual-in_err-check_limits.ensures.1 in
    passes_fault c.from_residual-in_err-check_limits.result p.0 c.in_err-check_limits.field-0.0 (IsNetFault (netlist_in c.in_ok-checked.checked.netlist)) (IsNetFault (netlist_in c.args.n)) p.1 p.2
    (λ f h. subst (λ (n : Netlist). IsNetFault (netlist_in n) f) c.in_ok-checked.ensures.netlist h) c.in_err-check_limits.ensures.fault
