use Rattle.std.proofs.Common.{arith, ◌≡◌, sym, subst, inl, inr, Some}
use Rattle.std.proofs.lemmas.Result.{IfOk-weaker, err_from_is_err_and}
use Rattle.syn_netlist.specs.declared.netlists.Netlist.{Netlist}
use Rattle.syn_netlist.specs.Views.{netlist_in}
use Rattle.syn_models.specs.Answers.{models_in}
use Rattle.syn_models.specs.FlatFaults.{Flattens}
use Rattle.syn_reader.specs.Limits.{IsFirstFault, IsModelsFault, IsNetFault}
use Rattle.syn_reader.specs.ModelFaults.{first_line_fault}
use Rattle.syn_reader.specs.Reading.{Reads}
use Rattle.syn_reader.proofs.FaultLaws.{hands_fault, passes_fault}
use Rattle.syn_reader.proofs.Flat.{driven_in, cost_in, checked_reads, spells_all}
use Rattle.syn_reader.proofs.file_reader.read_checked.Goals as goal

pub check_flat-requires-clause-driven : goal.check_flat-requires-clause-driven
check_flat-requires-clause-driven c = driven_in c.in_ok-models.models (netlist_in c.in_ok-netlist.netlist) c.in_ok-netlist.ensures.netlist

pub check_flat-requires-clause-cost : goal.check_flat-requires-clause-cost
check_flat-requires-clause-cost c = cost_in c.args.bytes.now c.in_ok-models.models (netlist_in c.in_ok-netlist.netlist) (omega arith) c.in_ok-models.ensures.spelled c.in_ok-netlist.ensures.netlist c.in_ok-netlist.ensures.within

pub returns-clause-reads : goal.returns-clause-reads
returns-clause-reads c =
    let r = c.in_ok-models.models in
    IfOk-weaker c.check_flat.result (λ checked. checked.netlist ≡ c.in_ok-netlist.netlist) (λ checked. Reads c.args.bytes.now (netlist_in checked.netlist))
    (λ checked e. checked_reads c.args.bytes.now r checked c.in_ok-models.ensures.spelled (subst (λ (n : Netlist). Flattens (models_in r.models) (netlist_in n)) (sym e) c.in_ok-netlist.ensures.netlist))
    c.check_flat.ensures.netlist

pub returns-in_err-models-clause-fault : goal.returns-in_err-models-clause-fault
returns-in_err-models-clause-fault c =
    let p = err_from_is_err_and c.from_residual.result c.from_residual.ensures.1 in
    passes_fault c.from_residual.result p.0 c.in_err-models.field-0.0 (λ f. first_line_fault c.args.bytes.now ≡ Some f) (IsFirstFault c.args.bytes.now) p.1 p.2 (λ f h. inl h) c.in_err-models.ensures.fault

pub returns-in_err-netlist-clause-fault : goal.returns-in_err-netlist-clause-fault
returns-in_err-netlist-clause-fault c =
    let p = err_from_is_err_and c.from_residual-in_err-netlist.result c.from_residual-in_err-netlist.ensures.1 in
    let r = c.in_ok-models.models in
    let spelled = spells_all c.args.bytes.now r c.in_ok-models.ensures.spelled in
    passes_fault c.from_residual-in_err-netlist.result p.0 c.in_err-netlist.field-0.0 (IsModelsFault (models_in r.models)) (IsFirstFault c.args.bytes.now) p.1 p.2 (λ f h. inr (inl (models_in r.models, spelled, h))) c.in_err-netlist.ensures.fault

pub returns-clause-fault : goal.returns-clause-fault
returns-clause-fault c =
    let r = c.in_ok-models.models in
    let n = netlist_in c.in_ok-netlist.netlist in
    let spelled = spells_all c.args.bytes.now r c.in_ok-models.ensures.spelled in
    hands_fault c.check_flat.result (IsNetFault n) (IsFirstFault c.args.bytes.now) (λ f h. inr (inr (models_in r.models, spelled, c.in_ok-netlist.ensures.within, (n, c.in_ok-netlist.ensures.netlist, h)))) c.check_flat.ensures.fault
