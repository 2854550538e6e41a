use Rattle.std.proofs.Common.{ℕ, List, sym, subst}
use Rattle.std.proofs.lemmas.Result.{IfOk-weaker}
use Rattle.syn_netlist.specs.Views.{netlist_in}
use Rattle.syn_reader.specs.Reading.{Reads}
use Rattle.syn_text.proofs.printer.print.Goals as goal

pub returns-clause-reads_back : goal.returns-clause-reads_back
returns-clause-reads_back c checked =
    let n = netlist_in c.args.netlist.now in
    IfOk-weaker c.print_lines.result _ _ (λ v e. subst (λ (b : List ℕ). Reads b n) (sym e) (c.printed_reads.ensures n c.well_formed-2.ensures checked)) c.print_lines.ensures
