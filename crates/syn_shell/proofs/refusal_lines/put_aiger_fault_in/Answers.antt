use Rattle.std.proofs.Common.{[], ◌∷◌, codes}
use Rattle.std.proofs.lemmas.Result.{err_from_is_err_and}
use Rattle.syn_shell.specs.Lines.{joined, aiger_text}
use Rattle.syn_shell.proofs.Putting.{puts_first, puts_next}
use Rattle.syn_shell.proofs.refusal_lines.put_aiger_fault_in.Goals as goal

pub returns-in_err-put_name : goal.returns-in_err-put_name
returns-in_err-put_name g c =
    let p = err_from_is_err_and c.from_residual.result c.from_residual.ensures.1 in
    puts_first c.from_residual.result p.0 (joined (c.args.name.now ∷ codes ": " ∷ [])) (aiger_text c.args.fault.now)
    (g.O.Sink.screen c.args.out.now) (g.O.Sink.screen c.put_name.new.out) p.1 c.in_err-put_name.ensures

pub returns : goal.returns
returns g c =
    puts_next c.put_aiger_fault.result (joined (c.args.name.now ∷ codes ": " ∷ [])) (aiger_text c.args.fault.now)
    (g.O.Sink.screen c.args.out.now) (g.O.Sink.screen c.put_name.new.out) (g.O.Sink.screen c.put_aiger_fault.new.out) c.in_ok-put_name.ensures c.put_aiger_fault.ensures
