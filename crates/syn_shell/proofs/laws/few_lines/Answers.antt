use Rattle.std.proofs.Common.{◌≤◌, ◌+◌, length, arith}
use Rattle.syn_shell.specs.LineMode.{most_lines}
use Rattle.syn_shell.proofs.Concluding.{few_run}
use Rattle.syn_shell.proofs.laws.few_lines.Goals as goal

pub returns : goal.returns
returns c = λ lines before after refusals i i' runs.
    let few : 0 + length lines ≤ most_lines = few_run lines 0 before after refusals i i' (omega arith) runs in
    omega (arith, few)
