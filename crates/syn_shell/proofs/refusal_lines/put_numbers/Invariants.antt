use Rattle.std.proofs.Common.{ℕ, ◌++◌, codes, decimal, drop, Result}
use Rattle.std.specs.List.{flat_map}
use Rattle.syn_io.specs.declared.SinkFailed.{SinkFailed}
use Rattle.syn_io.specs.Outside.{Screen}
use Rattle.syn_shell.specs.Outside.{Puts}
use Rattle.syn_shell.proofs.refusal_lines.put_numbers.Given as goal

abbrev pub invariant-loop-number : goal.invariant-loop-number
invariant-loop-number g l = (r : Result (Unit {0}) SinkFailed) (u : Screen)
    → Puts r (flat_map (λ (number : ℕ). codes " " ++ decimal number) (drop l.number-index l.numbers)) (g.O.Sink.screen l.out) u
    → Puts r (flat_map (λ (number : ℕ). codes " " ++ decimal number) l.numbers) (g.O.Sink.screen l.fn.out) u
