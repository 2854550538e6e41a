use Rattle.std.proofs.Common.{ℕ, List, ◌++◌, codes, drop, Result}
use Rattle.std.specs.List.{flat_map}
use Rattle.syn_io.specs.declared.SinkFailed.{SinkFailed}
use Rattle.syn_io.specs.Outside.{Screen}
use Rattle.syn_shell.specs.Outside.{Puts}
use Rattle.syn_shell.proofs.refusal_lines.put_names.Given as goal

abbrev pub invariant-loop-name : goal.invariant-loop-name
invariant-loop-name g l = (r : Result (Unit {0}) SinkFailed) (u : Screen)
    → Puts r (flat_map (λ (name : List ℕ). codes " " ++ name) (drop l.name-index l.names)) (g.O.Sink.screen l.out) u
    → Puts r (flat_map (λ (name : List ℕ). codes " " ++ name) l.names) (g.O.Sink.screen l.fn.out) u
