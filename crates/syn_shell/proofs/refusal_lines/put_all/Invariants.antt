use Rattle.std.proofs.Common.{drop, map, Result}
use Rattle.syn_io.specs.declared.SinkFailed.{SinkFailed}
use Rattle.syn_shell.specs.Lines.{joined}
use Rattle.syn_io.specs.Outside.{Screen}
use Rattle.syn_shell.specs.Outside.{Puts}
use Rattle.syn_shell.proofs.refusal_lines.put_all.Given as goal

abbrev pub invariant-loop-piece : goal.invariant-loop-piece
invariant-loop-piece g l = (r : Result (Unit {0}) SinkFailed) (u : Screen)
    → Puts r (joined (map (λ piece. piece.now) (drop l.piece-index l.pieces))) (g.O.Sink.screen l.out) u
    → Puts r (joined (map (λ piece. piece.now) l.pieces)) (g.O.Sink.screen l.fn.out) u
