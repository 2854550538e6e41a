use Rattle.std.proofs.Common.{ℕ, ◌+◌, List, [], drop, get_or, map, subst, Ok}
use Rattle.std.proofs.lemmas.Result.{err_from_is_err_and}
use Rattle.syn_shell.specs.Lines.{joined}
use Rattle.syn_io.specs.Outside.{Screen}
use Rattle.syn_shell.specs.Outside.{Took}
use Rattle.syn_shell.proofs.Putting.{puts_next, puts_first, puts_same, left_next, left_none}
use Rattle.syn_shell.proofs.Taking.{took_nothing}
use Rattle.syn_shell.proofs.refusal_lines.put_all.Goals as goal

pub returns-in_err-put : goal.returns-in_err-put
returns-in_err-put g c =
    let now : Screen = g.O.Sink.screen c.loop-piece.out in
    let after : Screen = g.O.Sink.screen c.put.new.out in
    let p = err_from_is_err_and c.from_residual.result c.from_residual.ensures.1 in
    let i : ℕ = c.loop-piece.piece-index in
    c.loop-piece.invariant c.from_residual.result after
    (puts_same c.from_residual.result _ (joined (map (λ piece. piece.now) (drop i c.args.pieces.now))) now after
    (left_next (λ piece. piece.now) c.args.pieces.now i (record { ref_ptr = (0, 0); now = [] }) c.loop-piece-test.true)
    (puts_first c.from_residual.result p.0 (get_or c.args.pieces.now i (record { ref_ptr = (0, 0); now = [] })).now (joined (map (λ piece. piece.now) (drop (i + 1) c.args.pieces.now))) now after p.1 c.in_err-put.ensures))

pub loop-piece-preserved : goal.loop-piece-preserved
loop-piece-preserved g c = λ r u rest.
    let now : Screen = g.O.Sink.screen c.loop-piece.out in
    let after : Screen = g.O.Sink.screen c.put.new.out in
    let i : ℕ = c.loop-piece.piece-index in
    c.loop-piece.invariant r u
    (puts_same r _ (joined (map (λ piece. piece.now) (drop i c.args.pieces.now))) now u
    (left_next (λ piece. piece.now) c.args.pieces.now i (record { ref_ptr = (0, 0); now = [] }) c.loop-piece-test.true)
    (puts_next r (get_or c.args.pieces.now i (record { ref_ptr = (0, 0); now = [] })).now (joined (map (λ piece. piece.now) (drop (i + 1) c.args.pieces.now))) now after u c.in_ok-put.ensures rest))

pub returns : goal.returns
returns g c =
    let now : Screen = g.O.Sink.screen c.loop-piece.out in
    c.loop-piece.invariant (Ok tt) now
    (subst (λ (l : List ℕ). Took l now now) (left_none (λ piece. piece.now) c.args.pieces.now c.loop-piece.piece-index c.loop-piece-test.false) (took_nothing now))
