use Rattle.std.proofs.Common.{◌≡◌, arith, None}
use Rattle.syn_io.specs.Outside.{Input}
use Rattle.syn_shell.specs.Outside.{State, nothing_yet, state}
use Rattle.syn_shell.specs.LineMode.{most_lines}
use Rattle.syn_shell.proofs.Turning.{goes_on_from, ends_at, ends_last}
use Rattle.syn_shell.proofs.line_mode.run_lines.Goals as goal

pub loop-taken-preserved : goal.loop-taken-preserved
loop-taken-preserved g c = λ lines more after i' rest.
    let start : State = state nothing_yet (g.F.Files.disk c.args.files.now) (g.O.Sink.screen c.args.out.now) in
    let now : State = state c.loop-taken.session (g.F.Files.disk c.loop-taken.files) (g.O.Sink.screen c.loop-taken.out) in
    let told : State = state c.take_turn.new.session (g.F.Files.disk c.take_turn.new.files) (g.O.Sink.screen c.take_turn.new.out) in
    let i0 : Input = g.L.Lines.input c.args.lines.now in
    let i : Input = g.L.Lines.input c.loop-taken.lines in
    let j : Input = g.L.Lines.input c.take_turn.new.lines in
    goes_on_from c.loop-taken._taken c.loop-taken.status c.in-GoesOn.next c.first_status-status.result now told start after i j i0 i' lines more c.loop-taken-test.true c.in-GoesOn.ensures c.first_status-status.ensures rest
    (λ ls all runs. c.loop-taken.invariant ls all after i' runs)

pub returns-in-Ends : goal.returns-in-Ends
returns-in-Ends g c =
    let start : State = state nothing_yet (g.F.Files.disk c.args.files.now) (g.O.Sink.screen c.args.out.now) in
    let now : State = state c.loop-taken.session (g.F.Files.disk c.loop-taken.files) (g.O.Sink.screen c.loop-taken.out) in
    let after : State = state c.take_turn.new.session (g.F.Files.disk c.take_turn.new.files) (g.O.Sink.screen c.take_turn.new.out) in
    let i0 : Input = g.L.Lines.input c.args.lines.now in
    let i : Input = g.L.Lines.input c.loop-taken.lines in
    let i' : Input = g.L.Lines.input c.take_turn.new.lines in (
      c.take_turn.new.session,
      ends_at c.loop-taken._taken c.loop-taken.status c.in-Ends.next c.first_status.result now start after i i0 i' c.loop-taken-test.true c.in-Ends.ensures c.first_status.ensures (λ ls all runs. c.loop-taken.invariant ls all after i' runs),
    )

pub returns : goal.returns
returns g c =
    let start : State = state nothing_yet (g.F.Files.disk c.args.files.now) (g.O.Sink.screen c.args.out.now) in
    let now : State = state c.loop-taken.session (g.F.Files.disk c.loop-taken.files) (g.O.Sink.screen c.loop-taken.out) in
    let after : State = state c.loop-taken.session (g.F.Files.disk c.loop-taken.files) (g.O.Sink.screen c.refuse_one_more_line.new.out) in
    let i0 : Input = g.L.Lines.input c.args.lines.now in
    let i : Input = g.L.Lines.input c.loop-taken.lines in
    let i' : Input = g.L.Lines.input c.refuse_one_more_line.new.lines in
    let all_taken : c.loop-taken._taken ≡ most_lines = omega arith in (
      c.loop-taken.session,
      ends_last c.loop-taken._taken c.loop-taken.status c.refuse_one_more_line.result c.first_status-2.result now start after i i0 i' all_taken
          (c.refuse_one_more_line.ensures.each c.loop-taken.session (g.F.Files.disk c.loop-taken.files)) c.first_status-2.ensures (λ ls all runs. c.loop-taken.invariant ls all after i' runs),
    )
