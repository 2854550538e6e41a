use Rattle.std.proofs.Common.{◌≡◌, ◌<◌, sym, ap, length, get_or, arith, rules}
use Rattle.syn_absorb.proofs.Narrowing.{ignores_idle, needed_more}
use Rattle.syn_absorb.proofs.narrow.first_idle.Goals as goal

pub returns-then-is_idle-clause-some : goal.returns-then-is_idle-clause-some
returns-then-is_idle-clause-some c =
    let i = c.loop-signal.i in
    let place : i ≡ c.loop-signal.signal-index = c.loop-signal.invariant.place in
    let inside : i < length c.args.inputs.now = omega (arith, place, c.loop-signal-test.true) in
    let at = ap (λ n. get_or c.args.inputs.now n 0) (sym place) in
    (inside, ignores_idle c.args.truth c.args.inputs.now i _ c.requires inside at (c.is_idle.ensures.idle c.if-is_idle.true))

pub loop-signal-preserved : goal.loop-signal-preserved
loop-signal-preserved c =
    let inv = c.loop-signal.invariant in
    record {
      place = omega (arith, inv.place);
      needed = needed_more c.args.truth c.args.inputs.now c.loop-signal.signal-index c.loop-signal.i _ inv.place (search rules) inv.needed (c.is_idle.ensures.needed c.if-is_idle.false);
    }

pub returns-clause-none : goal.returns-clause-none
returns-clause-none c i lt = c.loop-signal.invariant.needed i (omega (arith, lt, c.loop-signal-test.false))
