use Rattle.std.proofs.Common.{get_or, arith}
use Rattle.syn_decide.proofs.Least.{refs_more}
use Rattle.syn_decide.proofs.mffc.release.Goals as goal

pub returns : goal.returns
returns g c = λ dying was. record {
  len = c.loop-i.invariant.len;
  each = λ i d lt.
      let now = c.loop-i.invariant.done i d (omega (arith, lt, c.loop-i-test.false)) in
      omega (arith, now, was.each i d lt, refs_more dying c.args.gone (get_or c.args.rows.now i d).node);
}
