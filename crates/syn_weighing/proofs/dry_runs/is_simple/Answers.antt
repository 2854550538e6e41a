use Rattle.std.proofs.Common.{◌≢◌, sym, ◌∙◌, arith}
use Rattle.std.proofs.lemmas.Bool.{eqb-false}
use Rattle.syn_rows.proofs.JoinLaws.{needs_none}
use Rattle.syn_weighing.proofs.dry_runs.is_simple.Goals as goal

pub returns-else-first-eq0 : goal.returns-else-first-eq0
returns-else-first-eq0 c = λ h.
    let first : c.node-first.result ≢ 0 = c.if-first-eq0.false.1 in
    let second : c.node-second.result ≢ 0 = eqb-false c.node-second.result 0 h in
    needs_none c.args.x c.args.y (record {
      apart = λ e. c.if-first-eq0.false.0 (c.node-first.ensures ∙ e ∙ sym c.node-second.ensures);
      first = omega (arith, first, c.node-first.ensures);
      second = omega (arith, second, c.node-second.ensures);
    })
