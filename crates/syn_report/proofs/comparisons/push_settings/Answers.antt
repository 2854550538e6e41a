use Rattle.std.proofs.Common.{arith}
use Rattle.std.proofs.lemmas.Grind.{common_steps}
use Rattle.syn_report.proofs.Settings.{next_setting, no_setting}
use Rattle.syn_report.proofs.comparisons.push_settings.Goals as goal
use Rattle.syn_report.proofs.comparisons.push_settings.Goals.{then-place-values+in_ok-push_setting, else-place-values}

pub loop-place-preserved : goal.loop-place-preserved
loop-place-preserved c =
    let names = c.args.names.now in
    let sources = c.args.sources.now in
    let values = c.args.values.now in
    let place = c.loop-place.place in
    elim c.if-place-values.branch [
      | then-place-values+in_ok-push_setting w ↦ (let next = next_setting names sources values place c.loop-place-test.true w.if-place-values.true in grind (arith, common_steps, next))
      | else-place-values w ↦ (let next = no_setting names sources values place w.if-place-values.false in grind (arith, common_steps, next))
    ]
