use Rattle.std.proofs.Common.{◌<◌, ◌≤◌, refl, arith}
use Rattle.syn_aiger_files.proofs.Pushing.{groups_on, hands_ok}
use Rattle.syn_aiger_files.proofs.printer.+push_groups.Goals as goal

pub returns : goal.returns
returns t c =
    let some : 0 < c.args.groups = omega (arith, c.if-groups-eq0.false) in
    let big : 128 ≤ c.args.number = omega (arith, c.if-number-lt128.false) in
    hands_ok c.push_groups.result _ _ (λ e. groups_on c.args.out.now.items c.push-2.new.self.items c.push_groups.new.out.items c.args.groups c.args.number _ some big refl c.in_ok-push-2.ensures.items e) c.push_groups.ensures
