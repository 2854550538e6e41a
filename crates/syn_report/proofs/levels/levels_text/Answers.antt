use Rattle.std.proofs.Common.{ℕ, List, length, ap, arith}
use Rattle.syn_report.proofs.Counts.{all_below_greatest}
use Rattle.syn_report.proofs.levels.levels_text.Goals as goal

pub count_levels-requires-clause-there : goal.count_levels-requires-clause-there
count_levels-requires-clause-there c =
    let same = ap (λ (ns : List ℕ). length ns) c.as_mut_slice.ensures.value in
    λ k d lt. omega (arith, all_below_greatest c.args.levels.now k d lt, c.greatest.ensures, c.in_ok-counts.ensures.count, same)
