use Rattle.std.proofs.Common.{rules, ◌≡◌, ◌+◌, List, length, get_or, sym, ap, ◌∙◌, subst, arith}
use Rattle.std.proofs.lemmas.List.{take_all}
use Rattle.syn_rows.specs.declared.Lit.{Lit}
use Rattle.syn_rows.specs.declared.Row.{Row}
use Rattle.syn_rows.specs.Joining.{lit_of}
use Rattle.syn_gain.specs.Lookups.{ArePlaced}
use Rattle.syn_gain.proofs.Bounds.{below_each}
use Rattle.syn_gain.proofs.NodesThere.{begun_placed}
use Rattle.syn_weighing.proofs.Told.{each_long}
use Rattle.syn_weighing.proofs.dry_runs.dry_run.Goals as goal

pub dry_run_gates-requires-clause-placed : goal.dry_run_gates-requires-clause-placed
dry_run_gates-requires-clause-placed c =
    let r = c.args.candidate in
    let first = length c.as_slice.result.now in
    subst (λ (es : List Row). ArePlaced first c.truncate.new.self.items es) (sym c.clear.ensures)
    (begun_placed first r.plan.now.leaves r.leaves.now c.truncate.new.self.items (c.truncate.ensures.items ∙ c.requires.begins)
    (omega (arith, r.root_is_no_constant, c.requires.leaves, c.requires.low, ap length c.as_slice.ensures)) (search rules) (λ i lt. omega (arith, below_each r.root r.leaves.now r.below_root i lt, c.requires.leaves, c.requires.low, ap length c.as_slice.ensures)))

pub returns-clause-begins : goal.returns-clause-begins
returns-clause-begins c =
    let r = c.args.candidate in
    let count = r.plan.now.leaves in
    let is = c.truncate.ensures.items ∙ c.requires.begins in
    let long : length c.truncate.new.self.items ≡ 1 + count = omega (arith, ap (λ (ls : List Lit). length ls) is, each_long count (λ i. lit_of (get_or r.leaves.now i 0))) in
    c.dry_run_gates.ensures.first (1 + count) (omega (arith, long)) ∙ take_all (1 + count) c.truncate.new.self.items (omega (arith, long)) ∙ is
