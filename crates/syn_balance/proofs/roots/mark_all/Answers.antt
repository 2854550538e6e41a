use Rattle.std.proofs.Common.{◌≡◌, ◌+◌, ℕ, suc, length, refl, subst, arith}
use Rattle.syn_rows.specs.Rows.{row_at}
use Rattle.syn_rows.specs.References.{refs}
use Rattle.syn_hashed.proofs.Dropped.{refs_there}
use Rattle.syn_balance.specs.Roots.{AreRead, complements, IsCounted}
use Rattle.syn_balance.proofs.Marking.{row_read, roots_done}
use Rattle.syn_balance.proofs.roots.mark_all.Goals as goal

pub read_row-requires-clause-there : goal.read_row-requires-clause-there
read_row-requires-clause-there c = refs_there c.args.rows.now c.loop-row.row-index (length c.loop-row.seen) _ c.requires.order c.loop-row-test.true c.loop-row.invariant.counted.all_seen refl

pub loop-row-preserved : goal.loop-row-preserved
loop-row-preserved c =
    let rows = c.args.rows.now in
    let row = row_at rows c.loop-row.row-index in
    subst (λ (k : ℕ). AreRead rows k c.read_row.new.seen c.read_row.new.marks) (let e : suc c.loop-row.row-index ≡ c.loop-row.row-index + 1 = omega arith in e)
    (row_read rows c.loop-row.row-index row c.loop-row.seen c.loop-row.marks c.read_row.new.seen c.read_row.new.marks c.loop-row.invariant refl c.read_row.ensures.kept c.read_row.ensures.complements
    (subst (λ (k : ℕ). (f g : ℕ → ℕ) → IsCounted k f g c.loop-row.seen c.loop-row.marks → IsCounted k (λ m. f m + refs m row) (λ m. g m + complements m row) c.read_row.new.seen c.read_row.new.marks) c.loop-row.invariant.counted.all_seen c.read_row.ensures.counted))

pub returns : goal.returns
returns c =
    let rows = c.args.rows.now in
    let done : AreRead rows (length rows) c.loop-row.seen c.loop-row.marks = subst (λ (k : ℕ). AreRead rows k c.loop-row.seen c.loop-row.marks) (let e : c.loop-row.row-index ≡ length rows = omega arith in e) c.loop-row.invariant in
    roots_done rows c.args.observed.now c.loop-row.seen c.loop-row.marks c.mark_observed.new.marks done c.mark_observed.ensures.size c.mark_observed.ensures.kept c.mark_observed.ensures.all c.mark_observed.ensures.only
