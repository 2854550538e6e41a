use Rattle.std.proofs.Common.{ℕ, List, sym, subst, subst₂}
use Rattle.syn_rows.specs.Values.{value_in}
use Rattle.syn_hashed.specs.Compacting.{IsCompaction, is_kept, IsPlaces, kept_below}
use Rattle.syn_hashed.specs.HashedAgain.{IsHashedAgain}
use Rattle.syn_hashed.proofs.HashedAgain.{kept_again}
use Rattle.syn_hashed.proofs.Dropped.{hashed_order, compaction}
use Rattle.syn_hashed.proofs.compaction.drop_unmarked.Goals as goal

pub kept_rows-requires-clause-order : goal.kept_rows-requires-clause-order
kept_rows-requires-clause-order c = hashed_order c.args.count c.args.rows.now c.requires.hashed

pub returns : goal.returns
returns c =
    let set = value_in c.args.marks.now in
    let placed : IsPlaces c.as_slice-2.result.now (kept_below (is_kept c.args.count set)) =
    subst (λ (p : List ℕ). IsPlaces p (kept_below (is_kept c.args.count set))) (sym c.as_slice-2.ensures.value) c.in_ok-places.ensures.places in
    record {
      compact = subst₂ (IsCompaction c.args.count c.args.rows.now c.args.observed.now)
          (sym c.in_ok-kept.ensures)
          (sym (c.in_ok-moved.ensures (kept_below (is_kept c.args.count set)) placed))
          (compaction c.one_valuation.ensures c.args.count c.args.rows.now c.args.observed.now set c.requires.hashed c.requires.within c.requires.reached);
      exact = subst₂ (IsHashedAgain c.args.count c.args.rows.now c.args.observed.now)
          (sym c.in_ok-kept.ensures)
          (sym (c.in_ok-moved.ensures (kept_below (is_kept c.args.count set)) placed))
          (kept_again c.args.count c.args.rows.now c.args.observed.now set c.requires.hashed c.requires.within c.requires.reached);
    }
