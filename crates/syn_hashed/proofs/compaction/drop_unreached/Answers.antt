use Rattle.std.proofs.Common.{◌≡◌, ◌<◌, ℕ, Bool, true, List, length, sym, ap, subst, subst₂, arith}
use Rattle.syn_rows.specs.declared.Lit.{Lit}
use Rattle.syn_rows.specs.declared.Row.{Row}
use Rattle.syn_rows.specs.Rows.{refs_within, lits_within}
use Rattle.syn_rows.specs.Values.{value_in}
use Rattle.syn_rows.specs.Reach.{IsReachedSet}
use Rattle.syn_hashed.proofs.HashedAgain.{same_again}
use Rattle.syn_hashed.proofs.Dropped.{hashed_within, all_lits_in, reached_compaction}
use Rattle.syn_hashed.proofs.compaction.drop_unreached.Goals as goal

pub reached-requires-clause-rows : goal.reached-requires-clause-rows
reached-requires-clause-rows c = subst (λ (rs : List Row). refs_within rs ≡ true) (sym c.as_slice-rows.ensures.value) (hashed_within c.args.count c.args.all.rows.items c.requires.hashed)

pub reached-requires-clause-observed : goal.reached-requires-clause-observed
reached-requires-clause-observed c =
    subst₂ (λ (rs : List Row) (ls : List Lit). lits_within rs ls ≡ true) (sym c.as_slice-rows.ensures.value) (sym c.as_slice-observed.ensures.value) (all_lits_in (length c.args.all.rows.items) c.args.all.observed.items c.requires.within)

pub returns-then-all_marked-clause-compact : goal.returns-then-all_marked-clause-compact
returns-then-all_marked-clause-compact c =
    let marks : List Bool = c.in_ok-marks.marks.items in
    let reached : IsReachedSet c.args.all.rows.items c.args.all.observed.items (value_in marks) =
    subst₂ (λ (rs : List Row) (ls : List Lit). IsReachedSet rs ls (value_in marks)) c.as_slice-rows.ensures.value c.as_slice-observed.ensures.value c.in_ok-marks.ensures.reached in
    let all : (n : ℕ) → c.args.count < n → n < length marks → value_in marks n ≡ true =
    subst (λ (ms : List Bool). (n : ℕ) → c.args.count < n → n < length ms → value_in ms n ≡ true) c.as_slice.ensures.value (c.all_marked.ensures c.if-all_marked.true) in
    reached_compaction c.args.count c.args.all.rows.items c.args.all.observed.items (value_in marks) c.requires.hashed c.requires.within reached
    (λ n above lt. all n above (omega (arith, lt, c.in_ok-marks.ensures.length, ap length c.as_slice-rows.ensures.value)))

pub returns-then-all_marked-clause-exact : goal.returns-then-all_marked-clause-exact
returns-then-all_marked-clause-exact c = same_again c.args.count c.args.all.rows.items c.args.all.observed.items c.requires.hashed c.requires.within
