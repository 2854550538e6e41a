use Rattle.std.proofs.Common.{◌≡◌, ◌↔◌, ◌+◌, ◌-◌, ℕ, List, IfOk, true, false, refl, sym, ◌∙◌, subst, arith}
use Rattle.std.proofs.lemmas.Bool.{both_ways}
use Rattle.std.proofs.lemmas.Result.{IfOk-weaker}
use Rattle.syn_rows.specs.Rows.{row_at}
use Rattle.syn_paths.specs.Tops.{IsInTop, label_in}
use Rattle.syn_paths.specs.Paths.{ArePathsInto}
use Rattle.syn_flow.specs.Checks.{IsGood, rises_row}
use Rattle.syn_flow.specs.Flows.{shown_of}
use Rattle.syn_hashed.proofs.Orders.{hashed_in_order}
use Rattle.syn_flow.proofs.Labelled.{level_for}
use Rattle.syn_flow.proofs.Witnessed.{fit_falls, good_exact, good_there, risen_is}
use Rattle.syn_flow.proofs.certificate.bears_out.Goals as goal

pub are_paths_for-requires-clause-order : goal.are_paths_for-requires-clause-order
are_paths_for-requires-clause-order c = hashed_in_order c.requires.hashed.0 c.args.rows.now c.requires.hashed.1

pub are_paths_for-requires-clause-falls : goal.are_paths_for-requires-clause-falls
are_paths_for-requires-clause-falls c = fit_falls c.requires.hashed.0 c.args.rows.now (label_in c.args.labels.now) c.requires.hashed.1 c.requires.fit c.args.entry.now.node

pub are_paths_for-requires-clause-low : goal.are_paths_for-requires-clause-low
are_paths_for-requires-clause-low c =
    let rows = c.args.rows.now in
    let label = label_in c.args.labels.now in
    let n = c.args.entry.now.node in
    let risen : rises_row label n (row_at rows n) ≡ true = sym c.rises_row-rises.ensures ∙ c.if-rises.true in
    let is = risen_is rows label n risen in
    level_for rows label n (label n - 1) (omega (arith, is.2))

pub returns-then-n-rows-clause-good : goal.returns-then-n-rows-clause-good
returns-then-n-rows-clause-good c =
    (λ e. absurd (both_ways false refl e), λ good. absurd (omega (arith, good_there c.args.k c.args.rows.now (label_in c.args.labels.now) (shown_of c.args.entry.now) good, c.if-n-rows.true)))

pub returns-then-rises-clause-good : goal.returns-then-rises-clause-good
returns-then-rises-clause-good c =
    let rows = c.args.rows.now in
    let label = label_in c.args.labels.now in
    let n = c.args.entry.now.node in
    let risen : rises_row label n (row_at rows n) ≡ true = sym c.rises_row-rises.ensures ∙ c.if-rises.true in
    let is = risen_is rows label n risen in
    let told = subst (λ (l : List (List ℕ)). IfOk c.are_paths_for.result (λ b. (b ≡ true) ↔ ArePathsInto rows (IsInTop rows label n (label n - 1)) (c.args.k + 1) l)) c.as_slice-lists.ensures c.are_paths_for.ensures.paths in
    IfOk-weaker c.are_paths_for.result (λ b. (b ≡ true) ↔ ArePathsInto rows (IsInTop rows label n (label n - 1)) (c.args.k + 1) c.args.entry.now.lists) (λ b. (b ≡ true) ↔ IsGood c.args.k rows label (shown_of c.args.entry.now))
    (λ b exact. good_exact c.args.k rows label n (label n - 1) (c.args.k + 1) c.args.entry.now.lists b risen (omega (arith, is.2)) (omega arith) exact) told

pub returns-clause-good : goal.returns-clause-good
returns-clause-good c =
    let rows = c.args.rows.now in
    let label = label_in c.args.labels.now in
    let n = c.args.entry.now.node in
    let calm : rises_row label n (row_at rows n) ≡ false = sym c.rises_row-rises.ensures ∙ c.if-rises.false in
    (λ e. absurd (both_ways false refl e), λ good. absurd (both_ways (rises_row label n (row_at rows n)) calm good.0))
