use Rattle.std.proofs.Common.{◌≡◌, ◌+◌, ◌<◌, ◌∷◌, ◌++◌, [], true, map, ap, sym, ◌∙◌, arith}
use Rattle.std.proofs.lemmas.List.{map-append}
use Rattle.syn_rows.specs.Rows.{refs_of, row_at}
use Rattle.syn_rows.specs.Reach.{is_and}
use Rattle.syn_paths.specs.Tops.{IsInTop, label_in}
use Rattle.syn_paths.specs.Paths.{ArePathsInto}
use Rattle.syn_paths.specs.Outcomes.{IsOwnCut}
use Rattle.syn_flow.specs.Flows.{shown_of}
use Rattle.syn_flow.specs.Labelling.{leaves_of}
use Rattle.syn_flow.proofs.Labelled.{label_first, label_kept, label_rose, level_for, level_from, pushed}
use Rattle.syn_flow.proofs.labels.label_and.Goals as goal

pub returns-then-level-eq0-clause-labelling : goal.returns-then-level-eq0-clause-labelling
returns-then-level-eq0-clause-labelling c =
    let l = c.args.labelling.now in
    let rows = c.args.rows.now in
    let gate : is_and (row_at rows c.args.node) ≡ true = ap is_and c.requires.row in
    let is = level_from rows l.labels.items c.args.node c.args.pair.0 c.args.pair.1 c.greatest_depth-level.result c.as_slice-labels.result.now c.as_slice.result.now c.greatest_depth-level.ensures c.as_slice-labels.ensures.value
    (c.as_slice.ensures.value ∙ c.fan_ins-nodes.ensures) c.requires.row in
    let refs : c.fan_ins-nodes.result.items ≡ refs_of (row_at rows c.args.node) = c.fan_ins-nodes.ensures ∙ ap refs_of (sym c.requires.row) in
    pushed c.args.k rows c.args.node l c.push.new.self 1 c.fan_ins-nodes.result (map shown_of l.paths.items) c.in_ok-push.ensures.labels c.in_ok-push.ensures.cuts (ap (map shown_of) c.in_ok-push.ensures.paths)
    (label_first c.args.k c.requires.hashed.0 rows c.args.node l.labels.items (leaves_of l.cuts.items) (map shown_of l.paths.items) c.fan_ins-nodes.result.items c.requires.hashed.1 c.requires.many gate c.requires.labelling
    (is ∙ c.if-level-eq0.true) refs)

pub find-requires-clause-gate : goal.find-requires-clause-gate
find-requires-clause-gate c = ap is_and c.requires.row

pub find-requires-clause-falls : goal.find-requires-clause-falls
find-requires-clause-falls c = rw c.as_slice-labels.ensures.value c.requires.labelling.falls

pub find-requires-clause-low : goal.find-requires-clause-low
find-requires-clause-low c =
    let l = c.args.labelling.now in
    let rows = c.args.rows.now in
    let gate : is_and (row_at rows c.args.node) ≡ true = ap is_and c.requires.row in
    let is = level_from rows l.labels.items c.args.node c.args.pair.0 c.args.pair.1 c.greatest_depth-level.result c.as_slice-labels.result.now c.as_slice.result.now c.greatest_depth-level.ensures c.as_slice-labels.ensures.value
    (c.as_slice.ensures.value ∙ c.fan_ins-nodes.ensures) c.requires.row in
    rw c.as_slice-labels.ensures.value (level_for rows (label_in l.labels.items) c.args.node c.greatest_depth-level.result is)

pub find-requires-clause-others : goal.find-requires-clause-others
find-requires-clause-others c = rw c.as_slice-labels.ensures.value c.requires.labelling.others

pub returns-in_ok-push-in-Cut-clause-labelling : goal.returns-in_ok-push-in-Cut-clause-labelling
returns-in_ok-push-in-Cut-clause-labelling c =
    let l = c.args.labelling.now in
    let rows = c.args.rows.now in
    let gate : is_and (row_at rows c.args.node) ≡ true = ap is_and c.requires.row in
    let is = level_from rows l.labels.items c.args.node c.args.pair.0 c.args.pair.1 c.greatest_depth-level.result c.as_slice-labels.result.now c.as_slice.result.now c.greatest_depth-level.ensures c.as_slice-labels.ensures.value
    (c.as_slice.ensures.value ∙ c.fan_ins-nodes.ensures) c.requires.row in
    let told = rw c.in-Cut.is at c.in_ok-cut.ensures.outcome in
    let own : IsOwnCut rows l.labels.items c.args.node c.greatest_depth-level.result c.args.k c.in-Cut.cut.items = rw c.as_slice-labels.ensures.value at told in
    let some : 0 < c.greatest_depth-level.result = omega (arith, c.if-level-eq0.false) in
    pushed c.args.k rows c.args.node l c.push-in-Cut.new.self c.greatest_depth-level.result c.in-Cut.cut (map shown_of l.paths.items) c.in_ok-push-in-Cut.ensures.labels c.in_ok-push-in-Cut.ensures.cuts (ap (map shown_of) c.in_ok-push-in-Cut.ensures.paths)
    (label_kept c.args.k c.requires.hashed.0 rows c.args.node l.labels.items (leaves_of l.cuts.items) (map shown_of l.paths.items) c.greatest_depth-level.result c.in-Cut.cut.items c.requires.hashed.1 c.requires.many gate
    c.requires.labelling is some own)

pub returns-in_ok-push-in-Paths-2-clause-labelling : goal.returns-in_ok-push-in-Paths-2-clause-labelling
returns-in_ok-push-in-Paths-2-clause-labelling c =
    let l = c.args.labelling.now in
    let rows = c.args.rows.now in
    let gate : is_and (row_at rows c.args.node) ≡ true = ap is_and c.requires.row in
    let is = level_from rows l.labels.items c.args.node c.args.pair.0 c.args.pair.1 c.greatest_depth-level.result c.as_slice-labels.result.now c.as_slice.result.now c.greatest_depth-level.ensures c.as_slice-labels.ensures.value
    (c.as_slice.ensures.value ∙ c.fan_ins-nodes.ensures) c.requires.row in
    let refs : c.fan_ins-nodes.result.items ≡ refs_of (row_at rows c.args.node) = c.fan_ins-nodes.ensures ∙ ap refs_of (sym c.requires.row) in
    let told = rw c.in-Paths.is at c.in_ok-cut.ensures.outcome in
    let paths : ArePathsInto rows (IsInTop rows (label_in l.labels.items) c.args.node c.greatest_depth-level.result) (c.args.k + 1) c.in-Paths.lists = rw c.as_slice-labels.ensures.value at told in
    let some : 0 < c.greatest_depth-level.result = omega (arith, c.if-level-eq0.false) in
    let shown : map shown_of c.push-in-Paths-2.new.self.paths.items ≡ map shown_of l.paths.items ++ record { node = c.args.node; lists = c.in-Paths.lists } ∷ [] =
    ap (map shown_of) (c.in_ok-push-in-Paths-2.ensures.paths ∙ c.in_ok-push-in-Paths.ensures.items) ∙ map-append shown_of l.paths.items (record { node = c.args.node; lists = c.in-Paths.lists } ∷ []) in
    pushed c.args.k rows c.args.node l c.push-in-Paths-2.new.self (c.greatest_depth-level.result + 1) c.fan_ins-nodes.result (map shown_of l.paths.items ++ record { node = c.args.node; lists = c.in-Paths.lists } ∷ [])
    c.in_ok-push-in-Paths-2.ensures.labels c.in_ok-push-in-Paths-2.ensures.cuts shown
    (label_rose c.args.k c.requires.hashed.0 rows c.args.node l.labels.items (leaves_of l.cuts.items) (map shown_of l.paths.items) c.greatest_depth-level.result c.fan_ins-nodes.result.items c.in-Paths.lists c.requires.hashed.1
    c.requires.many gate c.requires.labelling is some refs paths)
