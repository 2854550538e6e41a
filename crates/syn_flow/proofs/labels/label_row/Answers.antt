use Rattle.std.proofs.Common.{◌≡◌, ◌∷◌, ◌++◌, [], ℕ, List, suc, ap, map, sym, subst, false}
use Rattle.syn_rows.specs.Rows.{row_at}
use Rattle.syn_rows.specs.Reach.{is_and}
use Rattle.syn_flow.specs.Flows.{shown_of}
use Rattle.syn_flow.specs.Labelling.{AreLabelled, leaves_of}
use Rattle.syn_flow.proofs.Labelled.{label_other, not_and, pushed}
use Rattle.syn_flow.proofs.labels.label_row.Goals as goal

pub returns-clause-labelling : goal.returns-clause-labelling
returns-clause-labelling c =
    let l = c.args.labelling.now in
    let rows = c.args.rows.now in
    let other : is_and (row_at rows c.args.node) ≡ false = not_and (row_at rows c.args.node) (λ a b e. c.in_default.not-And a b e) in
    pushed c.args.k rows c.args.node l c.push.new.self 0 c.new.result (map shown_of l.paths.items) c.in_ok-push.ensures.labels c.in_ok-push.ensures.cuts (ap (map shown_of) c.in_ok-push.ensures.paths)
    (subst (λ (e : List ℕ). AreLabelled c.args.k rows (suc c.args.node) (l.labels.items ++ 0 ∷ []) (leaves_of l.cuts.items ++ e ∷ []) (map shown_of l.paths.items)) (sym c.new.ensures)
    (label_other c.args.k c.requires.hashed.0 rows c.args.node l.labels.items (leaves_of l.cuts.items) (map shown_of l.paths.items) c.requires.hashed.1 other c.requires.labelling))
