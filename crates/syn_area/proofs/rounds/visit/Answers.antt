use Rattle.std.proofs.Common.{List, sym, refl, ap, ◌∙◌}
use Rattle.std.proofs.lemmas.List.Elements.{All-nil}
use Rattle.std.proofs.lemmas.Result.{on_ok_weaker}
use Rattle.syn_rows.specs.declared.Row.{Row}
use Rattle.syn_rows.specs.Rows.{row_at}
use Rattle.syn_area.specs.Kept.{IsKept}
use Rattle.syn_area.proofs.Visiting.{visited}
use Rattle.syn_area.proofs.rounds.visit.Goals as goal

pub visit_and-requires-clause-gate : goal.visit_and-requires-clause-gate
visit_and-requires-clause-gate c = ap (λ (l : List Row). row_at l c.args.node) (sym c.as_slice.ensures) ∙ sym c.in-And.ensures

pub returns-in_default : goal.returns-in_default
returns-in_default c =
    let rows = c.args.graph.now.rows in
    let was = c.requires.visited in
    on_ok_weaker c.list.result (λ all. visited c.args.k rows c.args.lists.now.listed.items c.list.new.self.listed.items c.args.chosen.now c.args.chosen.now was all refl was.fit) (c.list.ensures rows was.kept (All-nil (IsKept rows c.args.node)))
