use Rattle.std.proofs.Common.{◌≡◌, ℕ, List, map, sym, ap₂, ◌∙◌}
use Rattle.syn_rows.specs.declared.Lit.{Lit}
use Rattle.syn_rows.specs.declared.Row.{Row}
use Rattle.syn_rows.specs.Rows.{node_of}
use Rattle.syn_rows.specs.Levels.{level_in, levels_of}
use Rattle.syn_shell.proofs.RemadeGraphs.{spelled}
use Rattle.syn_shell.proofs.reports.levels_in_graph.Goals as goal

pub returns : goal.returns
returns c =
    let s = spelled c.network_of_graph.ensures c.args.network.now in
    c.in_ok-levels.ensures ∙ ap₂ (λ (rs : List Row) (ls : List Lit). map (λ (l : Lit). level_in (levels_of rs) (node_of l)) ls) (sym s.same_rows) (sym s.same_lits)
