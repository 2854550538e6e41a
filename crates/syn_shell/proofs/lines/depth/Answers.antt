use Rattle.std.proofs.Common.{◌≡◌, ℕ, ◌<◌, List, [], All, length, sym, ap, ◌∙◌, subst₂, arith}
use Rattle.syn_rows.specs.declared.Lit.{Lit}
use Rattle.syn_rows.specs.Rows.{node_of}
use Rattle.syn_rows.specs.Levels.{levels_of, row_level}
use Rattle.syn_rows.proofs.Folds.{length-fold}
use Rattle.syn_shell.proofs.lines.depth.Goals as goal

pub greatest_level-requires : goal.greatest_level-requires
greatest_level-requires c =
    let rows = c.args.graph.now.rows in
    let levels : c.as_slice-2.result.now ≡ levels_of rows = c.as_slice-2.ensures.value ∙ c.in_ok-levels.ensures ∙ ap levels_of c.as_slice.ensures in
    subst₂ (λ (lits : List Lit) (ns : List ℕ). All (λ l. node_of l < length ns) lits) (sym c.as_slice-3.ensures) (sym levels)
    (λ k d lt. omega (arith, c.args.graph.now.graph.within k d lt, length-fold row_level 0 [] rows))
