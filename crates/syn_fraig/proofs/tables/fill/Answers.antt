use Rattle.std.proofs.Common.{◌≡◌, ◌<◌, ◌+◌, ℕ, true, ◌++◌, ◌∷◌, [], All, List, length, sym, ap, ◌∙◌, subst, arith}
use Rattle.std.proofs.lemmas.List.{length_push}
use Rattle.std.proofs.lemmas.List.Elements.{All-push}
use Rattle.syn_rows.specs.declared.Row.{Row}
use Rattle.syn_rows.specs.Rows.{AllRefs, row_at}
use Rattle.syn_rows.specs.Values.{is_open, row_value}
use Rattle.syn_hashed.proofs.Orders.{hashed_in_order}
use Rattle.syn_truth.specs.declared.Truth.{Truth}
use Rattle.syn_truth.specs.Truth.{value_of}
use Rattle.syn_fraig.specs.Tables.{AreTables, nodes_at, sources_at}
use Rattle.syn_fraig.proofs.Tabled.{tables_more}
use Rattle.syn_fraig.proofs.tables.fill.Goals as goal

pub row_table-table-requires-clause-refs : goal.row_table-table-requires-clause-refs
row_table-table-requires-clause-refs c =
    subst (λ (k : ℕ). AllRefs (λ m. m < k) (row_at c.args.rows.now c.loop-node.node))
    (sym (ap length c.as_slice.ensures.value ∙ c.loop-node.invariant.long))
    (hashed_in_order c.args.count c.args.rows.now c.requires.hashed c.loop-node.node)

pub loop-node-preserved : goal.loop-node-preserved
loop-node-preserved c =
    let before : List Truth = c.loop-node.tables.items in
    let t : Truth = c.row_table-table.result in
    let rows : List Row = c.args.rows.now in
    let here : length before ≡ c.loop-node.node = c.loop-node.invariant.long in
    let is : c.push.new.self.items ≡ before ++ t ∷ [] = c.in_ok-push.ensures.items in
    record {
      long = ap length is ∙ length_push before t ∙ ap (λ (k : ℕ). k + 1) here;
      vars = subst (All (λ u. u.vars ≡ 8)) (sym is) (All-push (λ (u : Truth). u.vars ≡ 8) before t c.loop-node.invariant.vars c.row_table-table.ensures.vars);
      values = λ xs eight.
          subst (λ (ts : List Truth). AreTables ts (nodes_at rows c.args.round xs) xs) (sym is)
          (tables_more c.args.count rows c.args.round before t c.requires.hashed c.requires.few (omega (arith, here))
          (λ v ys long all few. subst (λ (k : ℕ). value_of t ys ≡ row_value (sources_at c.args.round ys) v k (row_at rows k)) (sym here)
          (c.row_table-table.ensures.values v ys long (subst (λ (ts : List Truth). AreTables ts v ys) (sym c.as_slice.ensures.value) all)
          (λ free. (let low = few (subst (λ (k : ℕ). is_open (row_at rows k) ≡ true) (sym here) free) in omega (arith, low, here)))))
          xs eight (c.loop-node.invariant.values xs eight));
    }
