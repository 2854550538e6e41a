use Rattle.std.proofs.Common.{◌≡◌, ℕ, List, length, map, sym, ap, ap₂, ◌∙◌, subst₂, arith}
use Rattle.std.proofs.lemmas.List.{length-map}
use Rattle.std.proofs.lemmas.Result.{IfOk-weaker}
use Rattle.syn_rows.specs.declared.Lit.{Lit}
use Rattle.syn_rows.specs.declared.Row.{Row}
use Rattle.syn_hashed.specs.Compacting.{CanCompact, SameValues, moved_lit, moved_row}
use Rattle.syn_compare.specs.Renaming.{node_in, nodes_of}
use Rattle.syn_compare.proofs.Renamed.{can_rename, renamed_values}
use Rattle.syn_compare.proofs.renaming.renamed.Goals as goal

abbrev rows_by : List ℕ → List Row → List Row
rows_by nodes rows = map (moved_row (node_in nodes)) rows

abbrev lits_by : List ℕ → List Lit → List Lit
lits_by nodes lits = map (moved_lit (node_in nodes)) lits

rows_are : (places nodes slice : List ℕ) (rows given made seen : List Row) → seen ≡ made → made ≡ rows_by slice given → slice ≡ nodes → nodes ≡ nodes_of places → given ≡ rows → seen ≡ rows_by (nodes_of places) rows
rows_are places nodes slice rows given made seen e f g h same = e ∙ f ∙ ap₂ (λ (ns : List ℕ) (rs : List Row). rows_by ns rs) (g ∙ h) same

lits_are : (places nodes slice : List ℕ) (lits made seen : List Lit) → seen ≡ made → made ≡ lits_by slice lits → slice ≡ nodes → nodes ≡ nodes_of places → seen ≡ lits_by (nodes_of places) lits
lits_are places nodes slice lits made seen e f g h = e ∙ f ∙ ap (λ (ns : List ℕ). lits_by ns lits) (g ∙ h)

pub compact-requires-clause-can : goal.compact-requires-clause-can
compact-requires-clause-can c =
    let g = c.args.graph.now in
    let places = c.args.places.now in
    let lits = c.args.lits.now in
    let nodes = c.in_ok-nodes.nodes.items in
    let rows_is = rows_are places nodes c.as_slice.result.now g.rows c.as_slice-2.result.now c.in_ok-rows.rows.items c.as_slice-4.result.now c.as_slice-4.ensures.value c.in_ok-rows.ensures c.as_slice.ensures.value c.in_ok-nodes.ensures.nodes c.as_slice-2.ensures in
    let lits_is = lits_are places nodes c.as_slice-3.result.now lits c.in_ok-observed.observed.items c.as_slice-5.result.now c.as_slice-5.ensures.value c.in_ok-observed.ensures c.as_slice-3.ensures.value c.in_ok-nodes.ensures.nodes in
    subst₂ (λ (rs : List Row) (ls : List Lit). CanCompact g.source_count rs ls) (sym rows_is) (sym lits_is) (can_rename g.source_count places g.rows lits c.requires.count c.requires.below g.graph.hashed c.requires.within)

pub compact-requires-clause-few : goal.compact-requires-clause-few
compact-requires-clause-few c =
    let g = c.args.graph.now in
    let places = c.args.places.now in
    let rows_is = rows_are places c.in_ok-nodes.nodes.items c.as_slice.result.now g.rows c.as_slice-2.result.now c.in_ok-rows.rows.items c.as_slice-4.result.now c.as_slice-4.ensures.value c.in_ok-rows.ensures c.as_slice.ensures.value c.in_ok-nodes.ensures.nodes c.as_slice-2.ensures in
    omega (arith, ap (λ (rs : List Row). length rs) rows_is, length-map g.rows (moved_row (node_in (nodes_of places))), g.few)

pub compact-requires-clause-lits : goal.compact-requires-clause-lits
compact-requires-clause-lits c =
    let places = c.args.places.now in
    let lits = c.args.lits.now in
    let lits_is = lits_are places c.in_ok-nodes.nodes.items c.as_slice-3.result.now lits c.in_ok-observed.observed.items c.as_slice-5.result.now c.as_slice-5.ensures.value c.in_ok-observed.ensures c.as_slice-3.ensures.value c.in_ok-nodes.ensures.nodes in
    omega (arith, ap (λ (ls : List Lit). length ls) lits_is, length-map lits (moved_lit (node_in (nodes_of places))), c.requires.few)

pub returns-clause-count : goal.returns-clause-count
returns-clause-count c =
    let places = c.args.places.now in
    let lits = c.args.lits.now in
    let lits_is = lits_are places c.in_ok-nodes.nodes.items c.as_slice-3.result.now lits c.in_ok-observed.observed.items c.as_slice-5.result.now c.as_slice-5.ensures.value c.in_ok-observed.ensures c.as_slice-3.ensures.value c.in_ok-nodes.ensures.nodes in
    IfOk-weaker c.compact.result _ _ (λ made h. h.same_count ∙ ap (λ (ls : List Lit). length ls) lits_is ∙ length-map lits (moved_lit (node_in (nodes_of places)))) c.compact.ensures.compacted

pub returns-clause-values : goal.returns-clause-values
returns-clause-values c =
    let g = c.args.graph.now in
    let places = c.args.places.now in
    let lits = c.args.lits.now in
    let nodes = c.in_ok-nodes.nodes.items in
    let rows_is = rows_are places nodes c.as_slice.result.now g.rows c.as_slice-2.result.now c.in_ok-rows.rows.items c.as_slice-4.result.now c.as_slice-4.ensures.value c.in_ok-rows.ensures c.as_slice.ensures.value c.in_ok-nodes.ensures.nodes c.as_slice-2.ensures in
    let lits_is = lits_are places nodes c.as_slice-3.result.now lits c.in_ok-observed.observed.items c.as_slice-5.result.now c.as_slice-5.ensures.value c.in_ok-observed.ensures c.as_slice-3.ensures.value c.in_ok-nodes.ensures.nodes in
    IfOk-weaker c.compact.result _ _ (λ made h. renamed_values g.source_count places g.rows lits made.rows made.observed c.requires.count c.requires.below g.graph.hashed
    (subst₂ (λ (rs : List Row) (ls : List Lit). SameValues g.source_count rs ls made.rows made.observed) rows_is lits_is h.same_values))
    c.compact.ensures.compacted
