use Rattle.std.proofs.Common.{◌≡◌, ◌<◌, ℕ, List, length, get_or, sym, ap, ◌∙◌, subst, arith}
use Rattle.std.proofs.lemmas.List.{length-map}
use Rattle.syn_rows.specs.declared.Lit.{Lit}
use Rattle.syn_hashed.specs.Compacting.{IsCompacted}
use Rattle.syn_netlist.specs.Frames.{frame_in}
use Rattle.syn_netlist.specs.Lists.{observed}
use Rattle.syn_network.specs.declared.networks.Network.{Network}
use Rattle.syn_seq.proofs.Merged.{can_merge, can_with_merged, compacted_with, fits_merged, lit_by, lits_are_merged, lits_by, merged_alike, merged_count, rows_are_merged, stands_in}
use Rattle.syn_seq.proofs.checks.merged_literals.Goals as goal

pub moved_rows-requires-clause-places : goal.moved_rows-requires-clause-places
moved_rows-requires-clause-places c = subst (λ (ps : List ℕ). (k d : ℕ) → k < length ps → get_or ps k d < 536870912) (sym c.as_slice-2.ensures.value) c.in_ok-places.ensures.low

pub moved_rows-requires-clause-left : goal.moved_rows-requires-clause-left
moved_rows-requires-clause-left c =
    let places : c.as_slice-2.result.now ≡ stands_in c.args.graph.now c.args.fates.now = c.as_slice-2.ensures.value ∙ c.in_ok-places.ensures.places in
    omega (arith, ap length places, (can_merge c.args.graph.now c.args.fates.now c.requires.count c.requires.targets).many)

pub moved_rows-requires-clause-rows : goal.moved_rows-requires-clause-rows
moved_rows-requires-clause-rows c =
    let places : c.as_slice-2.result.now ≡ stands_in c.args.graph.now c.args.fates.now = c.as_slice-2.ensures.value ∙ c.in_ok-places.ensures.places in
    omega (arith, ap length places, ap length c.as_slice.ensures, fits_merged c.args.graph.now c.args.fates.now c.requires.count c.requires.targets)

pub moved_all-requires : goal.moved_all-requires
moved_all-requires c = subst (λ (ps : List ℕ). (k d : ℕ) → k < length ps → get_or ps k d < 536870912) (sym c.as_slice-3.ensures.value) c.in_ok-places.ensures.low

pub compact_rows-requires-clause-can : goal.compact_rows-requires-clause-can
compact_rows-requires-clause-can c =
    let g : Network = c.args.graph.now in
    can_with_merged g c.args.fates.now c.requires.count c.requires.targets c.as_slice-5.result.now c.as_slice-6.result.now
    (c.as_slice-5.ensures.value ∙ rows_are_merged g c.args.fates.now c.as_slice.result.now _ c.as_slice-2.result.now c.as_slice.ensures (c.as_slice-2.ensures.value ∙ c.in_ok-places.ensures.places) c.in_ok-rows.ensures)
    (c.as_slice-6.ensures.value ∙ lits_are_merged g c.args.fates.now c.as_slice-4.result.now _ c.as_slice-3.result.now c.as_slice-4.ensures (c.as_slice-3.ensures.value ∙ c.in_ok-places.ensures.places) c.in_ok-lits.ensures)

pub compact_rows-requires-clause-few : goal.compact_rows-requires-clause-few
compact_rows-requires-clause-few c =
    let g : Network = c.args.graph.now in
    let rows = c.as_slice-5.ensures.value ∙ rows_are_merged g c.args.fates.now c.as_slice.result.now _ c.as_slice-2.result.now c.as_slice.ensures (c.as_slice-2.ensures.value ∙ c.in_ok-places.ensures.places) c.in_ok-rows.ensures in
    omega (arith, ap length rows, merged_count g c.args.fates.now c.requires.count c.requires.targets, g.body.few)

pub returns-clause-alike : goal.returns-clause-alike
returns-clause-alike c =
    let g : Network = c.args.graph.now in
    let rows = c.as_slice-5.ensures.value ∙ rows_are_merged g c.args.fates.now c.as_slice.result.now _ c.as_slice-2.result.now c.as_slice.ensures (c.as_slice-2.ensures.value ∙ c.in_ok-places.ensures.places) c.in_ok-rows.ensures in
    let lits = c.as_slice-6.ensures.value ∙ lits_are_merged g c.args.fates.now c.as_slice-4.result.now _ c.as_slice-3.result.now c.as_slice-4.ensures (c.as_slice-3.ensures.value ∙ c.in_ok-places.ensures.places) c.in_ok-lits.ensures in
    let found : List Lit = c.as_slice-7.result.now in
    let many : length found ≡ length (observed (frame_in g.frame)) =
    ap length c.as_slice-7.ensures.value ∙ c.in_ok-compacted.ensures.compacted.same_count ∙ ap length c.as_slice-6.ensures.value ∙ ap length c.in_ok-lits.ensures ∙ length-map c.as_slice-4.result.now _ ∙ ap length c.as_slice-4.ensures ∙ g.graph.count in
    merged_alike c.network_of_graph.ensures g c.args.fates.now c.requires.count c.requires.targets c.in_ok-compacted.compacted.rows.items found
    (compacted_with g c.args.fates.now c.as_slice-5.result.now c.as_slice-6.result.now c.in_ok-compacted.compacted.rows.items found rows lits (subst (λ (ls : List Lit). IsCompacted g.body.source_count c.as_slice-5.result.now c.as_slice-6.result.now c.in_ok-compacted.compacted.rows.items ls) (sym c.as_slice-7.ensures.value) c.in_ok-compacted.ensures.compacted)) many
    c.in_ok-found.found.items (c.in_ok-found.ensures.lits (lit_by g found) (lits_by g found many))
