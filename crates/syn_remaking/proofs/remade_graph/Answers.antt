use Rattle.std.proofs.Common.{◌≡◌, ℕ, ◌<◌, All, List, length, map, sym, ap, ◌∙◌, subst, subst₂, arith}
use Rattle.std.proofs.lemmas.List.{length-map}
use Rattle.syn_rows.specs.declared.Lit.{Lit}
use Rattle.syn_rows.specs.Rows.{node_of}
use Rattle.syn_hashed.specs.Compacting.{IsCompaction}
use Rattle.syn_remaking.specs.Remaking.{moved}
use Rattle.syn_remaking.proofs.Results.{both_ok}
use Rattle.syn_remaking.proofs.Standing.{moved_within, remade_same}
use Rattle.syn_remaking.proofs.remade_graph.Goals as goal

-- the moved literals, as the code has them
lits_are : (literals observed lits seen made : List Lit) → lits ≡ observed → seen ≡ made → made ≡ map (moved literals) lits → seen ≡ map (moved literals) observed
lits_are literals observed lits seen made same_lits same_seen is = same_seen ∙ is ∙ ap (map (moved literals)) same_lits

pub finish-requires-clause-within : goal.finish-requires-clause-within
finish-requires-clause-within c =
    let g = c.args.graph.now in
    let new = c.args.hashed.rows.items in
    let literals = c.args.literals.now in
    let is = lits_are literals g.observed c.as_slice.result.now c.as_slice-2.result.now c.in_ok-observed.observed.items c.as_slice.ensures c.as_slice-2.ensures.value c.in_ok-observed.ensures in
    subst (All (λ l. node_of l < length new)) (sym is) (moved_within g.rows new literals g.observed c.requires.standing c.requires.all g.graph.within)

pub finish-requires-clause-lits : goal.finish-requires-clause-lits
finish-requires-clause-lits c =
    let g = c.args.graph.now in
    let literals = c.args.literals.now in
    let is = lits_are literals g.observed c.as_slice.result.now c.as_slice-2.result.now c.in_ok-observed.observed.items c.as_slice.ensures c.as_slice-2.ensures.value c.in_ok-observed.ensures in
    omega (arith, ap length is, length-map g.observed (moved literals), g.few_observed)

pub returns : goal.returns
returns c =
    let g = c.args.graph.now in
    let new = c.args.hashed.rows.items in
    let literals = c.args.literals.now in
    let is = lits_are literals g.observed c.as_slice.result.now c.as_slice-2.result.now c.in_ok-observed.observed.items c.as_slice.ensures c.as_slice-2.ensures.value c.in_ok-observed.ensures in
    both_ok c.finish.result
    (λ made compact sources. remade_same g new literals c.requires.standing c.requires.stay c.requires.all made (sources ∙ c.requires.sources)
    (subst₂ (λ (k : ℕ) (ls : List Lit). IsCompaction k new ls made.rows made.observed) c.requires.sources is compact))
    c.finish.ensures.compact c.finish.ensures.sources
