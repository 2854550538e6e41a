use Rattle.std.proofs.Common.{◌≡◌, ◌++◌, List, length, take, drop, sym, ◌∙◌, subst, subst₂, arith}
use Rattle.std.proofs.lemmas.List.{take_at}
use Rattle.syn_rows.specs.declared.Row.{Row}
use Rattle.syn_hashed.specs.Hashed.{IsHashed}
use Rattle.syn_fraig.specs.Merging.{IsMerged}
use Rattle.syn_fraig.proofs.Merged.{merged_first}
use Rattle.syn_fraig.proofs.sweep.swept.Goals as goal

pub sweep-requires-clause-merged : goal.sweep-requires-clause-merged
sweep-requires-clause-merged c =
    let g = c.args.graph.now in
    subst₂ (λ (rs ns : List Row). IsMerged g.source_count rs ns) (sym c.as_slice-rows.ensures) (sym (c.as_mut_slice.ensures.value ∙ c.in_ok-now.ensures.items ∙ c.as_slice-rows.ensures))
    (merged_first g.source_count g.rows g.graph.hashed)

pub returns : goal.returns
returns c =
    let g = c.args.graph.now in
    let merged : IsMerged g.source_count g.rows c.sweep.new.now = subst (λ (rs : List Row). IsMerged g.source_count rs c.sweep.new.now) c.as_slice-rows.ensures c.in_ok-sweep.ensures in
    let whole : take c.in_ok-now.now.len (c.sweep.new.now ++ drop (length c.sweep.new.now) c.in_ok-now.now.items) ≡ c.sweep.new.now =
    take_at c.sweep.new.now (drop (length c.sweep.new.now) c.in_ok-now.now.items) c.in_ok-now.now.len (omega (arith, c.sweep.auto.now, c.as_mut_slice.ensures.len)) in
    subst (λ (ns : List Row). IsMerged g.source_count g.rows ns) (sym whole) merged

pub sweep-requires-clause-hashed : goal.sweep-requires-clause-hashed
sweep-requires-clause-hashed c =
    let g = c.args.graph.now in
    subst (λ (rs : List Row). IsHashed g.source_count rs) (sym c.as_slice-rows.ensures) g.graph.hashed
