use Rattle.std.proofs.Common.{IfOk, List, Result, Ok, Err, sym, subst}
use Rattle.syn_rows.specs.declared.Lit.{Lit}
use Rattle.syn_hashed.specs.Compacting.{CanCompact, IsCompacted}
use Rattle.syn_fraig.proofs.Merged.{can_compact, follows}
use Rattle.syn_fraig.proofs.finished.finish.Goals as goal

both_ok : {T E : Type 0} {P Q S : T → Type 0} (r : Result T E) → ((x : T) → P x → Q x → S x) → IfOk r P → IfOk r Q → IfOk r S
both_ok (Ok x) f p q = f x p q
both_ok (Err e) f p q = tt

pub compact-requires-clause-can : goal.compact-requires-clause-can
compact-requires-clause-can c =
    let g = c.args.graph.now in
    subst (λ (ls : List Lit). CanCompact g.source_count c.args.now.now ls) (sym c.as_slice.ensures) (can_compact g.source_count g.rows c.args.now.now g.observed c.requires g.graph.within)

pub returns : goal.returns
returns c =
    let g = c.args.graph.now in
    both_ok c.compact.result
    (λ new sources compacted.
    follows g new c.args.now.now c.requires (c.has_ands.ensures c.args.now.now g.observed c.requires.order) sources
    (subst (λ (ls : List Lit). IsCompacted g.source_count c.args.now.now ls new.rows new.observed) c.as_slice.ensures compacted))
    c.compact.ensures.sources c.compact.ensures.compacted
