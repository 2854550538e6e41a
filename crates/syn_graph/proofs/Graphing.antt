-- Compacted rows are a graph, and one graph's function goes on to the next.
use Rattle.std.proofs.Common.{◌≡◌, ℕ, ◌<◌, List, length, sym, ◌∙◌, subst, arith}
use Rattle.syn_rows.specs.declared.Lit.{Lit}
use Rattle.syn_rows.specs.declared.Row.{Row}
use Rattle.syn_hashed.specs.Compacting.{IsCompacted, IsCompaction}
use Rattle.syn_graph.specs.declared.Graph.{Graph}
use Rattle.syn_graph.specs.Graphs.{IsGraph, SourcesStay}
use Rattle.syn_graph.specs.Relations.{SameFunction, SameFunctionGoesOn}

pub compaction_graph : (count : ℕ) (rows new_rows : List Row) (lits new_lits : List Lit) → IsCompaction count rows lits new_rows new_lits → IsGraph count new_rows new_lits
compaction_graph count rows new_rows lits new_lits c = record { hashed = c.hashed; within = c.within; reached = c.reached }

pub compacted_graph : (count : ℕ) (rows new_rows : List Row) (lits new_lits : List Lit) → IsCompacted count rows lits new_rows new_lits → IsGraph count new_rows new_lits
compacted_graph count rows new_rows lits new_lits c = record { hashed = c.hashed; within = c.within; reached = c.reached }

pub goes_on : SameFunctionGoesOn
goes_on a b c ab bc = record {
  sources = bc.sources ∙ ab.sources;
  count = bc.count ∙ ab.count;
  stay = λ i l lt low at. bc.stay i l (omega (arith, ab.count)) (omega (arith, ab.sources)) (ab.stay i l lt low at);
  values = λ bits. bc.values bits ∙ ab.values bits;
}

-- a graph of compacted rows has the function of the graph that these were made of
pub compaction_same : (was now : Graph) → IsCompaction was.source_count was.rows was.observed now.rows now.observed → now.source_count ≡ was.source_count → SameFunction was now
compaction_same was now c sources = record { sources = sources; count = c.same_count; stay = c.sources_stay; values = c.same_function }
