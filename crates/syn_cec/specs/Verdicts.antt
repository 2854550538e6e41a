-- What a pair of literals, one of each graph, comes to.
use Rattle.std.specs.Prelude.{◌≡◌, List, length, ⊤}
use Rattle.syn_rows.specs.declared.Lit.{Lit}
use Rattle.syn_rows.specs.declared.Row.{Row}
use Rattle.syn_graph.specs.declared.Graph.{Graph}
use Rattle.syn_fraig.specs.Merging.{SameBy}
use Rattle.syn_cec.specs.declared.by_search.Verdict.{Verdict}
use Rattle.syn_cec.specs.declared.by_search.Verdict.TheVariants.{Same, Differs, Open}
use Rattle.syn_cec.specs.Compared.{DiffersAt}

-- Same: they have one value in each valuation that fits the rows. Differs: the graphs do for these values.
abbrev pub IsVerdict : Graph → Graph → List Row → Lit → Lit → Verdict → Type 0
IsVerdict first second rows l m Same = SameBy rows l m
IsVerdict first second rows l m (Differs signal values) = (length values.items ≡ first.source_count) × DiffersAt first second values.items signal
IsVerdict first second rows l m Open = ⊤

-- the verdict is not that they are the same, and holds of any pair
abbrev pub IsNoProof : Graph → Graph → Verdict → Type 0
IsNoProof first second verdict = (rows : List Row) (l m : Lit) → IsVerdict first second rows l m verdict
