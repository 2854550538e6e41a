use Rattle.std.proofs.Common.{◌≡◌, ℕ, ◌++◌, List, [], length, map, ap, ap₂, ◌∙◌}
use Rattle.syn_netlist.specs.declared.tables.Table.{Table}
use Rattle.syn_netlist.specs.Lists as lists
use Rattle.syn_netlist.specs.Lists.{output_of, sources}
use Rattle.syn_netlist.specs.Tables.{table_in, tables_below}
use Rattle.syn_netlist.specs.Views.{frame_in}
use Rattle.syn_netlist.specs.Words.{distinct}
use Rattle.syn_models.specs.FlatFaults.{contents}
use Rattle.syn_models.specs.Models.{name_of}
use Rattle.syn_models.specs.Views.{model_in}
use Rattle.syn_models.proofs.Faults.{names_of_contents}
use Rattle.syn_models.proofs.Listing.{names_size}
use Rattle.syn_models.proofs.containment.containing.Goals as goal

pub invariant_of-result-clause-tables_below : goal.invariant_of-result-clause-tables_below
invariant_of-result-clause-tables_below c =
    ap₂ (λ (n : ℕ) (ts : List Table). tables_below n ts) (ap length (c.bare_frame.ensures.names ∙ c.in_ok-names.ensures) ∙ names_size c.args.file.now.models.now) c.of.ensures ∙ c.in_ok-tables.ensures.below

pub invariant_of-result-clause-once : goal.invariant_of-result-clause-once
invariant_of-result-clause-once c =
    let names : List (List ℕ) = map name_of (map model_in c.args.file.now.models.now) in
    let none : sources (frame_in c.bare_frame.result) ≡ sources (record { model = c.in_ok-model.model; inputs = []; clocks = []; outputs = []; latches = [] }) = ap sources c.bare_frame.ensures.frame in
    let tables : map (table_in c.bare_frame.result.names) c.of.result ≡ map contents (map model_in c.args.file.now.models.now) =
    ap₂ (λ (ns : List (List ℕ)) (ts : List Table). map (table_in ns) ts) (c.bare_frame.ensures.names ∙ c.in_ok-names.ensures) c.of.ensures ∙ c.in_ok-tables.ensures.tables in
    ap₂ (λ (a : List (List ℕ)) (b : List lists.Table). distinct (a ++ map output_of b)) none tables
    ∙ ap distinct (names_of_contents (map model_in c.args.file.now.models.now)) ∙ c.requires.distinct
