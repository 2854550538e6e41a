use Rattle.std.proofs.Common.{rules, ◌≡◌, ℕ, List, ◌∷◌, map, slice_index_or, refl, ap₂, ◌∙◌}
use Rattle.syn_netlist.specs.Numbers.{all_below}
use Rattle.syn_netlist.proofs.Places.{below_at, below_from as from_parts}
use Rattle.syn_models.specs.Called.{called_number}
use Rattle.syn_models.proofs.Spelling.{called_below, table_is}
use Rattle.syn_models.proofs.called_names.called_table.Goals as goal

pub returns : goal.returns
returns c =
    let inputs : c.of.result ≡ map (called_number c.args.names.now) c.args.table.now.inputs = search rules in
    let rows : c.of-2.result ≡ c.args.table.now.rows = search rules in
    record {
      below = λ count b.
          ap₂ (λ (o : ℕ) (i : List ℕ). all_below count (o ∷ i)) refl inputs
          ∙ from_parts count (slice_index_or c.args.names.now c.args.table.now.output 0) (map (called_number c.args.names.now) c.args.table.now.inputs) (below_at count c.args.names.now c.args.table.now.output b c.requires.output) (called_below count c.args.names.now c.args.table.now.inputs b c.requires.inputs);
      each = λ all own called s. table_is all own called c.args.names.now c.args.table.now.inputs c.of.result c.args.table.now.output c.args.table.now.rows c.of-2.result c.args.table.now.on s c.requires.inputs c.requires.output inputs rows;
    }
