use Rattle.std.proofs.Common.{◌≡◌, ◌&&◌, nat_lt, true, ℕ, List, length, map, refl, sym, ap, ap₂, ◌∙◌}
use Rattle.std.proofs.lemmas.Bool.{and_from, lt-ltb}
use Rattle.std.proofs.lemmas.List.{length-map}
use Rattle.syn_netlist.specs.Kept.{rows_fit}
use Rattle.syn_netlist.specs.Lists as lists
use Rattle.syn_netlist.specs.Numbers.{word_at, words_at, all_below}
use Rattle.syn_lutnet.specs.LutData.{ones_of}
use Rattle.syn_network.specs.LutSpelling.{minterm_row}
use Rattle.syn_text.specs.Numbered.{signal_number}
use Rattle.syn_text.proofs.LutWhole.{minterm_rows_fit, polarity_of_on, names_read, numbers_below}
use Rattle.syn_text.proofs.lut_netlist.lut_table.Goals as goal

abbrev table_with : List (List ℕ) → List ℕ → List (List ℕ) → lists.Table
table_with is word rs = record { inputs = is; output = word; rows = rs; on = true }

pub invariant_of-result : goal.invariant_of-result
invariant_of-result c =
    let lut = c.args.lut.now in
    let n = length lut.inputs.items in
    let inputs : c.of.result ≡ map (signal_number c.args.nodes.now) lut.inputs.items = c.of.ensures ∙ c.in_ok-inputs.ensures ∙ ap (map (signal_number c.args.nodes.now)) c.as_slice.ensures.value in
    let rows : c.of-2.result ≡ map (minterm_row n) (ones_of lut.truth) = c.of-2.ensures ∙ c.in_ok-rows.ensures in
    record {
      rows_fit = ap₂ (λ (is : List ℕ) (rs : List (List ℕ)). rows_fit (length is) rs) inputs rows ∙ minterm_rows_fit n (length (map (signal_number c.args.nodes.now) lut.inputs.items)) (ones_of lut.truth) (sym (length-map lut.inputs.items (signal_number c.args.nodes.now)));
      polarity = polarity_of_on c.of-2.result;
    }

pub returns-clause-words : goal.returns-clause-words
returns-clause-words c names =
    let lut = c.args.lut.now in
    let n = length lut.inputs.items in
    let nodes : List ℕ = c.args.nodes.now in
    let inputs : c.of.result ≡ map (signal_number nodes) lut.inputs.items = c.of.ensures ∙ c.in_ok-inputs.ensures ∙ ap (map (signal_number nodes)) c.as_slice.ensures.value in
    let rows : c.of-2.result ≡ map (minterm_row n) (ones_of lut.truth) = c.of-2.ensures ∙ c.in_ok-rows.ensures in
    ap₂ (λ (is rs : List (List ℕ)). table_with is (word_at names c.args.output) rs) (ap (words_at names) inputs ∙ names_read names nodes lut.inputs.items c.requires) rows

pub returns-clause-below : goal.returns-clause-below
returns-clause-below c count all lt =
    let lut = c.args.lut.now in
    let nodes : List ℕ = c.args.nodes.now in
    let inputs : c.of.result ≡ map (signal_number nodes) lut.inputs.items = c.of.ensures ∙ c.in_ok-inputs.ensures ∙ ap (map (signal_number nodes)) c.as_slice.ensures.value in
    and_from (nat_lt c.args.output count && all_below count c.of.result) true
    (and_from (nat_lt c.args.output count) (all_below count c.of.result) (lt-ltb c.args.output count lt) (ap (all_below count) inputs ∙ numbers_below count nodes lut.inputs.items c.requires all)) refl
