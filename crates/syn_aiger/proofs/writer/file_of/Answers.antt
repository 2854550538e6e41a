use Rattle.std.proofs.Common.{◌≡◌, ℕ, ◌+◌, List, length, map, drop, sym, ap, ap₂, ◌∙◌}
use Rattle.syn_rows.specs.declared.Row.{Row}
use Rattle.syn_netlist.specs.declared.Latch.{Latch}
use Rattle.syn_network.specs.declared.networks.Network.{Network}
use Rattle.syn_aiger_files.specs.declared.files.AigAnd.{AigAnd}
use Rattle.syn_aiger.specs.WrittenLists.{latches_at, literal_at}
use Rattle.syn_aiger.specs.Writing.{ands_by}
use Rattle.syn_aiger.proofs.WrittenFiles.{file_made}
use Rattle.syn_aiger.proofs.writer.file_of.Goals as goal

pub returns : goal.returns
returns c =
    let g : Network = c.args.graph.now in
    let free : ℕ = c.free_count-free.result in
    let first : ℕ = g.body.source_count + 1 in
    let literals : List ℕ = c.in_ok-literals.literals.items in
    let latches : c.of.result ≡ latches_at literals (free + 1) g.frame.latches =
    c.of.ensures ∙ c.in_ok-latches.ensures ∙ ap₂ (λ (t : List ℕ) (l : List Latch). latches_at t (free + 1) l) c.deref-2.ensures.value c.as_slice-latches.ensures in
    let outputs : c.of-2.result ≡ map (literal_at literals) g.frame.outputs =
    c.of-2.ensures ∙ c.in_ok-outputs.ensures ∙ ap₂ (λ (t l : List ℕ). map (literal_at t) l) c.deref.ensures.value c.as_slice-2.ensures in
    let gates : c.split_at.result.1.now ≡ drop first g.body.rows = c.split_at.ensures.back ∙ ap (λ (l : List Row). drop first l) c.as_slice.ensures in
    let ands : c.of-3.result ≡ ands_by first (drop first g.body.rows) = c.of-3.ensures ∙ c.in_ok-ands.ensures.ands ∙ ap (λ (l : List Row). ands_by first l) gates in
    let long : c.len.result ≡ length c.of-3.result = c.len.ensures ∙ c.in_ok-ands.ands.ok.0 ∙ ap (λ (l : List AigAnd). length l) (sym c.of-3.ensures) in
    file_made g free literals c.len.result c.first.result c.of.result c.of-2.result c.of-3.result c.of-4.result
    c.free_count-free.ensures c.in_ok-literals.ensures.literals long c.first.ensures latches outputs ands (c.of-4.ensures ∙ c.in_ok-symbols.ensures)
