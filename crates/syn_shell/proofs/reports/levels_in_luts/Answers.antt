use Rattle.std.proofs.Common.{◌≡◌, ℕ, List, length, map, sym, ap, ap₂, ◌∙◌}
use Rattle.syn_rows.specs.declared.Lit.{Lit}
use Rattle.syn_rows.specs.Rows.{node_of}
use Rattle.syn_netlist.specs.Frames.{frame_in}
use Rattle.syn_netlist.specs.Lists.{sources}
use Rattle.syn_network.specs.LutSpelling.{NetworkSpellsLuts}
use Rattle.syn_lutnet.specs.LutData.{Lut, depth_in, signal_depths}
use Rattle.syn_lutnet.specs.Data.{luts_data}
use Rattle.syn_shell.proofs.reports.levels_in_luts.Goals as goal

pub returns : goal.returns
returns c =
    let network = c.args.network.now in
    let net = network.body in
    let frame = frame_in network.frame in
    let s : NetworkSpellsLuts frame (luts_data net.luts) net.observed =
    c.network_of_luts.ensures frame (luts_data net.luts) net.observed network.frame.clocks_once network.frame.sources_once network.net in
    c.in_ok-levels.ensures
    ∙ ap (λ (n : ℕ). map (λ (l : Lit). depth_in (signal_depths n (luts_data net.luts)) (node_of l)) net.observed) network.named.sources_are
    ∙ ap₂ (λ (luts : List Lut) (lits : List Lit). map (λ (l : Lit). depth_in (signal_depths (length (sources frame)) luts) (node_of l)) lits) (sym s.same_luts) (sym s.same_lits)
