use Rattle.std.proofs.Common.{◌≡◌, ℕ, codes, sym, ap, ap₂, ◌∙◌}
use Rattle.std.proofs.lemmas.List.{length-map}
use Rattle.syn_netlist.specs.Frames.{frame_in}
use Rattle.syn_network.specs.LutShape.{count_of, depth_of}
use Rattle.syn_network.specs.LutSpelling.{NetworkSpellsLuts}
use Rattle.syn_network.specs.WrittenLuts.{network_of}
use Rattle.syn_lutnet.specs.LutData.{net_depth}
use Rattle.syn_lutnet.specs.Data.{lut_data, luts_data}
use Rattle.syn_shell.specs.Lines.{numbers_text}
use Rattle.syn_shell.proofs.lines.luts_line.Goals as goal

pub returns : goal.returns
returns c =
    let network = c.args.network.now in
    let net = network.body in
    let l : NetworkSpellsLuts (frame_in network.frame) (luts_data net.luts) net.observed =
    c.network_of_luts.ensures (frame_in network.frame) (luts_data net.luts) net.observed network.frame.clocks_once network.frame.sources_once network.net in
    let count : c.count-count.result ≡ count_of (network_of network) = c.count-count.ensures ∙ sym (length-map net.luts lut_data) ∙ sym l.count in
    let depth : c.in_ok-depth.depth ≡ depth_of (network_of network) = c.in_ok-depth.ensures ∙ ap (λ (n : ℕ). net_depth n (luts_data net.luts)) network.named.sources_are ∙ sym l.depth in
    c.in_ok-line.ensures ∙ ap₂ (numbers_text (frame_in network.frame) (codes " lut = ")) count depth
