use Rattle.std.proofs.Common.{◌≡◌, ◌∷◌, decimal, ◌∙◌, rules}
use Rattle.syn_network.proofs.Inner.{inner_word_decimal}
use Rattle.syn_text.proofs.graph_netlist.inner_word.Goals as goal

pub returns : goal.returns
returns c =
    let written : c.extend_from_slice.new.self.items ≡ 110 ∷ decimal c.args.k = search rules in
    written ∙ inner_word_decimal c.args.k c.requires c.ranges.k.fits
