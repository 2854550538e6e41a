use Rattle.std.proofs.Common.{length, ap, ◌∙◌, arith}
use Rattle.std.proofs.lemmas.List.{length-map}
use Rattle.syn_netlist.specs.Frames.{frame_in}
use Rattle.syn_netlist.specs.Kept.{latch_in}
use Rattle.syn_netlist.specs.Numbers.{all_below, words_at}
use Rattle.syn_compare.proofs.Matched.{below_taken, givens_taken}
use Rattle.syn_compare.proofs.matching.given_numbers.Goals as goal

pub returns-clause-words : goal.returns-clause-words
returns-clause-words c =
    let f = c.args.frame.now in
    let numbers = c.in_ok-numbers.numbers in
    ap (words_at f.names) c.truncate.ensures.items
    ∙ givens_taken f.names numbers.items (frame_in f) c.saturating_sub.result c.in_ok-numbers.ensures.words
    (omega (arith, c.saturating_sub.ensures, c.len.ensures, numbers.ok.0, ap length c.as_slice-latches.ensures, length-map f.latches (latch_in f.names)))

pub returns-clause-below : goal.returns-clause-below
returns-clause-below c =
    let count = length c.args.frame.now.names in
    ap (all_below count) c.truncate.ensures.items ∙ below_taken count c.saturating_sub.result c.in_ok-numbers.numbers.items c.in_ok-numbers.ensures.below
