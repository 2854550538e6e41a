use Rattle.std.proofs.Common.{◌≡◌, ℕ, true, List, get_or, sym, subst, arith}
use Rattle.std.specs.List.{list_all}
use Rattle.syn_netlist.specs.Numbers.{word_at, words_at}
use Rattle.syn_netlist.specs.Words.{has_word}
use Rattle.syn_netlist.proofs.Renumbering.{word_passes}
use Rattle.syn_compare.proofs.Matched.{named_there}
use Rattle.syn_compare.proofs.ordering.output_numbers.Goals as goal

pub number_of-requires : goal.number_of-requires
number_of-requires c =
    let o = c.args.order.now in
    let f = c.args.frame.now in
    let i : ℕ = c.loop-output.output-index in
    let outputs : List ℕ = c.as_slice-output-items.result.now in
    let all : list_all (has_word (words_at f.names f.outputs)) (words_at o.names outputs) ≡ true =
    subst (λ (ns : List ℕ). list_all (has_word (words_at f.names f.outputs)) (words_at o.names ns) ≡ true) (sym c.as_slice-output-items.ensures) c.requires in
    subst (λ (w : List ℕ). has_word f.names w ≡ true) (sym c.word-word.ensures)
    (named_there f.names f.outputs (word_at o.names (get_or outputs i 0)) f.outputs_below (word_passes (has_word (words_at f.names f.outputs)) o.names outputs i all (omega (arith, c.loop-output-test.true))))
