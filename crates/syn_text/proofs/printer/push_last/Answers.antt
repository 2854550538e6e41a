use Rattle.std.proofs.Common.{◌∷◌, append_assoc}
use Rattle.syn_netlist.specs.Numbers.{word_at, words_at}
use Rattle.syn_netlist.specs.TextLines.{blanked}
use Rattle.syn_text.proofs.Blanks.{blanked_push}
use Rattle.syn_text.proofs.printer.push_last.Goals as goal

pub returns : goal.returns
returns c =
    let e = blanked_push (words_at c.args.names.now c.args.numbers.now) (word_at c.args.names.now c.args.last) in
    let a = append_assoc c.args.out.now.items (blanked (words_at c.args.names.now c.args.numbers.now)) (32 ∷ word_at c.args.names.now c.args.last) in
    cc (c.in_ok-push_words.ensures, c.in_ok-push_word.ensures, c.word.ensures)
