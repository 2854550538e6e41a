use Rattle.std.proofs.Common.{◌&&◌, not, bytes_eq}
use Rattle.std.proofs.lemmas.Bool.{and_parts}
use Rattle.syn_netlist.specs.Words.{is_word}
use Rattle.syn_reader.specs.Shapes.{nil_control}
use Rattle.syn_reader.proofs.model_words.Gathering.add_bind.Goals as goal

pub add-requires-2-clause-word : goal.add-requires-2-clause-word
add-requires-2-clause-word c =
    let actual = c.args.bind.now.actual.now in
    let other = not (bytes_eq nil_control actual) in
    (and_parts (is_word actual) other (and_parts (is_word c.args.bind.now.formal.now) (is_word actual && other) c.requires.words).1).0
