use Rattle.std.proofs.Common.{◌≡◌, length, map, refl, ap, ◌∙◌, rules, arith}
use Rattle.std.proofs.lemmas.List.{length-map}
use Rattle.syn_lex.specs.Words.{text_of}
use Rattle.syn_netlist.specs.Numbers.{all_below, word_at, words_at}
use Rattle.syn_models.specs.declared.hierarchy.StatementKind.TheVariants as said
use Rattle.syn_models.specs.Models as models
use Rattle.syn_reader.specs.declared.Kind.TheVariants as kinds
use Rattle.syn_reader.proofs.Gathered.{gathers, sound_after}
use Rattle.syn_reader.proofs.model_words.Gathering.add_clocks.Goals as goal

pub returns-clause-gathers : goal.returns-clause-gathers
returns-clause-gathers c rows =
    let one = c.in_ok-numbers.ensures in
    let say = c.in_ok-say.ensures in
    let s = c.define_all.new.self in
    let numbers = c.in_ok-numbers.numbers.items in
    let words = map text_of c.args.words in
    let spelled = ap (words_at s.names) c.of.ensures ∙ one.numbers in
    let size = length-map c.args.words text_of in
    let count = one.count in
    let sized = ap length one.numbers in
    let listed = length-map numbers (word_at s.names) in
    let taken : c.len.result ≡ length numbers = search (rules, c.len.ensures) in
    gathers c.args.self.now c.say.new.self s c.args.line kinds.Clock words rows (said.Clock c.of.result) (models.Clock words) words _ c.requires.sound one.grows say.signals say.statements (ap models.Clock spelled) (λ rest. refl)
    one.defined one.names (λ w. refl) (omega (arith, size, count)) say.words (omega (arith, sized, listed, taken))

pub returns-clause-sound : goal.returns-clause-sound
returns-clause-sound c =
    let one = c.in_ok-numbers.ensures in
    let say = c.in_ok-say.ensures in
    let s = c.define_all.new.self in
    sound_after c.args.self.now c.say.new.self s c.args.line (said.Clock c.of.result) (models.Clock (map text_of c.args.words)) c.requires.sound one.grows say.signals say.statements
    (ap models.Clock (ap (words_at s.names) c.of.ensures ∙ one.numbers)) one.marked (ap (all_below (length s.names)) c.of.ensures ∙ one.below) refl
