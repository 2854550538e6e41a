use Rattle.std.proofs.Common.{[], ◌∷◌, ◌++◌, map, refl, ap, arith, option_map}
use Rattle.std.proofs.lemmas.List.{length-map}
use Rattle.syn_lex.specs.Words.{text_of}
use Rattle.syn_netlist.specs.Lists.{control_of}
use Rattle.syn_models.specs.declared.hierarchy.StatementKind.TheVariants as said
use Rattle.syn_models.specs.Models as models
use Rattle.syn_reader.specs.declared.Kind.TheVariants as kinds
use Rattle.syn_reader.specs.Definitions.{names_defined}
use Rattle.syn_reader.specs.LatchWords.{kind_of, latch_of_line}
use Rattle.syn_reader.specs.Marking.{forbidden}
use Rattle.syn_reader.proofs.TableLines.{adds_one}
use Rattle.syn_reader.specs.Gathers.{forbids_in}
use Rattle.syn_reader.specs.Saying.{on_line}
use Rattle.syn_reader.proofs.Gathered.{gathers, latch_order, latch_stands, sound_after}
use Rattle.syn_reader.proofs.model_words.Gathering.add_latch.Goals as goal

pub returns-clause-gathers : goal.returns-clause-gathers
returns-clause-gathers c rows =
    let line = c.in_ok-words.words in
    let read = c.in_ok-words.ensures in
    let one = c.in_ok-latch.ensures in
    let say = c.in_ok-say.ensures in
    let s = c.define_latch.new.self in
    let words = map text_of c.args.words in
    let old = forbids_in c.args.self.now in
    let size = length-map c.args.words text_of in
    let count = one.count in
    let few = read.count in
    let all = read.all in
    gathers c.args.self.now c.say.new.self s c.args.line kinds.Latch words rows (said.Latch c.in_ok-latch.latch) (models.OneLatch (latch_of_line line)) (line.feed.now ∷ (control_of (kind_of line.kind) ++ line.output.now ∷ [])) _
    c.requires.sound one.grows say.signals say.statements (ap models.OneLatch one.latch) (λ rest. ap (option_map (λ l. on_line c.args.line (models.OneLatch l) rest)) read.latch)
    (adds_one kinds.Latch (names_defined kinds.Latch words) line.output.now old old (forbidden s.names s.marks.items) read.defined (λ k w. refl) one.defined) one.names
    (λ w. latch_order line.feed.now line.output.now w (control_of (kind_of line.kind))) (omega (arith, size, count, few)) say.words (omega (arith, size, all))

pub returns-clause-sound : goal.returns-clause-sound
returns-clause-sound c =
    let line = c.in_ok-words.words in
    let one = c.in_ok-latch.ensures in
    let say = c.in_ok-say.ensures in
    let s = c.define_latch.new.self in
    sound_after c.args.self.now c.say.new.self s c.args.line (said.Latch c.in_ok-latch.latch) (models.OneLatch (latch_of_line line)) c.requires.sound one.grows say.signals say.statements
    (ap models.OneLatch one.latch) one.marked one.below (latch_stands s.names c.in_ok-latch.latch c.args.line (latch_of_line line) one.latch one.signal)
