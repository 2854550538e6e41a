use Rattle.std.proofs.Common.{◌∷◌, [], sym, ap, ◌∙◌}
use Rattle.syn_netlist.specs.Lists.{control_of}
use Rattle.syn_netlist.specs.Numbers.{with_word}
use Rattle.syn_reader.specs.LatchWords.{kind_of}
use Rattle.syn_reader.specs.Marking.{with_words}
use Rattle.syn_reader.proofs.MarkLaws.{with_words-append}
use Rattle.syn_reader.proofs.LatchNumbers.{latch_words, latch_below, latch_signal}
use Rattle.syn_reader.proofs.signals.Signals.define_latch.Goals as goal

pub returns-clause-latch : goal.returns-clause-latch
returns-clause-latch c =
    let feed = c.in_ok-feed.ensures in
    let kind = c.in_ok-kind.ensures in
    let output = c.in_ok-output.ensures in
    latch_words c.add.new.self.names c.add_kind.new.self.names c.define.new.self.names c.in_ok-feed.feed c.in_ok-output.output c.args.latch.init c.in_ok-kind.kind c.args.latch.feed.now c.args.latch.output.now (kind_of c.args.latch.kind)
    kind.grows output.grows feed.number.0 feed.number.1 kind.kind kind.below output.number.1

pub returns-clause-below : goal.returns-clause-below
returns-clause-below c =
    let feed = c.in_ok-feed.ensures in
    let kind = c.in_ok-kind.ensures in
    let output = c.in_ok-output.ensures in
    latch_below c.add.new.self.names c.add_kind.new.self.names c.define.new.self.names c.in_ok-feed.feed c.in_ok-output.output c.in_ok-kind.kind kind.grows output.grows feed.number.0 kind.below output.number.0

pub returns-clause-signal : goal.returns-clause-signal
returns-clause-signal c =
    let kind = c.in_ok-kind.ensures in
    let output = c.in_ok-output.ensures in
    latch_signal c.add_kind.new.self.names c.define.new.self.names c.in_ok-kind.kind output.grows kind.below kind.signal

pub returns-clause-names : goal.returns-clause-names
returns-clause-names c =
    let control = control_of (kind_of c.args.latch.kind) in
    c.in_ok-output.ensures.names
    ∙ (ap (λ n. with_word n c.args.latch.output.now) (c.in_ok-kind.ensures.names ∙ ap (λ n. with_words n control) c.in_ok-feed.ensures.names)
    ∙ sym (with_words-append (with_word c.args.self.now.names c.args.latch.feed.now) control (c.args.latch.output.now ∷ [])))
