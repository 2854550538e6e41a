use Rattle.std.proofs.Common.{slice_set, ap, sym, ◌∙◌}
use Rattle.syn_reader.specs.Faults.{DefinedTwice}
use Rattle.syn_reader.specs.Marking.{forbidden}
use Rattle.syn_reader.proofs.MarkLaws.{defined, forbidden_before}
use Rattle.syn_reader.proofs.signals.Signals.define.Goals as goal

pub returns-then-forbids-clause-fault : goal.returns-then-forbids-clause-fault
returns-then-forbids-clause-fault c =
    let i = c.in_ok-i.ensures in
    let old = forbidden c.args.self.now.names c.args.self.now.marks.items in (
      ap (DefinedTwice c.args.line) c.in_ok-copy_word.ensures,
      forbidden_before old c.add.new.self.names c.add.new.self.marks.items c.in_ok-i.i c.index-mark.result.now c.index-mark.result.now c.args.kind c.args.word.now i.same i.distinct i.number.0 i.marked i.number.1 (sym c.index-mark.ensures)
          ∙ (sym c.forbids.ensures ∙ c.if-forbids.true),
    )

pub returns-clause-free : goal.returns-clause-free
returns-clause-free c =
    let i = c.in_ok-i.ensures in
    let old = forbidden c.args.self.now.names c.args.self.now.marks.items in
    forbidden_before old c.add.new.self.names c.add.new.self.marks.items c.in_ok-i.i c.index-mark.result.now c.index-mark.result.now c.args.kind c.args.word.now i.same i.distinct i.number.0 i.marked i.number.1 (sym c.index-mark.ensures)
    ∙ (sym c.forbids.ensures ∙ c.if-forbids.false)

pub returns-clause-defined : goal.returns-clause-defined
returns-clause-defined c =
    let i = c.in_ok-i.ensures in
    let old = forbidden c.args.self.now.names c.args.self.now.marks.items in
    defined old c.add.new.self.names c.add.new.self.marks.items _ c.in_ok-i.i c.index-mark.result.now c.index-mark.result.now c.args.kind c.args.word.now i.same i.distinct i.number.0 i.marked i.number.1 (sym c.index-mark.ensures)
    (sym c.forbids.ensures ∙ c.if-forbids.false) (ap (λ m. slice_set c.add.new.self.marks.items c.in_ok-i.i m) c.after.ensures)
