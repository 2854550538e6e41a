use Rattle.std.proofs.Common.{length, sym, ap, ◌∙◌, arith}
use Rattle.syn_reader.specs.Marking.{forbidden}
use Rattle.syn_reader.proofs.MarkLaws.{added_free, with_known, still_distinct}
use Rattle.syn_reader.proofs.signals.Signals.add.Goals as goal

pub returns-in_ok-push-clause-same : goal.returns-in_ok-push-clause-same
returns-in_ok-push-clause-same c =
    let number = c.in_ok-i.ensures.number.0 in
    let count = c.len-count.ensures.value in
    let last = c.if-i-count.true in
    (added_free c.args.self.now.names c.add.new.self c.args.self.now.marks.items c.push.new.self.items c.args.word.now c.in_ok-i.ensures.ok (omega (arith, number, count, last)) c.requires.marked c.in_ok-push.ensures.items).0

pub returns-in_ok-push-clause-distinct : goal.returns-in_ok-push-clause-distinct
returns-in_ok-push-clause-distinct c = still_distinct c.args.self.now.names c.add.new.self c.args.word.now c.in_ok-i.ensures.ok c.len-count.ensures.distinct

pub returns-else-i-count-clause-marked : goal.returns-else-i-count-clause-marked
returns-else-i-count-clause-marked c =
    let number = c.in_ok-i.ensures.number in
    let same = with_known c.args.self.now.names c.add.new.self c.args.word.now c.in_ok-i.i c.in_ok-i.ensures.ok number.1 number.0 (λ e. c.if-i-count.false (e ∙ sym c.len-count.ensures.value)) in
    c.requires.marked ∙ sym (ap length same)

pub returns-else-i-count-clause-same : goal.returns-else-i-count-clause-same
returns-else-i-count-clause-same c =
    let number = c.in_ok-i.ensures.number in
    let same = with_known c.args.self.now.names c.add.new.self c.args.word.now c.in_ok-i.i c.in_ok-i.ensures.ok number.1 number.0 (λ e. c.if-i-count.false (e ∙ sym c.len-count.ensures.value)) in
    λ k w. ap (λ l. forbidden l c.args.self.now.marks.items k w) same

pub returns-else-i-count-clause-distinct : goal.returns-else-i-count-clause-distinct
returns-else-i-count-clause-distinct c = still_distinct c.args.self.now.names c.add.new.self c.args.word.now c.in_ok-i.ensures.ok c.len-count.ensures.distinct
