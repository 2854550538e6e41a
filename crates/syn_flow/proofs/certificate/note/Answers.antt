use Rattle.std.proofs.Common.{◌<◌, Bool, List, length, sym, subst, arith}
use Rattle.std.proofs.lemmas.Bool.{both_ways}
use Rattle.syn_paths.specs.Tops.{label_in}
use Rattle.syn_flow.specs.Checks.{IsNotedBy}
use Rattle.syn_flow.specs.Flows.{shown_of}
use Rattle.syn_flow.proofs.Witnessed.{good_there, note_marked, note_skipped}
use Rattle.syn_flow.proofs.certificate.note.Goals as goal

pub returns-then-branch-clause-noted : goal.returns-then-branch-clause-noted
returns-then-branch-clause-noted c =
    let rows = c.args.rows.now in
    let label = label_in c.args.labels.now in
    let x = shown_of c.args.entry.now in
    let good = c.in_ok-bears_out.ensures.good.0 c.if-branch.true in
    let lt : c.args.entry.now.node < length c.args.marks.now = omega (arith, good_there c.args.k rows label (shown_of c.args.entry.now) good, c.requires.marks) in
    subst (λ (l : List Bool). IsNotedBy c.args.k rows label (shown_of c.args.entry.now) c.args.marks.now l) (sym (c.set_mark.ensures.set lt)) (note_marked c.args.k rows label (shown_of c.args.entry.now) c.args.marks.now lt good)

pub returns-clause-noted : goal.returns-clause-noted
returns-clause-noted c =
    note_skipped c.args.k c.args.rows.now (label_in c.args.labels.now) (shown_of c.args.entry.now) c.args.marks.now (λ good. absurd (both_ways c.in_ok-bears_out.field-0 c.if-branch.false (c.in_ok-bears_out.ensures.good.1 good)))
