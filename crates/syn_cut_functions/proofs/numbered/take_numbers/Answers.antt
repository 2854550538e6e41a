use Rattle.std.proofs.Common.{sym, subst}
use Rattle.syn_cut_functions.specs.CutTruth.{AreCarried, HaveCarried}
use Rattle.syn_cut_functions.specs.Cuts.{cuts_of}
use Rattle.syn_cut_functions.proofs.CutTruth.{carried_set, have_carried, numbers_taken}
use Rattle.syn_cut_functions.proofs.numbered.take_numbers.Goals as goal

pub returns-in-Some-clause-lists : goal.returns-in-Some-clause-lists
returns-in-Some-clause-lists c =
    numbers_taken c.args.graph.now.rows c.args.lists.now.items c.args.node c.index_mut-own.result.now c.take.new.self c.requires.lists c.requires.node c.index_mut-own.ensures.value c.take.ensures.after

pub cut_truths_at-requires-clause-lists : goal.cut_truths_at-requires-clause-lists
cut_truths_at-requires-clause-lists c =
    let rows = c.args.graph.now.rows in
    subst (HaveCarried rows) (sym c.deref.ensures.value)
    (have_carried rows _ (numbers_taken rows c.args.lists.now.items c.args.node c.index_mut-own.result.now c.take.new.self c.requires.lists c.requires.node c.index_mut-own.ensures.value c.take.ensures.after))

pub numbers_at-requires-clause-carried : goal.numbers_at-requires-clause-carried
numbers_at-requires-clause-carried c =
    let rows = c.args.graph.now.rows in
    subst (AreCarried rows c.args.node (cuts_of rows c.args.node)) (sym c.as_slice.ensures.value) c.in_ok-carried.ensures.carried

pub returns-clause-lists : goal.returns-clause-lists
returns-clause-lists c =
    let rows = c.args.graph.now.rows in
    let taken = numbers_taken rows c.args.lists.now.items c.args.node c.index_mut-own.result.now c.take.new.self c.requires.lists c.requires.node c.index_mut-own.ensures.value c.take.ensures.after in
    carried_set rows _ c.args.node c.index_mut.result.now c.in_ok-carried.carried taken c.requires.node c.index_mut.ensures.value c.in_ok-carried.ensures.carried
