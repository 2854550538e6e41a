use Rattle.std.proofs.Common.{◌+◌, List, ℕ, take, sym, subst, arith}
use Rattle.syn_cuts.specs.Leaves.{leaves_of}
use Rattle.syn_cut_functions.specs.Functions.{AreFunctionsOver, IsFunctionOver}
use Rattle.syn_cut_functions.specs.CutTruth.{AreCarried}
use Rattle.syn_cut_functions.proofs.Listed.{leaves_read}
use Rattle.syn_cut_functions.proofs.CutTruth.{from_cut}
use Rattle.syn_cut_functions.proofs.Cuts.{more_functions}
use Rattle.syn_cut_functions.proofs.functions.numbers_over.Goals as goal

pub number_of-requires : goal.number_of-requires
number_of-requires c =
    let graph = c.args.graph.now in
    (leaves_read graph c.args.node c.args.own.now c.loop-i.i c.index-own-i.result c.as_slice.result.now c.requires.node c.requires.own
    c.loop-i-test.true c.index-own-i.is c.as_slice.ensures.value).few

pub loop-i-preserved : goal.loop-i-preserved
loop-i-preserved c =
    let rows = c.args.graph.now.rows in
    let node = c.args.node in
    let cuts = c.args.own.now in
    let i = c.loop-i.i in
    let cut = c.index-own-i.result in
    let are : AreCarried rows node (leaves_of cuts) c.args.carried.now = subst (λ (cs : List (List ℕ)). AreCarried rows node cs c.args.carried.now) (sym c.requires.own) c.requires.carried in
    let number : IsFunctionOver rows cut.items node c.number_of.result =
    subst (λ ls. IsFunctionOver rows ls node c.number_of.result) c.as_slice.ensures.value
    (c.number_of.ensures rows node
    (rw c.as_slice.ensures.value (from_cut rows node cuts c.args.carried.now i cut _ are (omega (arith, c.requires.all, c.loop-i-test.true)) c.loop-i-test.true c.index-own-i.is))) in
    subst (AreFunctionsOver rows node (take (i + 1) (leaves_of cuts))) (sym c.in_ok-push.ensures.items)
    (more_functions rows node cuts c.loop-i.numbers.items i c.number_of.result cut c.loop-i-test.true c.index-own-i.is c.loop-i.invariant number)
