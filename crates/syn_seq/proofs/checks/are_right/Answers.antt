use Rattle.std.proofs.Common.{◌+◌, ◌-◌, List, length, get_or, refl, subst, arith}
use Rattle.syn_rows.specs.declared.Lit.{Lit}
use Rattle.syn_rows.specs.Values.{value_in}
use Rattle.syn_netlist.specs.declared.Latch.{Latch}
use Rattle.syn_network.specs.declared.networks.Network.{Network}
use Rattle.syn_seq.specs.Keys.{IsFateBy, key_by}
use Rattle.syn_seq.specs.Rounds.{fate_at}
use Rattle.syn_seq.proofs.Fated.{IsFatedBy, are_fates_by, one_more}
use Rattle.syn_seq.proofs.Loading.{no_latch}
use Rattle.syn_seq.proofs.checks.are_right.Goals as goal

pub loop-j-preserved : goal.loop-j-preserved
loop-j-preserved c =
    let g : Network = c.args.graph.now in
    one_more
    (λ k. (d : Latch) → IsFateBy (λ j. value_in c.args.needed.now (g.body.source_count + 1 - length g.frame.latches + j)) (λ j. key_by c.in_ok-lits.lits.items (get_or g.frame.latches j d)) c.args.fates.now k (fate_at c.args.fates.now k))
    c.loop-j.j c.loop-j.invariant
    (subst (λ (ls : List Lit). (d : Latch) → IsFateBy (λ j. value_in c.args.needed.now (g.body.source_count + 1 - length g.frame.latches + j)) (λ j. key_by ls (get_or g.frame.latches j d)) c.args.fates.now c.loop-j.j (fate_at c.args.fates.now c.loop-j.j))
    c.as_slice.ensures.value (c.is_right.ensures c.if-not-is_right.false))

pub returns : goal.returns
returns c = λ all.
    let g : Network = c.args.graph.now in
    let f : IsFatedBy g c.in_ok-lits.lits.items c.args.needed.now (g.body.source_count + 1 - length g.frame.latches) g.frame.latches c.args.fates.now = record {
      alike_lits = c.in_ok-lits.ensures.alike;
      needs = c.requires.needed;
      latches = refl;
      first_is = refl;
      count = c.requires.count;
      right = λ j lt. c.loop-j.invariant j (omega (arith, lt, c.loop-j-test.false)) no_latch;
    } in
    are_fates_by g c.in_ok-lits.lits.items c.args.needed.now _ g.frame.latches c.args.fates.now f
