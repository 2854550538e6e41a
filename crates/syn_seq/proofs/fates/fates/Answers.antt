use Rattle.std.proofs.Common.{◌≡◌, ◌+◌, ◌-◌, List, length, get_or, refl, ap, ◌∙◌, arith}
use Rattle.std.proofs.lemmas.List.{get_or_read, length-append}
use Rattle.syn_rows.specs.Values.{value_in}
use Rattle.syn_netlist.specs.declared.Latch.{Latch}
use Rattle.syn_seq.specs.Keys.{key_by}
use Rattle.syn_seq.specs.Rounds.{Fate}
use Rattle.syn_seq.proofs.Fated.{IsFated, are_fates, is_swept}
use Rattle.syn_seq.proofs.Loading.{no_latch}
use Rattle.syn_seq.proofs.Seen.{next_found}
use Rattle.syn_seq.proofs.fates.fates.Goals as goal

pub loop-j-preserved : goal.loop-j-preserved
loop-j-preserved c =
    let lits = c.args.lits.now in
    let latches : List Latch = c.as_slice-latches.result.now in
    let fates : List Fate = c.loop-j.fates.items in
    let key : c.key_of-key.result ≡ key_by lits (get_or latches c.loop-j.j no_latch) =
    c.key_of-key.ensures ∙ ap (key_by lits) (get_or_read latches c.loop-j.j c.index-latches-j.result c.loop-j-test.true c.index-latches-j.is no_latch) in
    record {
      count = ap length c.in_ok-push.ensures.items ∙ length-append fates _ ∙ omega (arith, c.loop-j.invariant.count);
      next =
          next_found (λ j. value_in c.args.needed.now (c.args.graph.now.body.source_count + 1 - length latches + j)) (λ j. key_by lits (get_or latches j no_latch)) fates _ _ _ c.key_of-key.result c.loop-j.j _ _
          c.loop-j.invariant.next c.loop-j.invariant.count refl key c.in_ok-fate.ensures c.in_ok-push.ensures.items;
    }

pub returns-clause-fates : goal.returns-clause-fates
returns-clause-fates c =
    let f : IsFated c.args.graph.now c.args.lits.now c.args.needed.now (c.args.graph.now.body.source_count + 1 - length c.as_slice-latches.result.now) c.as_slice-latches.result.now c.loop-j.fates.items = record {
      lits_are = c.requires.lits;
      needs = c.requires.needed;
      latches = c.as_slice-latches.ensures;
      first_is = refl;
      count = omega (arith, c.loop-j.invariant.count, c.loop-j-test.false, c.loop-j.auto.j-end);
      fates_are = c.loop-j.invariant.next.so_far;
    } in
    are_fates c.network_of_graph.ensures c.args.graph.now c.args.lits.now c.args.needed.now _ c.as_slice-latches.result.now c.loop-j.fates.items f

pub returns-clause-swept : goal.returns-clause-swept
returns-clause-swept c =
    let f : IsFated c.args.graph.now c.args.lits.now c.args.needed.now (c.args.graph.now.body.source_count + 1 - length c.as_slice-latches.result.now) c.as_slice-latches.result.now c.loop-j.fates.items = record {
      lits_are = c.requires.lits;
      needs = c.requires.needed;
      latches = c.as_slice-latches.ensures;
      first_is = refl;
      count = omega (arith, c.loop-j.invariant.count, c.loop-j-test.false, c.loop-j.auto.j-end);
      fates_are = c.loop-j.invariant.next.so_far;
    } in
    λ all. is_swept c.network_of_graph.ensures c.args.graph.now c.args.lits.now c.args.needed.now _ c.as_slice-latches.result.now c.loop-j.fates.items f all
