use Rattle.std.proofs.Common.{◌≡◌, ℕ, List, length, ap, ◌∙◌, arith, true}
use Rattle.std.proofs.lemmas.List.{length-set}
use Rattle.syn_network.specs.declared.networks.Network.{Network}
use Rattle.syn_netlist.specs.Frames.{frame_in}
use Rattle.syn_netlist.specs.Lists.{observed}
use Rattle.syn_netlist.specs.Numbers.{all_below, word_at, words_at}
use Rattle.syn_seq.proofs.Named.{known, lits_are, placed}
use Rattle.syn_seq.proofs.signals.literals_of.Goals as goal

pub loop-i-preserved : goal.loop-i-preserved
loop-i-preserved c =
    let g : Network = c.args.graph.now in
    let numbers : List ℕ = c.as_slice-numbers.result.now in
    let words : words_at g.frame.names numbers ≡ observed (frame_in g.frame) = ap (words_at g.frame.names) c.as_slice-numbers.ensures.value ∙ c.in_ok-numbers.ensures.words in
    let below : all_below (length g.frame.names) numbers ≡ true = ap (all_below (length g.frame.names)) c.as_slice-numbers.ensures.value ∙ c.in_ok-numbers.ensures.below in
    record {
      count = length-set c.loop-i.found.items _ _ ∙ c.loop-i.invariant.count;
      lits = λ lit e. placed (λ m. lit (word_at g.frame.names m)) numbers c.args.lits.now c.loop-i.found.items c.loop-i.i
          (ap (λ (k : ℕ). all_below k numbers) c.loop-i.invariant.count ∙ below) c.loop-i-test.true
          (known lit c.args.lits.now g.frame.names (observed (frame_in g.frame)) numbers e words c.loop-i.i c.loop-i-test.true)
          (c.loop-i.invariant.lits lit e);
    }

pub returns-clause-lits : goal.returns-clause-lits
returns-clause-lits c =
    let g : Network = c.args.graph.now in
    let numbers : List ℕ = c.as_slice-numbers.result.now in
    let words : words_at g.frame.names numbers ≡ observed (frame_in g.frame) = ap (words_at g.frame.names) c.as_slice-numbers.ensures.value ∙ c.in_ok-numbers.ensures.words in
    let below : all_below (length g.frame.names) numbers ≡ true = ap (all_below (length g.frame.names)) c.as_slice-numbers.ensures.value ∙ c.in_ok-numbers.ensures.below in
    λ lit e. lits_are lit g numbers c.loop-i.found.items words below c.len.ensures.distinct (λ k lt. c.loop-i.invariant.lits lit e k (omega (arith, lt)))
