use Rattle.std.proofs.Common.{◌≡◌, ℕ, true, List, length, flat_map, ◌++◌, sym, ap, ap₂, ◌∙◌, subst, arith}
use Rattle.std.proofs.lemmas.List.{length-map}
use Rattle.syn_rows.specs.declared.Lit.{Lit}
use Rattle.syn_hashed.specs.Hashed.{lit_at}
use Rattle.syn_netlist.specs.Frames.{frame_in}
use Rattle.syn_netlist.specs.Lists.{latch_reads}
use Rattle.syn_netlist.specs.Numbers.{word_at}
use Rattle.syn_netlist.specs.Words.{distinct, has_word}
use Rattle.syn_network.specs.GraphShape.{place}
use Rattle.syn_network.proofs.Ends.{firsts_distinct}
use Rattle.syn_compare.proofs.ordering.literal.Goals as goal

pub place_of-place-requires-clause-once : goal.place_of-place-requires-clause-once
place_of-place-requires-clause-once c =
    let f = frame_in c.args.network.now.frame in
    subst (λ (ws : List (List ℕ)). distinct ws ≡ true) (sym c.requires.index) (firsts_distinct (f.outputs ++ flat_map latch_reads f.latches))

pub place_of-place-requires-clause-there : goal.place_of-place-requires-clause-there
place_of-place-requires-clause-there c = subst (λ (ws : List (List ℕ)). has_word ws c.args.word.now ≡ true) (sym c.requires.index) c.requires.there

pub literal_at-requires : goal.literal_at-requires
literal_at-requires c =
    let x = c.args.network.now in
    let index = c.args.index.now in
    omega (
      arith,
      c.place_of-place.ensures.below,
      length-map index.numbers.now (word_at index.names.now),
      ap (λ (ws : List (List ℕ)). length ws) c.requires.index,
      x.named.observed_are,
      ap (λ (ls : List Lit). length ls) c.as_slice.ensures,
    )

pub returns : goal.returns
returns c =
    c.literal_at.ensures ∙ ap₂ (λ (ls : List Lit) (k : ℕ). lit_at ls k) c.as_slice.ensures (c.place_of-place.ensures.place ∙ ap (λ (ws : List (List ℕ)). place c.args.word.now ws) c.requires.index)
