-- A netlist with some of another one's latches has no more sources.
use Rattle.std.proofs.Common.{◌≡◌, ℕ, ◌+◌, ◌≤◌, List, [], ◌∷◌, ◌++◌, length, map, sym, ap, ap₂, ◌∙◌, inl, inr, arith}
use Rattle.std.proofs.lemmas.List.{length-append, length-map}
use Rattle.syn_netlist.specs.Lists.{Latch, Netlist, latch_output, sources}
use Rattle.syn_netlist.specs.Words.{without}
use Rattle.syn_seq.specs.Runs.{free_signals}
use Rattle.syn_seq.specs.Sequential.{AreSomeOf, SameSequentially}
use Rattle.syn_seq.proofs.Alike.{sources_are}

pub some_fewer : (ks ls : List Latch) → AreSomeOf ks ls → length ks ≤ length ls
some_fewer [] ls s = omega arith
some_fewer (k ∷ ks) [] s = absurd s
some_fewer (k ∷ ks) (l ∷ ls) s = elim s [
  | inl here ↦ omega (arith, some_fewer ks ls here.1)
  | inr later ↦ omega (arith, some_fewer (k ∷ ks) ls later)
]

many_sources : (n : Netlist) → length (sources n.frame) ≡ length (free_signals n.frame) + length n.frame.latches
many_sources n =
    ap length (sym (sources_are n.frame)) ∙ length-append (free_signals n.frame) (map latch_output n.frame.latches)
    ∙ ap (λ k. length (free_signals n.frame) + k) (length-map n.frame.latches latch_output)

pub fewer_sources : (n m : Netlist) → SameSequentially n m → length (sources m.frame) ≤ length (sources n.frame)
fewer_sources n m s =
    let free : length (free_signals n.frame) ≡ length (free_signals m.frame) = ap₂ (λ (i c : List (List ℕ)). length (i ++ without i c)) s.inputs s.clocks in
    omega (arith, free, many_sources n, many_sources m, some_fewer m.frame.latches n.frame.latches s.latches)
