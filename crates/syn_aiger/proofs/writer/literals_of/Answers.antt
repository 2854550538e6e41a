use Rattle.std.proofs.Common.{◌≡◌, ℕ, List, [], ◌++◌, length, take, drop, sym, ap, ◌∙◌, subst, arith}
use Rattle.std.proofs.Math.Seq.{take-append_seam}
use Rattle.syn_rows.specs.declared.Lit.{Lit}
use Rattle.syn_netlist.specs.Frames.{frame_in}
use Rattle.syn_netlist.specs.Lists.{observed}
use Rattle.syn_network.specs.declared.networks.Network.{Network}
use Rattle.syn_network.specs.Written.{network_of}
use Rattle.syn_aiger.specs.WrittenLists.{ArePlaced, HaveLiterals}
use Rattle.syn_aiger.proofs.WrittenLiterals.{placed_are}
use Rattle.syn_aiger.proofs.writer.literals_of.Goals as goal

pub returns-clause-literals : goal.returns-clause-literals
returns-clause-literals c =
    let g : Network = c.args.graph.now in
    let new : List ℕ = c.place_literals.new.literals in
    let signals : List ℕ = c.in_ok-signals.signals.items in
    let rest : List ℕ = drop (length new) c.in_ok-literals.literals.items in
    let size : length new ≡ c.in_ok-literals.literals.len = omega (arith, c.place_literals.ensures.count, ap (λ (l : List ℕ). length l) c.as_mut_slice.ensures.value, c.in_ok-literals.literals.ok.0) in
    let back : take c.in_ok-literals.literals.len (new ++ rest) ≡ new = ap (λ (k : ℕ). take k (new ++ rest)) (sym size) ∙ take-append_seam new rest in
    let placed : ArePlaced signals g.body.observed [] new =
    subst (λ (ls : List Lit). ArePlaced signals ls [] new) c.as_slice.ensures
    (subst (λ (ss : List ℕ). ArePlaced ss c.as_slice.result.now [] new) c.deref.ensures.value c.place_literals.ensures.placed) in
    subst (HaveLiterals (network_of g) g.frame.names (observed (frame_in g.frame))) (sym back)
    (placed_are g signals new c.len-count.ensures.distinct c.in_ok-signals.ensures.words c.in_ok-signals.ensures.below placed)
