-- What rounds make of a graph.
use Rattle.std.proofs.Common.{◌≡◌, ◌<◌, ◌≤◌, true, false, List, [], ◌∷◌, length, refl, ap, subst, arith, Option, Some, None}
use Rattle.std.proofs.lemmas.Bool.{both_ways}
use Rattle.std.proofs.lemmas.List.{length-map}
use Rattle.syn_netlist.specs.Kept.{latch_in}
use Rattle.syn_netlist.specs.Frames.{frame_in}
use Rattle.syn_netlist.specs.Lists as lists
use Rattle.syn_netlist.specs.Lists.{Netlist}
use Rattle.syn_netlist.proofs.Functions.{same_from_function}
use Rattle.syn_netlist.proofs.Evaluation.{ordered_has_one}
use Rattle.syn_rows.proofs.Folds.{one_valuation_is}
use Rattle.syn_rows.specs.Values.{rows_function}
use Rattle.syn_network.specs.GraphShape.{GraphHasFunction, and_tables, observed_of, rows_of}
use Rattle.syn_network.specs.Spelling.{NetworkOfGraph, NetworkSpells}
use Rattle.syn_network.proofs.Spelled.{graph_has_function_is}
use Rattle.syn_network.specs.declared.networks.Network.{Network}
use Rattle.syn_network.specs.Written.{network_of}
use Rattle.syn_seq.specs.Code.{Answers, HasValues, IsPartOf, IsRound, all_kept}
use Rattle.syn_seq.specs.Rounds.{AreFates, Dropped, Fate, Kept, Merged, kept_by, swept_frame}
use Rattle.syn_seq.specs.Sequential.{SameSequentially}
use Rattle.syn_seq.specs.Sweeping.{IsSweepOf, IsSwept}
use Rattle.syn_seq.proofs.Alike.{same_meaning_is_sequential}
use Rattle.syn_seq.proofs.Round.{round_keeps}
use Rattle.syn_seq.proofs.Transitive.{sequential_is_transitive}

pub graphs_have_functions : GraphHasFunction
graphs_have_functions = graph_has_function_is one_valuation_is ordered_has_one

pub spells : NetworkOfGraph → (g : Network) → NetworkSpells (frame_in g.frame) g.body.rows g.body.observed
spells law g = law (frame_in g.frame) g.body.rows g.body.observed g.frame.clocks_once g.frame.sources_once g.graph

same_self : NetworkOfGraph → (g : Network) → SameSequentially (network_of g) (network_of g)
same_self law g =
    let s = spells law g in
    let n : Netlist = network_of g in
    let h = (graphs_have_functions n s.shape s.ordered).1 in
    same_meaning_is_sequential n n (same_from_function n n (rows_function (rows_of n) (observed_of n)) refl h h)

pub part_self : NetworkOfGraph → (g : Network) → IsPartOf g g
part_self law g = record { same = same_self law g; fewer = omega arith; few = omega arith }

pub part_then : NetworkOfGraph → (a b c : Network) → IsPartOf a b → IsPartOf b c → IsPartOf a c
part_then law a b c p q = record {
  same = sequential_is_transitive (network_of a) (network_of b) (network_of c) (spells law b).ordered.once p.same q.same;
  fewer = omega (arith, p.fewer, q.fewer);
  few = omega (arith, p.few, q.few);
}

pub sweep_of : NetworkOfGraph → (a b : Network) → IsPartOf a b → IsSwept (network_of b) → IsSweepOf (network_of a) (network_of b)
sweep_of law a b p s = record {
  same = p.same;
  ordered = (spells law b).ordered;
  shape = (spells law b).shape;
  fewer = p.fewer;
  swept = s;
}

pub is_some : (a b : Network) (r : Option Network) → r ≡ Some b → Answers a r → IsRound a b
is_some a b r e h = subst (Answers a) e h

pub is_none : (a : Network) (r : Option Network) → r ≡ None → Answers a r → IsSwept (network_of a)
is_none a r e h = subst (Answers a) e h

kept_at_most : (fates : List Fate) (ls : List lists.Latch) → length (kept_by fates ls) ≤ length ls
kept_at_most [] ls = omega arith
kept_at_most (Kept ∷ fs) [] = omega arith
kept_at_most (Merged i ∷ fs) [] = omega arith
kept_at_most (Dropped ∷ fs) [] = omega arith
kept_at_most (Kept ∷ fs) (l ∷ ls) = omega (arith, kept_at_most fs ls)
kept_at_most (Merged i ∷ fs) (l ∷ ls) = omega (arith, kept_at_most fs ls)
kept_at_most (Dropped ∷ fs) (l ∷ ls) = omega (arith, kept_at_most fs ls)

kept_less : (fates : List Fate) (ls : List lists.Latch) → length fates ≡ length ls → all_kept fates ≡ false → length (kept_by fates ls) < length ls
kept_less [] ls e k = absurd (both_ways true k refl)
kept_less (Kept ∷ fs) [] e k = absurd (omega (arith, e))
kept_less (Merged i ∷ fs) [] e k = absurd (omega (arith, e))
kept_less (Dropped ∷ fs) [] e k = absurd (omega (arith, e))
kept_less (Kept ∷ fs) (l ∷ ls) e k = omega (arith, kept_less fs ls (omega (arith, e)) k)
kept_less (Merged i ∷ fs) (l ∷ ls) e k = omega (arith, kept_at_most fs ls)
kept_less (Dropped ∷ fs) (l ∷ ls) e k = omega (arith, kept_at_most fs ls)

-- a graph that was made by fates, not all of which are kept
pub is_round : NetworkOfGraph → (a b : Network) (fates : List Fate) → AreFates (network_of a) fates → all_kept fates ≡ false → frame_in b.frame ≡ swept_frame (frame_in a.frame) fates → b.frame.names ≡ a.frame.names
    → HasValues (network_of a) (network_of b) fates → length (and_tables (network_of b)) ≤ length (and_tables (network_of a)) → IsRound a b
is_round law a b fates f k frame names values fewer =
    let s = spells law a in
    let t = spells law b in
    record {
      part = record {
        same = round_keeps (network_of a) (network_of b) fates s.ordered s.shape t.ordered t.shape f frame values;
        fewer = fewer;
        few = let e : length b.frame.names ≡ length a.frame.names = ap length names in omega (arith, e);
      };
      less =
          let e : length (frame_in b.frame).latches ≡ length (kept_by fates (frame_in a.frame).latches) = ap (λ (x : lists.Frame). length x.latches) frame in
          let lt : length (kept_by fates (frame_in a.frame).latches) < length (frame_in a.frame).latches = kept_less fates (frame_in a.frame).latches f.count k in
          omega (arith, e, lt, length-map b.frame.latches (latch_in b.frame.names), length-map a.frame.latches (latch_in a.frame.names));
    }
