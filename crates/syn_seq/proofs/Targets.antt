-- Fates that are right merge each latch into an earlier one.
use Rattle.std.proofs.Common.{◌≡◌, ℕ, ◌+◌, ◌<◌, ◌≤◌, ◌-◌, drop, replicate, take, Bool, true, false, List, [], ◌∷◌, ◌++◌, length, map, refl, sym, ap, ◌∙◌, subst, inl, inr, arith}
use Rattle.std.proofs.lemmas.List.{get_or_past, length-append, length-drop, length-map, length-replicate, length-take-le}
use Rattle.std.proofs.lemmas.Bool.{both_ways, cases_lt}
use Rattle.syn_rows.specs.declared.Row.{Row}
use Rattle.syn_rows.specs.declared.Row.TheVariants.{Free}
use Rattle.syn_netlist.specs.Lists as lists
use Rattle.syn_netlist.specs.Lists.{Netlist, latch_output, sources}
use Rattle.syn_network.specs.declared.networks.Network.{Network}
use Rattle.syn_network.specs.Written.{network_of}
use Rattle.syn_seq.specs.Runs.{free_signals}
use Rattle.syn_seq.proofs.Alike.{sources_are}
use Rattle.syn_seq.specs.Code.{SmallTargets, moved_row}
use Rattle.syn_seq.specs.Rounds.{AreFates, Dropped, Fate, IsFate, Kept, Merged, kept_by}

abbrev pub is_merged : Fate → Bool
is_merged Kept = false
is_merged (Merged i) = true
is_merged Dropped = false

pub targets_small : (n : Netlist) (fates : List Fate) → AreFates n fates → SmallTargets fates
targets_small n fates f j i e = elim (cases_lt j (length fates)) [
  | inl lt ↦ (subst (λ (x : Fate). IsFate n fates f.needed j x) e (f.right j lt)).0
  | inr past ↦ absurd (both_ways false refl (ap is_merged (sym (get_or_past fates j Dropped past) ∙ e)))
]

pub fates_few : (g : Network) (fates : List Fate) → AreFates (network_of g) fates → length fates ≤ g.body.source_count
fates_few g fates f =
    let n : Netlist = network_of g in
    let free : List (List ℕ) = free_signals n.frame in
    let outs : List (List ℕ) = map latch_output n.frame.latches in
    let many : length (sources n.frame) ≡ length free + length outs = ap length (sym (sources_are n.frame)) ∙ length-append free outs in
    omega (arith, many, f.count, g.named.sources_are, length-map n.frame.latches latch_output)

pub sources_few : (g : Network) → g.body.source_count < 536870912
sources_few g = omega (arith, g.body.few, g.graph.hashed.there, g.named.sources_are)

pub kept_by_most : (fates : List Fate) (ls : List lists.Latch) → length (kept_by fates ls) ≤ length fates
kept_by_most [] ls = omega arith
kept_by_most (Kept ∷ fs) [] = omega arith
kept_by_most (Merged i ∷ fs) [] = omega arith
kept_by_most (Dropped ∷ fs) [] = omega arith
kept_by_most (Kept ∷ fs) (l ∷ ls) = omega (arith, kept_by_most fs ls)
kept_by_most (Merged i ∷ fs) (l ∷ ls) = omega (arith, kept_by_most fs ls)
kept_by_most (Dropped ∷ fs) (l ∷ ls) = omega (arith, kept_by_most fs ls)

pub moved_count : (left : ℕ) (places : List ℕ) (rows : List Row) → left < length places → length places ≤ length rows
    → length (take (left + 1) rows ++ (replicate (length places - (left + 1)) Free ++ map (moved_row places) (drop (length places) rows))) ≡ length rows
moved_count left places rows lt le =
    let free : List Row = replicate (length places - (left + 1)) Free in
    let gates : List Row = map (moved_row places) (drop (length places) rows) in
    let a = length-append (take (left + 1) rows) (free ++ gates) in
    let b = length-append free gates in
    let d = length-drop (length places) rows in
    let e = length-map (drop (length places) rows) (moved_row places) in
    let f = length-take-le (left + 1) rows (omega (arith, lt, le)) in
    let h : length free ≡ length places - (left + 1) = length-replicate (length places - (left + 1)) Free in
    omega (arith, a, b, d, e, f, h, lt, le)
