-- A graph that was made anew under its names is, as it is written, what the recipes for graphs make of it.
use Rattle.std.proofs.Common.{◌≡◌, ℕ, ◌+◌, ◌<◌, ◌≤◌, Bool, true, false, List, length, refl, sym, ap, ap₂, subst, arith, Option, None, Some, IfNone, IfSome}
use Rattle.std.proofs.lemmas.List.{length-drop}
use Rattle.syn_rows.specs.declared.Lit.{Lit}
use Rattle.syn_rows.specs.declared.Row.{Row}
use Rattle.syn_hashed.specs.Growing.{level_by}
use Rattle.syn_hashed.specs.Hashed.{lit_at}
use Rattle.syn_graph.specs.declared.Graph.{Graph}
use Rattle.syn_graph.specs.Relations.{Follows, SameFunction}
use Rattle.syn_netlist.specs.Frames.{frame_in}
use Rattle.syn_netlist.specs.Lists.{Frame, sources}
use Rattle.syn_netlist.specs.Meaning.{SameMeaning}
use Rattle.syn_network.specs.declared.networks.Network.{Network}
use Rattle.syn_network.specs.GraphShape.{observed_of, rows_of}
use Rattle.syn_network.specs.Laws.{SameFunctionKeepsMeaning}
use Rattle.syn_network.specs.Spelling.{NetworkOfGraph, NetworkSpells, network}
use Rattle.syn_network.specs.Written as graphs
use Rattle.syn_balance.specs.Balanced as balanced
use Rattle.syn_gain.specs.Replacements.{Replacement}
use Rattle.syn_levels.specs.Levels.{IsNoDeeper}
use Rattle.syn_proposals.specs.Closing.{Closed}
use Rattle.syn_pool.specs.Improving.{IsImproved, allowed}
use Rattle.syn_shell.specs.Networks.{Written, graph_network}
use Rattle.syn_shell.specs.Bodies.{AreMerged, IsLeftBy}
use Rattle.syn_shell.specs.Makes.{IsBalanced, IsClosedFor, IsMerged, IsPassed, IsRemade, NoDeeper, level_at}

-- what a graph under names is as a netlist
pub record GraphLaws : Type 0 where
  pub spells : NetworkOfGraph
  pub means : SameFunctionKeepsMeaning

-- a network as it is written
abbrev pub written : Network → Written
written n = graph_network (graphs.network_of n)

-- what the netlist of a network spells
pub spelled : NetworkOfGraph → (n : Network) → NetworkSpells (frame_in n.frame) n.body.rows n.body.observed
spelled spells n = spells (frame_in n.frame) n.body.rows n.body.observed n.frame.clocks_once n.frame.sources_once n.graph

-- a graph of the same function, with no more ANDs
pub remade_of : GraphLaws → (was now : Network) → frame_in now.frame ≡ frame_in was.frame → SameFunction was.body now.body → length now.body.rows ≤ length was.body.rows → IsRemade (written was) (written now)
remade_of laws was now names same fewer = record {
  same = subst (λ (f : Frame). SameMeaning (graphs.network_of was) (network f now.body.rows now.body.observed)) (sym names)
      (laws.means (frame_in was.frame) was.body now.body was.frame.clocks_once was.frame.sources_once was.named same);
  ordered = t.ordered;
  graph = refl;
  shape = t.shape;
  fewer = omega (
    arith,
    s.ands,
    t.ands,
    length-drop (length (sources (frame_in was.frame)) + 1) was.body.rows,
    length-drop (length (sources (frame_in now.frame)) + 1) now.body.rows,
    ap (λ (f : Frame). length (sources f)) names,
    fewer,
  );
}
  where
    s : NetworkSpells (frame_in was.frame) was.body.rows was.body.observed
    s = spelled laws.spells was

    t : NetworkSpells (frame_in now.frame) now.body.rows now.body.observed
    t = spelled laws.spells now

-- no observed literal higher
no_deeper : NetworkOfGraph → (was now : Network) → ((i : ℕ) → i < length now.body.observed → level_by now.body.rows (lit_at now.body.observed i) ≤ level_by was.body.rows (lit_at was.body.observed i))
    → NoDeeper (graphs.network_of was) (graphs.network_of now)
no_deeper spells was now levels i lt =
    let s = spelled spells was in
    let t = spelled spells now in
    let inside : i < length now.body.observed = omega (arith, lt, ap (λ (ls : List Lit). length ls) t.same_lits) in
    let before : level_at (graphs.network_of was) i ≡ level_by was.body.rows (lit_at was.body.observed i) = ap₂ (λ (rs : List Row) (ls : List Lit). level_by rs (lit_at ls i)) s.same_rows s.same_lits in
    let after : level_at (graphs.network_of now) i ≡ level_by now.body.rows (lit_at now.body.observed i) = ap₂ (λ (rs : List Row) (ls : List Lit). level_by rs (lit_at ls i)) t.same_rows t.same_lits in
    omega (arith, before, after, levels i inside)

pub balanced_of : GraphLaws → (was now : Network) → frame_in now.frame ≡ frame_in was.frame → balanced.IsBalanced was.body now.body → IsBalanced (written was) (written now)
balanced_of laws was now names h = record {
  remade = remade_of laws was now names h.same h.count;
  levels = no_deeper laws.spells was now (λ i lt. h.levels i (omega (arith, lt, h.same.count)));
}

merged_of : GraphLaws → (levels : Bool) (was now : Network) → frame_in now.frame ≡ frame_in was.frame → AreMerged levels was.body now.body → IsMerged levels (written was) (written now)
merged_of laws levels was now names h = record {
  remade = remade_of laws was now names h.follows.same (omega (arith, h.follows.count));
  levels = λ kept. no_deeper laws.spells was now (λ i lt. h.levels kept i);
}

-- a graph of the same function, with no more ANDs, where no levels are kept
pub merged_freely : (graph made : Graph) → Follows graph 0 made → AreMerged false graph made
merged_freely graph made h = record { follows = h; levels = λ kept. absurd (let no : false ≡ true = kept in cc) }

-- the proposals that no longer save, by the rows that the netlist spells
closed_of : NetworkOfGraph → (proposals : List Row → ℕ → List Replacement) (now : Network) → Closed now.body.rows now.body.observed (proposals now.body.rows)
    → Closed (rows_of (graphs.network_of now)) (observed_of (graphs.network_of now)) (proposals (rows_of (graphs.network_of now)))
closed_of spells proposals now closed =
    let t = spelled spells now in
    subst (λ (rs : List Row). Closed rs (observed_of (graphs.network_of now)) (proposals rs)) (sym t.same_rows)
    (subst (λ (ls : List Lit). Closed now.body.rows ls (proposals now.body.rows)) (sym t.same_lits) closed)

-- what a pass leaves, by whether levels are kept
passed_of : GraphLaws → (proposals : List Row → ℕ → List Replacement) (levels : Bool) (was now : Network) → frame_in now.frame ≡ frame_in was.frame → IsImproved proposals levels was.body now.body
    → IsPassed levels proposals (written was) (written now)
passed_of laws proposals false was now names h = record {
  remade = remade_of laws was now names h.same h.count;
  closed = closed_of laws.spells (allowed false proposals) now h.closed;
}
passed_of laws proposals true was now names h = record {
  closed = record {
    remade = remade_of laws was now names h.same h.count;
    closed = closed_of laws.spells (allowed true proposals) now h.closed;
  };
  levels = no_deeper laws.spells was now (λ i lt. h.levels refl i);
}

-- a graph has its own function
same_self : (graph : Graph) → SameFunction graph graph
same_self graph = record { sources = refl; count = refl; stay = λ i l lt source is. is; values = λ bits. refl }

-- a graph that a pass leaves as it is
left_alone : (proposals : List Row → ℕ → List Replacement) (levels : Bool) (graph : Graph) → Closed graph.rows graph.observed (allowed levels proposals graph.rows) → IsImproved proposals levels graph graph
left_alone proposals levels graph closed = record { same = same_self graph; count = omega arith; levels = λ e i. omega arith; closed = closed }

-- what was made, put under the names
pub put_balanced : GraphLaws → (was now : Network) (made : Option Graph) (body : Graph) → made ≡ Some body → frame_in now.frame ≡ frame_in was.frame → now.body ≡ body
    → IfSome made (λ b. balanced.IsBalanced was.body b → IsBalanced (written was) (written now))
put_balanced laws was now made body is names put =
    subst (λ (m : Option Graph). IfSome m (λ b. balanced.IsBalanced was.body b → IsBalanced (written was) (written now))) (sym is)
    (λ h. balanced_of laws was now names (subst (balanced.IsBalanced was.body) (sym put) h))

pub put_merged : GraphLaws → (levels : Bool) (was now : Network) (made : Option Graph) (body : Graph) → made ≡ Some body → frame_in now.frame ≡ frame_in was.frame → now.body ≡ body
    → IfSome made (λ b. AreMerged levels was.body b → IsMerged levels (written was) (written now))
put_merged laws levels was now made body is names put =
    subst (λ (m : Option Graph). IfSome m (λ b. AreMerged levels was.body b → IsMerged levels (written was) (written now))) (sym is)
    (λ h. merged_of laws levels was now names (subst (AreMerged levels was.body) (sym put) h))

pub put_passed : GraphLaws → (proposals : List Row → ℕ → List Replacement) (levels : Bool) (was now : Network) (made : Option Graph) (body : Graph) → made ≡ Some body → frame_in now.frame ≡ frame_in was.frame → now.body ≡ body
    → IsLeftBy proposals levels was.body made → IsPassed levels proposals (written was) (written now)
put_passed laws proposals levels was now made body is names put left =
    let improved : IsImproved proposals levels was.body body = subst (λ (m : Option Graph). IfSome m (IsImproved proposals levels was.body)) is left.some in
    passed_of laws proposals levels was now names (subst (IsImproved proposals levels was.body) (sym put) improved)

-- where a pass made none, the graph is what it leaves
pub passed_already : GraphLaws → (proposals : List Row → ℕ → List Replacement) (levels : Bool) (n : Network) (made : Option Graph) → made ≡ None → IsLeftBy proposals levels n.body made
    → IsPassed levels proposals (written n) (written n)
passed_already laws proposals levels n made is left =
    let closed : Closed n.body.rows n.body.observed (allowed levels proposals n.body.rows) =
    subst (λ (m : Option Graph). IfNone m (Closed n.body.rows n.body.observed (allowed levels proposals n.body.rows))) is left.none in
    passed_of laws proposals levels n n refl (left_alone proposals levels n.body closed)

-- a graph that hashing leaves as it is
pub hashed_already : GraphLaws → (n : Network) → IsRemade (written n) (written n)
hashed_already laws n = remade_of laws n n refl (same_self n.body) (omega arith)

-- whatever a pass leaves is remade
pub passed_remade : (levels : Bool) (proposals : List Row → ℕ → List Replacement) (old new : Written) → IsPassed levels proposals old new → IsRemade old new
passed_remade false proposals old new passed = passed.remade
passed_remade true proposals old new passed = passed.closed.remade
