-- The rows in which latches need what they read refer to rows that are there.
use Rattle.std.proofs.Common.{◌≡◌, ℕ, ◌+◌, ◌<◌, nat_lt, Bool, true, false, List, [], ◌∷◌, ◌++◌, length, map, flat_map, bytes_eq, refl, sym, ap, ◌∙◌, subst, inl, inr, arith, Option, Some, None}
use Rattle.std.specs.List.{All, AllByRecursion, list_all}
use Rattle.std.proofs.lemmas.Bool.{and_parts, and_from, both_ways, lt-ltb, or_cases}
use Rattle.std.proofs.lemmas.List.{length-append, length-map}
use Rattle.std.proofs.lemmas.List.Elements.{recursion_from_All}
use Rattle.syn_rows.specs.declared.Lit.{Lit}
use Rattle.syn_rows.specs.declared.Row.{Row}
use Rattle.syn_rows.specs.declared.Row.TheVariants.{Source}
use Rattle.syn_rows.specs.Rows.{lits_within, node_of, refs_below, refs_within}
use Rattle.syn_hashed.proofs.Dropped.{hashed_within}
use Rattle.syn_netlist.specs.declared.LatchKind.{LatchKind}
use Rattle.syn_netlist.specs.Frames.{frame_in}
use Rattle.syn_netlist.specs.Lists as lists
use Rattle.syn_netlist.specs.Lists.{Netlist, control_of, latch_output, latch_reads, observed, sources}
use Rattle.syn_netlist.specs.Words.{has_word}
use Rattle.syn_netlist.proofs.Sets.{has_head, has_left, has_right, has_tail, same_word}
use Rattle.syn_network.specs.GraphShape.{and_tables, lit_of, node_names, row_of, source_row}
use Rattle.syn_network.specs.Spelling.{NetworkOfGraph}
use Rattle.syn_network.specs.declared.networks.Network.{Network}
use Rattle.syn_network.specs.Written.{network_of}
use Rattle.syn_seq.specs.Runs.{free_signals}
use Rattle.syn_seq.specs.Sweeping.{latch_row, needing_rows, needs_of, output_lits}
use Rattle.syn_seq.proofs.Alike.{among_firsts, sources_are}
use Rattle.syn_seq.proofs.Sweeps.{spells}

within_each : (h : List ℕ → Lit) (count : ℕ) (ws : List (List ℕ)) → AllByRecursion (λ (l : Lit). node_of l < count) (map h ws) → (w : List ℕ) → has_word ws w ≡ true → node_of (h w) < count
within_each h count [] a w t = absurd (both_ways false refl t)
within_each h count (x ∷ xs) a w t = elim (or_cases (bytes_eq x w) (has_word xs w) t) [
  | inl e ↦ subst (λ (y : List ℕ). node_of (h y) < count) (same_word x w e) a.0
  | inr e ↦ within_each h count xs a.1 w e
]

-- an observed signal's literal names a node that is there
pub lit_within : NetworkOfGraph → (g : Network) (w : List ℕ) → has_word (observed (frame_in g.frame)) w ≡ true → node_of (lit_of (network_of g) w) < length g.body.rows
lit_within law g w t =
    within_each (lit_of (network_of g)) (length g.body.rows) (observed (frame_in g.frame))
    (recursion_from_All (λ (l : Lit). node_of l < length g.body.rows) (map (lit_of (network_of g)) (observed (frame_in g.frame)))
    (subst (λ (ls : List Lit). All (λ (l : Lit). node_of l < length g.body.rows) ls) (sym (spells law g).same_lits) g.graph.within)) w t

row_within : (n : Netlist) (count : ℕ) (l : lists.Latch) (kind : Option (LatchKind × Option (List ℕ))) → ((w : List ℕ) → has_word (l.feed ∷ control_of kind) w ≡ true → node_of (lit_of n w) < count) → refs_below count (needs_of n l (control_of kind)) ≡ true
row_within n count l None h = lt-ltb _ _ (h l.feed (has_head l.feed []))
row_within n count l (Some (k, None)) h = lt-ltb _ _ (h l.feed (has_head l.feed []))
row_within n count l (Some (k, Some c)) h =
    and_from (nat_lt (node_of (lit_of n l.feed)) count) (nat_lt (node_of (lit_of n c)) count) (lt-ltb _ _ (h l.feed (has_head l.feed (c ∷ [])))) (lt-ltb _ _ (h c (has_tail l.feed c (c ∷ []) (has_head c []))))

each_within : (n : Netlist) (count : ℕ) (ls : List lists.Latch) → ((w : List ℕ) → has_word (flat_map latch_reads ls) w ≡ true → node_of (lit_of n w) < count) → list_all (refs_below count) (map (latch_row n) ls) ≡ true
each_within n count [] h = refl
each_within n count (l ∷ ls) h =
    and_from (refs_below count (latch_row n l)) (list_all (refs_below count) (map (latch_row n) ls))
    (row_within n count l l.kind (λ w t. h w (has_left (latch_reads l) (flat_map latch_reads ls) w t)))
    (each_within n count ls (λ w t. h w (has_right (latch_reads l) (flat_map latch_reads ls) w t)))

lits_each : (n : Netlist) (count : ℕ) (ws : List (List ℕ)) → ((w : List ℕ) → has_word ws w ≡ true → node_of (lit_of n w) < count) → list_all (λ (l : Lit). nat_lt (node_of l) count) (map (lit_of n) ws) ≡ true
lits_each n count [] h = refl
lits_each n count (w ∷ ws) h =
    and_from (nat_lt (node_of (lit_of n w)) count) (list_all (λ (l : Lit). nat_lt (node_of l) count) (map (lit_of n) ws)) (lt-ltb _ _ (h w (has_head w ws)))
    (lits_each n count ws (λ x t. h x (has_tail w x ws t)))

split_all : (p : Row → Bool) (xs ys : List Row) → list_all p (xs ++ ys) ≡ true → list_all p ys ≡ true
split_all p [] ys h = h
split_all p (x ∷ xs) ys h = split_all p xs ys (and_parts (p x) (list_all p (xs ++ ys)) h).1

join_all : (p : Row → Bool) (xs ys : List Row) → list_all p xs ≡ true → list_all p ys ≡ true → list_all p (xs ++ ys) ≡ true
join_all p [] ys h k = k
join_all p (x ∷ xs) ys h k = let q = and_parts (p x) (list_all p xs) h in and_from (p x) (list_all p (xs ++ ys)) q.0 (join_all p xs ys q.1 k)

sources_within : (count : ℕ) (ws : List (List ℕ)) → list_all (refs_below count) (map source_row ws) ≡ true
sources_within count [] = refl
sources_within count (w ∷ ws) = sources_within count ws

-- as many rows as the graph has
pub needing_count : NetworkOfGraph → (g : Network) → length (needing_rows (network_of g)) ≡ length g.body.rows
needing_count law g =
    let n : Netlist = network_of g in
    let free : List (List ℕ) = free_signals n.frame in
    let outs : List (List ℕ) = map latch_output n.frame.latches in
    let gates : List Row = map (row_of (node_names n)) (and_tables n) in
    let latches : List Row = map (latch_row n) n.frame.latches in
    let front : List Row = Source ∷ map source_row free in
    let old : length g.body.rows ≡ length (Source ∷ map source_row (sources n.frame)) + length gates = ap length (sym (spells law g).same_rows) ∙ length-append (Source ∷ map source_row (sources n.frame)) gates in
    let many : length (sources n.frame) ≡ length free + length outs = ap length (sym (sources_are n.frame)) ∙ length-append free outs in
    let new : length (front ++ (latches ++ gates)) ≡ length front + (length latches + length gates) = length-append front (latches ++ gates) ∙ ap (λ (k : ℕ). length front + k) (length-append latches gates) in
    omega (arith, old, many, new, length-map (sources n.frame) source_row, length-map free source_row, length-map n.frame.latches latch_output, length-map n.frame.latches (latch_row n))

pub needing_within : NetworkOfGraph → (g : Network) → refs_within (needing_rows (network_of g)) ≡ true
needing_within law g =
    let n : Netlist = network_of g in
    let count : ℕ = length g.body.rows in
    let outs : List (List ℕ) = n.frame.outputs in
    let reads : List (List ℕ) = flat_map latch_reads n.frame.latches in
    let gates : List Row = map (row_of (node_names n)) (and_tables n) in
    let was : list_all (refs_below count) ((Source ∷ map source_row (sources n.frame)) ++ gates) ≡ true =
    ap (λ (rows : List Row). list_all (refs_below count) rows) (spells law g).same_rows ∙ hashed_within (length (sources n.frame)) g.body.rows g.graph.hashed in
    ap (λ (k : ℕ). list_all (refs_below k) (needing_rows n)) (needing_count law g)
    ∙ join_all (refs_below count) (Source ∷ map source_row (free_signals n.frame)) (map (latch_row n) n.frame.latches ++ gates) (sources_within count (free_signals n.frame))
    (join_all (refs_below count) (map (latch_row n) n.frame.latches) gates
    (each_within n count n.frame.latches (λ w t. lit_within law g w (among_firsts (outs ++ reads) w (has_right outs reads w t))))
    (split_all (refs_below count) (Source ∷ map source_row (sources n.frame)) gates was))

pub outputs_within : NetworkOfGraph → (g : Network) → lits_within (needing_rows (network_of g)) (output_lits (network_of g)) ≡ true
outputs_within law g =
    let n : Netlist = network_of g in
    let outs : List (List ℕ) = n.frame.outputs in
    let reads : List (List ℕ) = flat_map latch_reads n.frame.latches in
    ap (λ (k : ℕ). list_all (λ (l : Lit). nat_lt (node_of l) k) (output_lits n)) (needing_count law g)
    ∙ lits_each n (length g.body.rows) outs (λ w t. lit_within law g w (among_firsts (outs ++ reads) w (has_left outs reads w t)))
