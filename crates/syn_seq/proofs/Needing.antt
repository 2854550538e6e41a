-- The rows in which latches need what they read, by the graph's rows and the literals of numbers.
use Rattle.std.proofs.Common.{◌≡◌, ℕ, ◌+◌, ◌-◌, true, List, [], ◌∷◌, ◌++◌, length, map, flat_map, take, drop, refl, sym, ap, ap₂, ◌∙◌, subst, arith, Option, Some, None, append_assoc}
use Rattle.std.proofs.lemmas.Bool.{and_parts}
use Rattle.std.proofs.lemmas.List.{drop_at, length-append, length-map, map-append, take_at}
use Rattle.syn_rows.specs.declared.Lit.{Lit}
use Rattle.syn_rows.specs.declared.Row.{Row}
use Rattle.syn_rows.specs.declared.Row.TheVariants.{Source, And, Alias}
use Rattle.syn_netlist.specs.declared.LatchKind.{LatchKind}
use Rattle.syn_netlist.specs.declared.Latch.{Latch}
use Rattle.syn_netlist.specs.Frames.{frame_in}
use Rattle.syn_netlist.specs.Kept.{control_number, latch_in, latch_numbers, latches_below}
use Rattle.syn_netlist.specs.Lists as lists
use Rattle.syn_netlist.specs.Lists.{Netlist, control_of, latch_output, latch_reads, observed, sources}
use Rattle.syn_netlist.specs.Numbers.{all_below, kind_at, word_at, words_at}
use Rattle.syn_netlist.specs.Words.{has_word}
use Rattle.syn_netlist.proofs.Places.{below_parts, words_at-control}
use Rattle.syn_netlist.proofs.Sets.{has_head, has_left, has_right, has_tail}
use Rattle.syn_network.specs.GraphShape.{and_tables, lit_of, node_names, row_of, source_row}
use Rattle.syn_network.specs.Spelling.{NetworkOfGraph}
use Rattle.syn_network.specs.declared.networks.Network.{Network}
use Rattle.syn_network.specs.Written.{network_of}
use Rattle.syn_seq.specs.Code.{AreLits, lit_in, needs_by, row_by}
use Rattle.syn_seq.specs.Runs.{free_signals}
use Rattle.syn_seq.specs.Sweeping.{latch_row, needing_rows, needs_of}
use Rattle.syn_seq.proofs.Alike.{among_firsts, sources_are}
use Rattle.syn_seq.proofs.Sweeps.{spells}

row_same : (n : Netlist) (names : List (List ℕ)) (lits : List Lit) (l : lists.Latch) (feed : ℕ) (kind : Option (LatchKind × Option ℕ)) → lit_in lits feed ≡ lit_of n l.feed → ((i : ℕ) → control_number kind ≡ i ∷ [] → lit_in lits i ≡ lit_of n (word_at names i))
    → needs_by lits feed (control_number kind) ≡ needs_of n l (control_of (kind_at names kind))
row_same n names lits l feed None f c = ap Alias f
row_same n names lits l feed (Some (k, None)) f c = ap Alias f
row_same n names lits l feed (Some (k, Some i)) f c = ap₂ And f (c i refl)

each_row : (n : Netlist) (names : List (List ℕ)) (lits : List Lit) → AreLits n names lits → (ls : List Latch) → latches_below (length names) ls ≡ true → ((w : List ℕ) → has_word (flat_map latch_reads (map (latch_in names) ls)) w ≡ true → has_word (observed n.frame) w ≡ true)
    → map (row_by lits) ls ≡ map (latch_row n) (map (latch_in names) ls)
each_row n names lits k [] b h = refl
each_row n names lits k (l ∷ ls) b h =
    let p = and_parts (all_below (length names) (latch_numbers l)) (latches_below (length names) ls) b in
    let feed = below_parts (length names) l.feed (l.output ∷ control_number l.kind) p.0 in
    let output = below_parts (length names) l.output (control_number l.kind) feed.1 in
    let reads : List (List ℕ) = latch_reads (latch_in names l) in
    let rest : List (List ℕ) = flat_map latch_reads (map (latch_in names) ls) in
    ap₂ (λ (x : Row) (xs : List Row). x ∷ xs)
    (row_same n names lits (latch_in names l) l.feed l.kind
    (k l.feed feed.0 (h (word_at names l.feed) (has_left reads rest (word_at names l.feed) (has_head (word_at names l.feed) (control_of (kind_at names l.kind))))))
    (λ i e. k i
    (below_parts (length names) i [] (subst (λ (is : List ℕ). all_below (length names) is ≡ true) e output.1)).0
    (h (word_at names i) (has_left reads rest (word_at names i) (has_tail (word_at names l.feed) (word_at names i) (control_of (kind_at names l.kind))
    (subst (λ (ws : List (List ℕ)). has_word ws (word_at names i) ≡ true) (ap (words_at names) (sym e) ∙ words_at-control names l.kind) (has_head (word_at names i) [])))))))
    (each_row n names lits k ls p.1 (λ w t. h w (has_right reads rest w t)))

pub latch_rows_are : (g : Network) (lits : List Lit) → AreLits (network_of g) g.frame.names lits → map (row_by lits) g.frame.latches ≡ map (latch_row (network_of g)) (frame_in g.frame).latches
latch_rows_are g lits k =
    let outs : List (List ℕ) = words_at g.frame.names g.frame.outputs in
    let reads : List (List ℕ) = flat_map latch_reads (frame_in g.frame).latches in
    each_row (network_of g) g.frame.names lits k g.frame.latches g.frame.latches_below (λ w t. among_firsts (outs ++ reads) w (has_right outs reads w t))

parts_are : (front outs gates rows needs : List Row) (first end : ℕ) → rows ≡ (front ++ outs) ++ gates → length front ≡ first → length (front ++ outs) ≡ end → take first rows ++ (needs ++ drop end rows) ≡ front ++ (needs ++ gates)
parts_are front outs gates rows needs first end e f n =
    ap₂ (λ (x y : List Row). x ++ (needs ++ y))
    (ap (take first) (e ∙ append_assoc front outs gates) ∙ take_at front (outs ++ gates) first f)
    (ap (drop end) e ∙ drop_at (front ++ outs) gates end n)

pub needing_are : NetworkOfGraph → (g : Network) (lits : List Lit) → AreLits (network_of g) g.frame.names lits → (all needs : List Row) (ls : List Latch) → all ≡ g.body.rows → needs ≡ map (row_by lits) ls → ls ≡ g.frame.latches
    → take (g.body.source_count + 1 - length ls) all ++ (needs ++ drop (g.body.source_count + 1) all) ≡ needing_rows (network_of g)
needing_are law g lits k all needs ls ea en el =
    let n : Netlist = network_of g in
    let free : List (List ℕ) = free_signals n.frame in
    let outs : List (List ℕ) = map latch_output n.frame.latches in
    let front : List Row = Source ∷ map source_row free in
    let back : List Row = map source_row outs in
    let gates : List Row = map (row_of (node_names n)) (and_tables n) in
    let split : Source ∷ map source_row (sources n.frame) ≡ front ++ back = ap (λ (ws : List (List ℕ)). Source ∷ map source_row ws) (sym (sources_are n.frame)) ∙ ap (λ (x : List Row). Source ∷ x) (map-append source_row free outs) in
    let rows : all ≡ (front ++ back) ++ gates = ea ∙ sym (spells law g).same_rows ∙ ap (λ (x : List Row). x ++ gates) split in
    let long : length (free ++ outs) ≡ g.body.source_count = ap length (sources_are n.frame) ∙ sym g.named.sources_are in
    let many : length free + length outs ≡ g.body.source_count = sym (length-append free outs) ∙ long in
    let latches : length outs ≡ length ls = length-map n.frame.latches latch_output ∙ length-map g.frame.latches (latch_in g.frame.names) ∙ ap length (sym el) in
    let first : length front ≡ g.body.source_count + 1 - length ls = omega (arith, many, latches, length-map free source_row) in
    let end : length (front ++ back) ≡ g.body.source_count + 1 = length-append front back ∙ omega (arith, many, length-map free source_row, length-map outs source_row) in
    let rows_needed : needs ≡ map (latch_row n) n.frame.latches = en ∙ ap (map (row_by lits)) el ∙ latch_rows_are g lits k in
    parts_are front back gates all needs (g.body.source_count + 1 - length ls) (g.body.source_count + 1) rows first end ∙ ap (λ (x : List Row). front ++ (x ++ gates)) rows_needed
