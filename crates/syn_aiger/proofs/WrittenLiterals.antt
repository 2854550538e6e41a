-- The literals of names by their numbers: those of a graph's observed signals are placed, and read where a file has them.
use Rattle.std.proofs.Common.{◌≡◌, ℕ, zero, suc, ◌+◌, ◌*◌, ◌<◌, nat_eq, true, List, [], ◌∷◌, ◌++◌, length, map, flat_map, drop, get_or, set, refl, sym, ap, ap₂, ◌∙◌, inl, inr, arith}
use Rattle.std.proofs.lemmas.Bool.{and_parts, or_from}
use Rattle.std.proofs.lemmas.Bool.Decides.{eqb_tells}
use Rattle.std.proofs.lemmas.List.{drop_more, get_or-set_same, get_or-set_other}
use Rattle.syn_rows.specs.declared.Lit.{Lit}
use Rattle.syn_netlist.specs.declared.Latch.{Latch}
use Rattle.syn_netlist.specs.Frames.{frame_in}
use Rattle.syn_netlist.specs.Kept.{control_number, latch_in, latch_numbers, latches_below}
use Rattle.syn_netlist.specs.Lists.{Netlist, latch_reads, observed}
use Rattle.syn_lists.specs.Numbers.{has_number}
use Rattle.syn_netlist.specs.Numbers.{all_below, word_at, words_at}
use Rattle.syn_netlist.specs.Words.{distinct, has_word}
use Rattle.syn_netlist.proofs.Places.{below_parts, has_words}
use Rattle.syn_netlist.proofs.Sets.{has_head, has_left, has_right, has_tail}
use Rattle.syn_network.specs.GraphShape.{lit_of}
use Rattle.syn_network.specs.Spelling.{NetworkSpells}
use Rattle.syn_network.proofs.SpelledNetworks.{network_spells}
use Rattle.syn_network.specs.declared.networks.Network.{Network}
use Rattle.syn_network.specs.Written.{network_of}
use Rattle.syn_aiger_files.specs.declared.files.AigLatch.{AigLatch}
use Rattle.syn_aiger.specs.WrittenLists.{ArePlaced, HaveLiterals, latches_at, lit_number, literal_at}
use Rattle.syn_aiger.specs.Writing.{feed_of, latches_by, literal_in, reset_by}
use Rattle.syn_aiger.proofs.Kept.{among_firsts, feeds_read}

-- what the netlist of a graph spells
pub spells : (g : Network) → NetworkSpells (frame_in g.frame) g.body.rows g.body.observed
spells g = network_spells (frame_in g.frame) g.body.rows g.body.observed g.frame.clocks_once g.frame.sources_once g.graph

-- placing

value_beside : (f : ℕ → ℕ) (signals : List ℕ) (lits : List Lit) (i : ℕ) (d : Lit) → i < length signals → i < length lits → map f signals ≡ map lit_number lits → (get_or lits i d).0 ≡ f (get_or signals i 0)
value_beside f [] lits i d l m e = absurd (omega arith)
value_beside f (s ∷ ss) [] i d l m e = absurd (omega arith)
value_beside f (s ∷ ss) (x ∷ xs) zero d l m e = let p : f s ≡ x.0 = cc in sym p
value_beside f (s ∷ ss) (x ∷ xs) (suc i) d l m e = value_beside f ss xs i d (omega arith) (omega arith) (let p : map f ss ≡ map lit_number xs = cc in p)

pub placed_next : (signals : List ℕ) (lits : List Lit) (table : List ℕ) (i : ℕ) (d : Lit) → i < length signals → i < length lits → get_or signals i 0 < length table → ArePlaced signals lits (drop i signals) table
    → ArePlaced signals lits (drop (i + 1) signals) (set table (get_or signals i 0) (get_or lits i d).0)
placed_next signals lits table i d in_signals in_lits there h f e n has left =
    let s : ℕ = get_or signals i 0 in
    let v : ℕ = (get_or lits i d).0 in
    elim (eqb_tells s n) [
      | inl (t, same) ↦ ap (λ (k : ℕ). get_or (set table s v) k 0) (sym same) ∙ get_or-set_same table s v 0 there ∙ value_beside f signals lits i d in_signals in_lits e ∙ ap f same
      | inr (t, other) ↦ get_or-set_other table s n v 0 (λ (k : n ≡ s). other (sym k))
          ∙ h f e n has (ap (λ (l : List ℕ). has_number l n) (drop_more signals i 0 in_signals) ∙ or_from (nat_eq s n) (has_number (drop (i + 1) signals) n) t left)
    ]

lits_of_words : (m : Netlist) (names : List (List ℕ)) (ns : List ℕ) → map (λ n. literal_in m (word_at names n)) ns ≡ map lit_number (map (lit_of m) (words_at names ns))
lits_of_words m names [] = refl
lits_of_words m names (n ∷ ns) = ap (λ (ls : List ℕ). literal_in m (word_at names n) ∷ ls) (lits_of_words m names ns)

pub placed_are : (g : Network) (signals literals : List ℕ) → distinct g.frame.names ≡ true → words_at g.frame.names signals ≡ observed (frame_in g.frame) → all_below (length g.frame.names) signals ≡ true
    → ArePlaced signals g.body.observed [] literals → HaveLiterals (network_of g) g.frame.names (observed (frame_in g.frame)) literals
placed_are g signals literals once words below placed n lt has =
    let m : Netlist = network_of g in
    let names : List (List ℕ) = g.frame.names in
    let seen : has_number signals n ≡ true = sym (has_words names signals n once below lt) ∙ ap (λ (ws : List (List ℕ)). has_word ws (word_at names n)) words ∙ has in
    let beside : map (λ k. literal_in m (word_at names k)) signals ≡ map lit_number g.body.observed =
    lits_of_words m names signals ∙ ap (λ (ws : List (List ℕ)). map lit_number (map (lit_of m) ws)) words ∙ ap (map lit_number) (spells g).same_lits in
    placed (λ k. literal_in m (word_at names k)) beside n seen refl

-- reading

pub read_outputs : (m : Netlist) (names : List (List ℕ)) (literals ns : List ℕ) → HaveLiterals m names (words_at names ns) literals → all_below (length names) ns ≡ true → map (literal_at literals) ns ≡ map (literal_in m) (words_at names ns)
read_outputs m names literals [] h b = refl
read_outputs m names literals (n ∷ ns) h b =
    let (lt, rest) = below_parts (length names) n ns b in
    ap₂ (λ (l : ℕ) (ls : List ℕ). l ∷ ls) (h n lt (has_head (word_at names n) (words_at names ns)))
    (read_outputs m names literals ns (λ k l t. h k l (has_tail (word_at names n) (word_at names k) (words_at names ns) t)) rest)

pub read_latches : (m : Netlist) (names : List (List ℕ)) (literals : List ℕ) (variable : ℕ) (ls : List Latch) → HaveLiterals m names (map feed_of (map (latch_in names) ls)) literals → latches_below (length names) ls ≡ true
    → latches_at literals variable ls ≡ latches_by m variable (map (latch_in names) ls)
read_latches m names literals variable [] h b = refl
read_latches m names literals variable (l ∷ ls) h b =
    let parts = and_parts (all_below (length names) (latch_numbers l)) (latches_below (length names) ls) b in
    let (lt, rest) = below_parts (length names) l.feed (l.output ∷ control_number l.kind) parts.0 in
    let feeds : List (List ℕ) = map feed_of (map (latch_in names) ls) in
    ap₂ (λ (next : ℕ) (more : List AigLatch). let one : AigLatch = record { literal = 2 * variable; next = next; reset = reset_by (2 * variable) l.init } in one ∷ more)
    (h l.feed lt (has_head (word_at names l.feed) feeds))
    (read_latches m names literals (variable + 1) ls (λ k i t. h k i (has_tail (word_at names l.feed) (word_at names k) feeds t)) parts.1)

-- outputs and what latches load are observed

pub outputs_have : (m : Netlist) (names : List (List ℕ)) (literals : List ℕ) → HaveLiterals m names (observed m.frame) literals → HaveLiterals m names m.frame.outputs literals
outputs_have m names literals h n lt has =
    let reads : List (List ℕ) = flat_map latch_reads m.frame.latches in
    h n lt (among_firsts (m.frame.outputs ++ reads) (word_at names n) (has_left m.frame.outputs reads (word_at names n) has))

pub feeds_have : (m : Netlist) (names : List (List ℕ)) (literals : List ℕ) → HaveLiterals m names (observed m.frame) literals → HaveLiterals m names (map feed_of m.frame.latches) literals
feeds_have m names literals h n lt has =
    let reads : List (List ℕ) = flat_map latch_reads m.frame.latches in
    h n lt (among_firsts (m.frame.outputs ++ reads) (word_at names n) (has_right m.frame.outputs reads (word_at names n) (feeds_read m.frame.latches (word_at names n) has)))
