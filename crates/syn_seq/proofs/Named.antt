-- Literals by numbers of names.
use Rattle.std.proofs.Common.{◌≡◌, ℕ, suc, ◌+◌, ◌<◌, true, false, List, [], ◌∷◌, ◌++◌, length, map, flat_map, get_or, set, bytes_eq, refl, sym, ap, ap₂, ◌∙◌, subst, inl, inr, arith}
use Rattle.std.proofs.lemmas.Bool.{both_ways, cases_lt, or_cases}
use Rattle.std.proofs.lemmas.Bool.Decides.{eqb_tells}
use Rattle.std.proofs.lemmas.List.{get_or-map, get_or-set_same, get_or-set_other, length-map}
use Rattle.syn_rows.specs.declared.Lit.{Lit}
use Rattle.syn_netlist.specs.Frames.{frame_in}
use Rattle.syn_netlist.specs.Lists.{Netlist, latch_reads, observed}
use Rattle.syn_netlist.specs.Numbers.{all_below, word_at, words_at}
use Rattle.syn_netlist.specs.Words.{distinct, has_word}
use Rattle.syn_netlist.proofs.Places.{below_at, below_parts, one_number}
use Rattle.syn_netlist.proofs.Sets.{has_head, has_left, has_tail, same_word}
use Rattle.syn_network.specs.GraphShape.{lit_of}
use Rattle.syn_network.specs.declared.networks.Network.{Network}
use Rattle.syn_network.specs.Written.{network_of}
use Rattle.syn_seq.specs.Code.{AreLits, AreLitsBy, lit_in}
use Rattle.syn_seq.specs.Sweeping.{output_lits}
use Rattle.syn_seq.proofs.Alike.{among_firsts}

abbrev no_lit : Lit
no_lit = record { 0 = 0 }

pub placed : (f : ℕ → Lit) (numbers : List ℕ) (lits found : List Lit) (i : ℕ) → all_below (length found) numbers ≡ true → i < length numbers → get_or lits i no_lit ≡ f (get_or numbers i 0)
    → ((k : ℕ) → k < i → lit_in found (get_or numbers k 0) ≡ f (get_or numbers k 0)) → (k : ℕ) → k < i + 1 → lit_in (set found (get_or numbers i 0) (get_or lits i no_lit)) (get_or numbers k 0) ≡ f (get_or numbers k 0)
placed f numbers lits found i b lt e h k lk = elim (eqb_tells (get_or numbers k 0) (get_or numbers i 0)) [
  | inl (t, s) ↦
      ap (λ m. lit_in (set found (get_or numbers i 0) (get_or lits i no_lit)) m) s
      ∙ get_or-set_same found (get_or numbers i 0) (get_or lits i no_lit) no_lit (below_at (length found) numbers i b lt) ∙ e ∙ ap f (sym s)
  | inr (t, s) ↦ elim (cases_lt k i) [
    | inl less ↦ get_or-set_other found (get_or numbers i 0) (get_or numbers k 0) (get_or lits i no_lit) no_lit s ∙ h k less
    | inr past ↦ absurd (s (ap (λ m. get_or numbers m 0) (let p : k ≡ i = omega (arith, past, lk) in p)))
  ]
]

pub known : (lit : List ℕ → Lit) (lits : List Lit) (names : List (List ℕ)) (words : List (List ℕ)) (numbers : List ℕ) → lits ≡ map lit words → words_at names numbers ≡ words → (i : ℕ) → i < length numbers → get_or lits i no_lit ≡ lit (word_at names (get_or numbers i 0))
known lit lits names words numbers l e i lt =
    let all : lits ≡ map lit (map (word_at names) numbers) = l ∙ ap (map lit) (sym e) in
    let inside : i < length (map (word_at names) numbers) = omega (arith, length-map numbers (word_at names), lt) in
    ap (λ (ls : List Lit). get_or ls i no_lit) all ∙ get_or-map lit (map (word_at names) numbers) i [] no_lit inside ∙ ap lit (get_or-map (word_at names) numbers i 0 [] lt)

-- a word among those of numbers has its place
record FoundAt (names : List (List ℕ)) (numbers : List ℕ) (w : List ℕ) : Type 0 where
  place : ℕ
  inside : place < length numbers
  is : word_at names (get_or numbers place 0) ≡ w

found_at : (names : List (List ℕ)) (numbers : List ℕ) (w : List ℕ) → has_word (words_at names numbers) w ≡ true → FoundAt names numbers w
found_at names [] w h = absurd (both_ways false refl h)
found_at names (n ∷ ns) w h = elim (or_cases (bytes_eq (word_at names n) w) (has_word (words_at names ns) w) h) [
  | inl e ↦ record { place = 0; inside = omega arith; is = same_word (word_at names n) w e }
  | inr e ↦ let f = found_at names ns w e in record { place = suc f.place; inside = omega (arith, f.inside); is = f.is }
]

pub lits_are : (lit : List ℕ → Lit) (g : Network) (numbers : List ℕ) (found : List Lit) → words_at g.frame.names numbers ≡ observed (frame_in g.frame) → all_below (length g.frame.names) numbers ≡ true → distinct g.frame.names ≡ true
    → ((k : ℕ) → k < length numbers → lit_in found (get_or numbers k 0) ≡ lit (word_at g.frame.names (get_or numbers k 0))) → AreLitsBy lit (network_of g) g.frame.names found
lits_are lit g numbers found e b d h i lt t =
    let names : List (List ℕ) = g.frame.names in
    let f = found_at names numbers (word_at names i) (subst (λ (ws : List (List ℕ)). has_word ws (word_at names i) ≡ true) (sym e) t) in
    let same : get_or numbers f.place 0 ≡ i = one_number names (get_or numbers f.place 0) i d (below_at (length names) numbers f.place b f.inside) lt f.is in
    subst (λ (m : ℕ). lit_in found m ≡ lit (word_at names m)) same (h f.place f.inside)

pub each_lit : (n : Netlist) (names : List (List ℕ)) (lits : List Lit) → AreLits n names lits → (is : List ℕ) → all_below (length names) is ≡ true → ((w : List ℕ) → has_word (words_at names is) w ≡ true → has_word (observed n.frame) w ≡ true)
    → map (lit_in lits) is ≡ map (lit_of n) (words_at names is)
each_lit n names lits k [] b h = refl
each_lit n names lits k (i ∷ is) b h =
    let p = below_parts (length names) i is b in
    ap₂ (λ (x : Lit) (xs : List Lit). x ∷ xs) (k i p.0 (h (word_at names i) (has_head (word_at names i) (words_at names is))))
    (each_lit n names lits k is p.1 (λ w t. h w (has_tail (word_at names i) w (words_at names is) t)))

pub outputs_are : (g : Network) (lits : List Lit) → AreLits (network_of g) g.frame.names lits → map (lit_in lits) g.frame.outputs ≡ output_lits (network_of g)
outputs_are g lits k =
    let outs : List (List ℕ) = words_at g.frame.names g.frame.outputs in
    let reads : List (List ℕ) = flat_map latch_reads (frame_in g.frame).latches in
    each_lit (network_of g) g.frame.names lits k g.frame.outputs g.frame.outputs_below (λ w t. among_firsts (outs ++ reads) w (has_left outs reads w t))
