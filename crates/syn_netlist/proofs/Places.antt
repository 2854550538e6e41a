-- Lists of numbers of distinct names, and the lists of words that they stand for.
use Rattle.std.proofs.Common.{◌≡◌, ℕ, zero, suc, ◌<◌, ◌||◌, not, nat_eq, nat_lt, Bool, true, List, [], ◌∷◌, ◌++◌, length, get_or, map, flat_map, filter, bytes_eq, refl, sym, ap, ap₂, ◌∙◌, subst, inl, inr, arith, Option, Some, None}
use Rattle.std.proofs.lemmas.Bool.{and_parts, and_from, cases_Bool, cond-true, cond-false, ltb-true, lt-ltb, not_from_false, not_from_true, both_ways, false_from_ne_true}
use Rattle.std.proofs.lemmas.Bool.Decides.{eqb_tells}
use Rattle.std.proofs.lemmas.List.{map-append}
use Rattle.syn_netlist.specs.declared.LatchKind.{LatchKind}
use Rattle.syn_netlist.specs.declared.Latch.{Latch}
use Rattle.syn_netlist.specs.Kept.{latch_in, latches_below, latch_numbers, control_number, frame_of}
use Rattle.syn_netlist.specs.Lists.{latch_output, latch_reads, control_of, sources, observed}
use Rattle.syn_netlist.specs.Marks.{first_numbers, output_number, read_numbers, source_numbers, observed_numbers}
use Rattle.syn_lists.specs.Numbers.{has_number, without_numbers}
use Rattle.syn_netlist.specs.Numbers.{word_at, words_at, all_below, kind_at}
use Rattle.syn_netlist.specs.Words.{has_word, distinct, without, firsts}
use Rattle.syn_netlist.proofs.Sets.{same_word, word_same, has_head, has_tail, distinct_head}

pub has_word_at : (names : List (List ℕ)) (i : ℕ) → i < length names → has_word names (word_at names i) ≡ true
has_word_at [] i lt = absurd (omega arith)
has_word_at (w ∷ ws) zero lt = has_head w ws
has_word_at (w ∷ ws) (suc i) lt = has_tail w (word_at ws i) ws (has_word_at ws i (omega arith))

-- distinct names have distinct numbers
pub one_number : (names : List (List ℕ)) (i j : ℕ) → distinct names ≡ true → i < length names → j < length names → word_at names i ≡ word_at names j → i ≡ j
one_number [] i j d li lj e = absurd (omega arith)
one_number (w ∷ ws) zero zero d li lj e = refl
one_number (w ∷ ws) zero (suc j) d li lj e = absurd (both_ways (has_word ws w) (distinct_head w ws d) (subst (λ x. has_word ws x ≡ true) (sym e) (has_word_at ws j (omega arith))))
one_number (w ∷ ws) (suc i) zero d li lj e = absurd (both_ways (has_word ws w) (distinct_head w ws d) (subst (λ x. has_word ws x ≡ true) e (has_word_at ws i (omega arith))))
one_number (w ∷ ws) (suc i) (suc j) d li lj e = ap suc (one_number ws i j (and_parts (not (has_word ws w)) (distinct ws) d).1 (omega arith) (omega arith) e)

pub same_number : (names : List (List ℕ)) (i j : ℕ) → distinct names ≡ true → i < length names → j < length names → bytes_eq (word_at names i) (word_at names j) ≡ nat_eq i j
same_number names i j d li lj = elim (eqb_tells i j) [
  | inl (t, e) ↦ ap (λ k. bytes_eq (word_at names i) (word_at names k)) (sym e) ∙ word_same (word_at names i) ∙ sym t
  | inr (t, e) ↦ false_from_ne_true (bytes_eq (word_at names i) (word_at names j)) (λ h. e (one_number names i j d li lj (same_word (word_at names i) (word_at names j) h))) ∙ sym t
]

pub below_parts : (n i : ℕ) (is : List ℕ) → all_below n (i ∷ is) ≡ true → (i < n) × (all_below n is ≡ true)
below_parts n i is h = let parts = and_parts (nat_lt i n) (all_below n is) h in (ltb-true i n parts.0, parts.1)

pub below_from : (n i : ℕ) (is : List ℕ) → i < n → all_below n is ≡ true → all_below n (i ∷ is) ≡ true
below_from n i is lt h = and_from (nat_lt i n) (all_below n is) (lt-ltb i n lt) h

pub below_at : (count : ℕ) (xs : List ℕ) (j : ℕ) → all_below count xs ≡ true → j < length xs → get_or xs j 0 < count
below_at count [] j b lt = absurd (omega arith)
below_at count (x ∷ xs) zero b lt = (below_parts count x xs b).0
below_at count (x ∷ xs) (suc j) b lt = below_at count xs j (below_parts count x xs b).1 (omega arith)

pub all_below-append : (n : ℕ) (is js : List ℕ) → all_below n is ≡ true → all_below n js ≡ true → all_below n (is ++ js) ≡ true
all_below-append n [] js h k = k
all_below-append n (i ∷ is) js h k = let (lt, rest) = below_parts n i is h in below_from n i (is ++ js) lt (all_below-append n is js rest k)

all_below-filter : (n : ℕ) (p : ℕ → Bool) (is : List ℕ) → all_below n is ≡ true → all_below n (filter p is) ≡ true
all_below-filter n p [] h = refl
all_below-filter n p (i ∷ is) h =
    let (lt, rest) = below_parts n i is h in
    elim (cases_Bool (p i)) [
      | inl e ↦ ap (all_below n) (cond-true (p i) (i ∷ filter p is) (filter p is) e) ∙ below_from n i (filter p is) lt (all_below-filter n p is rest)
      | inr e ↦ ap (all_below n) (cond-false (p i) (i ∷ filter p is) (filter p is) e) ∙ all_below-filter n p is rest
    ]

pub all_below-without : (n : ℕ) (others numbers : List ℕ) → all_below n numbers ≡ true → all_below n (without_numbers others numbers) ≡ true
all_below-without n others numbers h = all_below-filter n (λ i. not (has_number others i)) numbers h

pub all_below-firsts : (n : ℕ) (numbers : List ℕ) → all_below n numbers ≡ true → all_below n (first_numbers numbers) ≡ true
all_below-firsts n [] h = refl
all_below-firsts n (i ∷ is) h = let (lt, rest) = below_parts n i is h in below_from n i (without_numbers (i ∷ []) (first_numbers is)) lt (all_below-without n (i ∷ []) (first_numbers is) (all_below-firsts n is rest))

pub has_words : (names : List (List ℕ)) (numbers : List ℕ) (i : ℕ) → distinct names ≡ true → all_below (length names) numbers ≡ true → i < length names → has_word (words_at names numbers) (word_at names i) ≡ has_number numbers i
has_words names [] i d h lt = refl
has_words names (n ∷ ns) i d h lt = let (here, rest) = below_parts (length names) n ns h in ap₂ (λ (a b : Bool). a || b) (same_number names n i d here lt) (has_words names ns i d rest lt)

pub words_at-without : (names : List (List ℕ)) (others numbers : List ℕ) → distinct names ≡ true → all_below (length names) others ≡ true → all_below (length names) numbers ≡ true
    → words_at names (without_numbers others numbers) ≡ without (words_at names others) (words_at names numbers)
words_at-without names others [] d ho h = refl
words_at-without names others (n ∷ ns) d ho h =
    let (lt, rest) = below_parts (length names) n ns h in
    let again = words_at-without names others ns d ho rest in
    let test = has_words names others n d ho lt in
    elim (cases_Bool (has_number others n)) [
      | inl e ↦ ap (words_at names) (cond-false (not (has_number others n)) (n ∷ without_numbers others ns) (without_numbers others ns) (not_from_true (has_number others n) e)) ∙ again
          ∙ sym (cond-false (not (has_word (words_at names others) (word_at names n))) (word_at names n ∷ without (words_at names others) (words_at names ns)) (without (words_at names others) (words_at names ns)) (not_from_true (has_word (words_at names others) (word_at names n)) (test ∙ e)))
      | inr e ↦ ap (words_at names) (cond-true (not (has_number others n)) (n ∷ without_numbers others ns) (without_numbers others ns) (not_from_false (has_number others n) e)) ∙ ap (λ (l : List (List ℕ)). word_at names n ∷ l) again
          ∙ sym (cond-true (not (has_word (words_at names others) (word_at names n))) (word_at names n ∷ without (words_at names others) (words_at names ns)) (without (words_at names others) (words_at names ns)) (not_from_false (has_word (words_at names others) (word_at names n)) (test ∙ e)))
    ]

pub words_at-firsts : (names : List (List ℕ)) (numbers : List ℕ) → distinct names ≡ true → all_below (length names) numbers ≡ true → words_at names (first_numbers numbers) ≡ firsts (words_at names numbers)
words_at-firsts names [] d h = refl
words_at-firsts names (n ∷ ns) d h =
    let (lt, rest) = below_parts (length names) n ns h in
    ap (λ (l : List (List ℕ)). word_at names n ∷ l)
    (words_at-without names (n ∷ []) (first_numbers ns) d (below_from (length names) n [] lt refl) (all_below-firsts (length names) ns rest) ∙ ap (without (word_at names n ∷ [])) (words_at-firsts names ns d rest))

-- latches

outputs_below : (n : ℕ) (latches : List Latch) → latches_below n latches ≡ true → all_below n (map output_number latches) ≡ true
outputs_below n [] h = refl
outputs_below n (l ∷ ls) h =
    let parts = and_parts (all_below n (latch_numbers l)) (latches_below n ls) h in
    let (feed, more) = below_parts n l.feed (l.output ∷ control_number l.kind) parts.0 in
    let (output, control) = below_parts n l.output (control_number l.kind) more in
    below_from n l.output (map output_number ls) output (outputs_below n ls parts.1)

pub reads_below : (n : ℕ) (latches : List Latch) → latches_below n latches ≡ true → all_below n (flat_map read_numbers latches) ≡ true
reads_below n [] h = refl
reads_below n (l ∷ ls) h =
    let parts = and_parts (all_below n (latch_numbers l)) (latches_below n ls) h in
    let (feed, more) = below_parts n l.feed (l.output ∷ control_number l.kind) parts.0 in
    let (output, control) = below_parts n l.output (control_number l.kind) more in
    all_below-append n (read_numbers l) (flat_map read_numbers ls) (below_from n l.feed (control_number l.kind) feed control) (reads_below n ls parts.1)

words_at-outputs : (names : List (List ℕ)) (latches : List Latch) → words_at names (map output_number latches) ≡ map latch_output (map (latch_in names) latches)
words_at-outputs names [] = refl
words_at-outputs names (l ∷ ls) = ap (λ (ws : List (List ℕ)). word_at names l.output ∷ ws) (words_at-outputs names ls)

pub words_at-control : (names : List (List ℕ)) (kind : Option (LatchKind × Option ℕ)) → words_at names (control_number kind) ≡ control_of (kind_at names kind)
words_at-control names None = refl
words_at-control names (Some (kind, None)) = refl
words_at-control names (Some (kind, Some i)) = refl

pub words_at-reads : (names : List (List ℕ)) (latches : List Latch) → words_at names (flat_map read_numbers latches) ≡ flat_map latch_reads (map (latch_in names) latches)
words_at-reads names [] = refl
words_at-reads names (l ∷ ls) =
    map-append (word_at names) (read_numbers l) (flat_map read_numbers ls)
    ∙ ap₂ (λ (a b : List (List ℕ)). a ++ b) (ap (λ (c : List (List ℕ)). word_at names l.feed ∷ c) (words_at-control names l.kind)) (words_at-reads names ls)

-- the sources and the observed signals of a frame

pub sources_below : (n : ℕ) (inputs clocks : List ℕ) (latches : List Latch) → all_below n inputs ≡ true → all_below n clocks ≡ true → latches_below n latches ≡ true → all_below n (source_numbers inputs clocks latches) ≡ true
sources_below n inputs clocks latches hi hc hl =
    all_below-append n inputs (without_numbers inputs clocks ++ map output_number latches) hi
    (all_below-append n (without_numbers inputs clocks) (map output_number latches) (all_below-without n inputs clocks hc) (outputs_below n latches hl))

pub words_at-sources : (names : List (List ℕ)) (model : List ℕ) (inputs clocks outputs : List ℕ) (latches : List Latch) → distinct names ≡ true → all_below (length names) inputs ≡ true → all_below (length names) clocks ≡ true
    → words_at names (source_numbers inputs clocks latches) ≡ sources (frame_of names model inputs clocks outputs latches)
words_at-sources names model inputs clocks outputs latches d hi hc =
    map-append (word_at names) inputs (without_numbers inputs clocks ++ map output_number latches)
    ∙ ap (λ (l : List (List ℕ)). words_at names inputs ++ l)
    (map-append (word_at names) (without_numbers inputs clocks) (map output_number latches)
    ∙ ap₂ (λ (a b : List (List ℕ)). a ++ b) (words_at-without names inputs clocks d hi hc) (words_at-outputs names latches))

pub observed_below : (n : ℕ) (outputs : List ℕ) (latches : List Latch) → all_below n outputs ≡ true → latches_below n latches ≡ true → all_below n (observed_numbers outputs latches) ≡ true
observed_below n outputs latches ho hl = all_below-firsts n (outputs ++ flat_map read_numbers latches) (all_below-append n outputs (flat_map read_numbers latches) ho (reads_below n latches hl))

pub words_at-observed : (names : List (List ℕ)) (model : List ℕ) (inputs clocks outputs : List ℕ) (latches : List Latch) → distinct names ≡ true → all_below (length names) outputs ≡ true → latches_below (length names) latches ≡ true
    → words_at names (observed_numbers outputs latches) ≡ observed (frame_of names model inputs clocks outputs latches)
words_at-observed names model inputs clocks outputs latches d ho hl =
    words_at-firsts names (outputs ++ flat_map read_numbers latches) d (all_below-append (length names) outputs (flat_map read_numbers latches) ho (reads_below (length names) latches hl))
    ∙ ap firsts (map-append (word_at names) outputs (flat_map read_numbers latches) ∙ ap (λ (l : List (List ℕ)). words_at names outputs ++ l) (words_at-reads names latches))
