-- Fates that are right by keys are right, and where all are kept nothing is left to sweep.
use Rattle.std.proofs.Common.{◌≡◌, ℕ, zero, suc, ◌+◌, ◌-◌, ◌<◌, Bool, true, false, List, [], ◌∷◌, ◌++◌, length, map, flat_map, get_or, Option, Some, None, refl, sym, ap, ◌∙◌, subst, subst₂, inl, inr, arith}
use Rattle.std.proofs.lemmas.Bool.{both_ways, and_parts, cases_lt}
use Rattle.std.proofs.lemmas.List.{get_or_default, get_or-map, length-append, length-map}
use Rattle.std.proofs.lemmas.List.Elements.{All-from_get_or}
use Rattle.syn_rows.specs.declared.Lit.{Lit}
use Rattle.syn_rows.specs.Reach.{IsReachedSet, Reached}
use Rattle.syn_rows.specs.Values.{value_in}
use Rattle.syn_netlist.specs.declared.Latch.{Latch}
use Rattle.syn_netlist.specs.declared.LatchKind.{LatchKind}
use Rattle.syn_netlist.specs.Kept.{control_number, latch_in, latch_numbers, latches_below}
use Rattle.syn_netlist.specs.Numbers.{all_below, kind_at, word_at, words_at}
use Rattle.syn_netlist.proofs.Places.{below_parts, words_at-control}
use Rattle.syn_netlist.specs.Lists as lists
use Rattle.syn_netlist.specs.Lists.{Netlist, control_of, latch_output, latch_reads, observed, sources}
use Rattle.syn_netlist.specs.Words.{has_word}
use Rattle.syn_netlist.proofs.Sets.{has_head, has_right, has_tail}
use Rattle.syn_network.specs.Spelling.{NetworkOfGraph}
use Rattle.syn_network.specs.declared.networks.Network.{Network}
use Rattle.syn_network.specs.Written.{network_of}
use Rattle.syn_seq.specs.declared.keys.Key.{Key}
use Rattle.syn_seq.specs.Code.{AreAlikeLits, AreLits, all_kept, is_kept, lit_in}
use Rattle.syn_seq.specs.Keys.{AreFatesBy, IsFateBy, control_in, key_by, trigger_in, trigger_of}
use Rattle.syn_seq.specs.Rounds.{AreAlike, AreFates, KindsAlike, Dropped, Fate, IsFate, Kept, Merged, fate_at, latch_at, latch_node, no_latch as no_named_latch}
use Rattle.syn_seq.specs.Runs.{free_signals}
use Rattle.syn_seq.specs.Sweeping.{CanMerge, IsReachedLatch, IsSwept, needing_rows, output_lits}
use Rattle.syn_seq.proofs.Alike.{among_firsts, sources_are}
use Rattle.syn_seq.proofs.Keeping.{has_reads}
use Rattle.syn_seq.proofs.Loading.{alike, is_some, is_typed, key_in, keys_are, kind_same, lit_out, no_latch, output_node, same_key, typed}
use Rattle.syn_seq.proofs.Sweeps.{graphs_have_functions, spells}

-- what is computed of the latches of a graph before their fates
pub record IsFated (g : Network) (lits : List Lit) (needed : List Bool) (first : ℕ) (ls : List Latch) (fates : List Fate) : Type 0 where
  pub lits_are : AreLits (network_of g) g.frame.names lits
  pub needs : IsReachedSet (needing_rows (network_of g)) (output_lits (network_of g)) (value_in needed)
  pub latches : ls ≡ g.frame.latches
  pub first_is : first ≡ g.body.source_count + 1 - length ls
  pub count : length fates ≡ length ls
  pub fates_are : AreFatesBy (λ j. value_in needed (first + j)) (λ j. key_by lits (get_or ls j no_latch)) fates

many_latches : (g : Network) → length (network_of g).frame.latches ≡ length g.frame.latches
many_latches g = length-map g.frame.latches (latch_in g.frame.names)

-- the node of a latch
node_is : (g : Network) (first : ℕ) (j : ℕ) → first ≡ g.body.source_count + 1 - length g.frame.latches → first + j ≡ latch_node (network_of g) j
node_is g first j e =
    let n : Netlist = network_of g in
    let long : length (sources n.frame) ≡ length (free_signals n.frame) + length (map latch_output n.frame.latches) = ap length (sym (sources_are n.frame)) ∙ length-append (free_signals n.frame) (map latch_output n.frame.latches) in
    omega (arith, e, long, g.named.sources_are, length-map n.frame.latches latch_output, many_latches g)

key_at : (g : Network) (lits : List Lit) (needed : List Bool) (first : ℕ) (ls : List Latch) (fates : List Fate) → IsFated g lits needed first ls fates → (j : ℕ) → j < length fates → key_by lits (get_or ls j no_latch) ≡ key_in (network_of g) (latch_at (network_of g) j)
key_at g lits needed first ls fates f j lt =
    let inside : j < length g.frame.latches = omega (arith, lt, f.count, ap length f.latches) in
    ap (λ (x : List Latch). key_by lits (get_or x j no_latch)) f.latches ∙ keys_are g lits f.lits_are j inside

reads_there : (n : Netlist) (j : ℕ) → j < length n.frame.latches → (w : List ℕ) → has_word (latch_reads (latch_at n j)) w ≡ true → has_word (observed n.frame) w ≡ true
reads_there n j lt w t =
    let reads : List (List ℕ) = flat_map latch_reads n.frame.latches in
    among_firsts (n.frame.outputs ++ reads) w (has_right n.frame.outputs reads w (has_reads n.frame.latches j w lt t))

-- latch j, by number and in words
latch_is : (g : Network) (j : ℕ) → j < length g.frame.latches → latch_at (network_of g) j ≡ latch_in g.frame.names (get_or g.frame.latches j no_latch)
latch_is g j lt = get_or-map (latch_in g.frame.names) g.frame.latches j no_latch no_named_latch lt

numbers_below : (count : ℕ) (ls : List Latch) → latches_below count ls ≡ true → (j : ℕ) → j < length ls → all_below count (latch_numbers (get_or ls j no_latch)) ≡ true
numbers_below count [] h j lt = absurd (omega (arith, lt))
numbers_below count (l ∷ ls) h zero lt = (and_parts (all_below count (latch_numbers l)) (latches_below count ls) h).0
numbers_below count (l ∷ ls) h (suc j) lt = numbers_below count ls (and_parts (all_below count (latch_numbers l)) (latches_below count ls) h).1 j (omega (arith, lt))

-- the feed and the control of a latch are names that are there, of observed signals
record ReadsBy (g : Network) (l : Latch) : Type 0 where
  feed : l.feed < length g.frame.names
  fed : has_word (observed (network_of g).frame) (word_at g.frame.names l.feed) ≡ true
  control : (i : ℕ) → control_number l.kind ≡ i ∷ [] → i < length g.frame.names
  controlled : (i : ℕ) → control_number l.kind ≡ i ∷ [] → has_word (observed (network_of g).frame) (word_at g.frame.names i) ≡ true

reads_by : (g : Network) (j : ℕ) → j < length g.frame.latches → ReadsBy g (get_or g.frame.latches j no_latch)
reads_by g j lt =
    let names : List (List ℕ) = g.frame.names in
    let l : Latch = get_or g.frame.latches j no_latch in
    let below = numbers_below (length names) g.frame.latches g.frame.latches_below j lt in
    let feed = below_parts (length names) l.feed (l.output ∷ control_number l.kind) below in
    let output = below_parts (length names) l.output (control_number l.kind) feed.1 in
    let inside : j < length (network_of g).frame.latches = omega (arith, lt, many_latches g) in
    let there = λ (w : List ℕ) (t : has_word (latch_reads (latch_in names l)) w ≡ true). reads_there (network_of g) j inside w (subst (λ (x : lists.Latch). has_word (latch_reads x) w ≡ true) (sym (latch_is g j lt)) t) in
    record {
      feed = feed.0;
      fed = there (word_at names l.feed) (has_head (word_at names l.feed) (control_of (kind_at names l.kind)));
      control = λ i e. (below_parts (length names) i [] (subst (λ (is : List ℕ). all_below (length names) is ≡ true) e output.1)).0;
      controlled = λ i e. there (word_at names i) (has_tail (word_at names l.feed) (word_at names i) (control_of (kind_at names l.kind))
          (subst (λ (ws : List (List ℕ)). has_word ws (word_at names i) ≡ true) (ap (words_at names) (sym e) ∙ words_at-control names l.kind) (has_head (word_at names i) [])));
    }

kinds_by : (g : Network) (fates : List Fate) (lits : List Lit) → AreAlikeLits (network_of g) fates g.frame.names lits → (k l : Option (LatchKind × Option ℕ))
    → ((i : ℕ) → control_number k ≡ i ∷ [] → (i < length g.frame.names) × (has_word (observed (network_of g).frame) (word_at g.frame.names i) ≡ true))
    → ((i : ℕ) → control_number l ≡ i ∷ [] → (i < length g.frame.names) × (has_word (observed (network_of g).frame) (word_at g.frame.names i) ≡ true))
    → trigger_in k ≡ trigger_in l → control_in (lit_in lits) k ≡ control_in (lit_in lits) l → KindsAlike (network_of g) fates (kind_at g.frame.names k) (kind_at g.frame.names l)
unfolding is_typed
kinds_by g fates lits h None None hk hl t c = tt
kinds_by g fates lits h None (Some (b, None)) hk hl t c = absurd (both_ways (is_typed (trigger_of b)) (ap is_typed (sym t)) (typed b))
kinds_by g fates lits h None (Some (b, Some y)) hk hl t c = absurd (both_ways (is_typed (trigger_of b)) (ap is_typed (sym t)) (typed b))
kinds_by g fates lits h (Some (a, None)) None hk hl t c = absurd (both_ways (is_typed (trigger_of a)) (ap is_typed t) (typed a))
kinds_by g fates lits h (Some (a, None)) (Some (b, None)) hk hl t c = kind_same a b t
kinds_by g fates lits h (Some (a, None)) (Some (b, Some y)) hk hl t c = absurd (both_ways false refl (ap is_some c))
kinds_by g fates lits h (Some (a, Some x)) None hk hl t c = absurd (both_ways false refl (sym (ap is_some c)))
kinds_by g fates lits h (Some (a, Some x)) (Some (b, None)) hk hl t c = absurd (both_ways false refl (sym (ap is_some c)))
kinds_by g fates lits h (Some (a, Some x)) (Some (b, Some y)) hk hl t c = (kind_same a b t, h x y (hk x refl).0 (hl y refl).0 (hk x refl).1 (hl y refl).1 (ap lit_out c))

-- merged latches load alike
merged_right : (g : Network) (fates : List Fate) (lits : List Lit) (set : ℕ → Bool) → AreAlikeLits (network_of g) fates g.frame.names lits → (i j : ℕ) → i < j → j < length g.frame.latches → fate_at fates i ≡ Kept
    → key_by lits (get_or g.frame.latches i no_latch) ≡ key_by lits (get_or g.frame.latches j no_latch) → (get_or g.frame.latches j no_latch).init < 2 → IsFate (network_of g) fates set j (Merged i)
merged_right g fates lits set h i j ij lt kept same known =
    let n : Netlist = network_of g in
    let names : List (List ℕ) = g.frame.names in
    let less : i < length g.frame.latches = omega (arith, ij, lt) in
    let a : Latch = get_or g.frame.latches i no_latch in
    let b : Latch = get_or g.frame.latches j no_latch in
    let ra = reads_by g i less in
    let rb = reads_by g j lt in
    let feeds : AreAlike n fates (word_at names a.feed) (word_at names b.feed) = h a.feed b.feed ra.feed rb.feed ra.fed rb.fed (ap (λ (k : Key). k.feed) same) in
    let kinds : KindsAlike n fates (kind_at names a.kind) (kind_at names b.kind) =
    kinds_by g fates lits h a.kind b.kind (λ m e. (ra.control m e, ra.controlled m e)) (λ m e. (rb.control m e, rb.controlled m e)) (ap (λ (k : Key). k.trigger) same) (ap (λ (k : Key). k.control) same) in
    let starts : a.init ≡ b.init = ap (λ (k : Key). k.init) same in
    subst₂ (λ (x y : lists.Latch). (i < j) × (fate_at fates i ≡ Kept) × AreAlike n fates x.feed y.feed × KindsAlike n fates x.kind y.kind × (x.init ≡ y.init) × (y.init < 2)) (sym (latch_is g i less)) (sym (latch_is g j lt))
    (ij, kept, feeds, kinds, starts, known)

-- fates that are right by keys are right, where equal literals are alike
pub record IsFatedBy (g : Network) (lits : List Lit) (needed : List Bool) (first : ℕ) (ls : List Latch) (fates : List Fate) : Type 0 where
  pub alike_lits : AreAlikeLits (network_of g) fates g.frame.names lits
  pub needs : IsReachedSet (needing_rows (network_of g)) (output_lits (network_of g)) (value_in needed)
  pub latches : ls ≡ g.frame.latches
  pub first_is : first ≡ g.body.source_count + 1 - length ls
  pub count : length fates ≡ length ls
  pub right : (j : ℕ) → j < length fates → IsFateBy (λ j. value_in needed (first + j)) (λ j. key_by lits (get_or ls j no_latch)) fates j (fate_at fates j)

one_right : (g : Network) (lits : List Lit) (needed : List Bool) (first : ℕ) (ls : List Latch) (fates : List Fate) → IsFatedBy g lits needed first ls fates → (j : ℕ) → j < length fates → (f : Fate)
    → IsFateBy (λ j. value_in needed (first + j)) (λ j. key_by lits (get_or ls j no_latch)) fates j f → IsFate (network_of g) fates (value_in needed) j f
one_right g lits needed first ls fates f j lt Kept r = subst (λ (k : ℕ). value_in needed k ≡ true) (node_is g first j (f.first_is ∙ ap (λ (x : List Latch). g.body.source_count + 1 - length x) f.latches)) r
one_right g lits needed first ls fates f j lt (Merged i) r =
    let inside : j < length g.frame.latches = omega (arith, lt, f.count, ap length f.latches) in
    merged_right g fates lits (value_in needed) f.alike_lits i j r.0 inside r.1 (subst (λ (x : List Latch). key_by lits (get_or x i no_latch) ≡ key_by lits (get_or x j no_latch)) f.latches r.2)
    (subst (λ (x : List Latch). (key_by lits (get_or x j no_latch)).init < 2) f.latches r.3)
one_right g lits needed first ls fates f j lt Dropped r = subst (λ (k : ℕ). value_in needed k ≡ false) (node_is g first j (f.first_is ∙ ap (λ (x : List Latch). g.body.source_count + 1 - length x) f.latches)) r

pub are_fates_by : (g : Network) (lits : List Lit) (needed : List Bool) (first : ℕ) (ls : List Latch) (fates : List Fate) → IsFatedBy g lits needed first ls fates → AreFates (network_of g) fates
are_fates_by g lits needed first ls fates f = record {
  count = f.count ∙ ap length f.latches ∙ sym (many_latches g);
  needed = value_in needed;
  outputs = f.needs.observes;
  closed = f.needs.closed;
  right = λ j lt. one_right g lits needed first ls fates f j lt (fate_at fates j) (f.right j lt);
}

-- the literals of a graph's own rows are alike
own_alike : NetworkOfGraph → (g : Network) (fates : List Fate) (lits : List Lit) → AreLits (network_of g) g.frame.names lits → AreAlikeLits (network_of g) fates g.frame.names lits
own_alike law g fates lits k a b la lb ta tb e =
    let s = spells law g in
    alike graphs_have_functions (network_of g) s.ordered s.shape fates (word_at g.frame.names a) (word_at g.frame.names b) ta tb (sym (k a la ta) ∙ e ∙ k b lb tb)

pub are_fates : NetworkOfGraph → (g : Network) (lits : List Lit) (needed : List Bool) (first : ℕ) (ls : List Latch) (fates : List Fate) → IsFated g lits needed first ls fates → AreFates (network_of g) fates
are_fates law g lits needed first ls fates f = are_fates_by g lits needed first ls fates (record { alike_lits = own_alike law g fates lits f.lits_are; needs = f.needs; latches = f.latches; first_is = f.first_is; count = f.count; right = f.fates_are.right })

-- each is kept, where all are
each_kept : (fates : List Fate) → all_kept fates ≡ true → (j : ℕ) → j < length fates → fate_at fates j ≡ Kept
each_kept [] h j lt = absurd (omega (arith, lt))
each_kept (Kept ∷ fs) h zero lt = refl
each_kept (Merged i ∷ fs) h zero lt = absurd (both_ways false refl h)
each_kept (Dropped ∷ fs) h zero lt = absurd (both_ways false refl h)
each_kept (f ∷ fs) h (suc j) lt = each_kept fs (and_parts (is_kept f) (all_kept fs) h).1 j (omega (arith, lt))

pub is_swept : NetworkOfGraph → (g : Network) (lits : List Lit) (needed : List Bool) (first : ℕ) (ls : List Latch) (fates : List Fate) → IsFated g lits needed first ls fates → all_kept fates ≡ true → IsSwept (network_of g)
is_swept law g lits needed first ls fates f h =
    let n : Netlist = network_of g in
    let many : length fates ≡ length n.frame.latches = f.count ∙ ap length f.latches ∙ sym (many_latches g) in
    let node = λ (j : ℕ). node_is g first j (f.first_is ∙ ap (λ (x : List Latch). g.body.source_count + 1 - length x) f.latches) in
    record {
      reached = All-from_get_or (IsReachedLatch n) n.frame.latches no_named_latch (λ j lt.
          let inside : j < length fates = omega (arith, lt, many) in
          let mark : value_in needed (first + j) ≡ true = subst (λ (x : Fate). IsFateBy (λ k. value_in needed (first + k)) (λ k. key_by lits (get_or ls k no_latch)) fates j x) (each_kept fates h j inside) (f.fates_are.right j inside) in
          subst (Reached (needing_rows n) (output_lits n)) (sym (output_node n g.frame.sources_once j lt)) (subst (Reached (needing_rows n) (output_lits n)) (node j) (f.needs.least (first + j) mark)));
      apart = λ i j d ij lt can.
          let less : i < length n.frame.latches = omega (arith, ij, lt) in
          let jn : j < length fates = omega (arith, lt, many) in
          let in_ : i < length fates = omega (arith, less, many) in
          let a = get_or_default n.frame.latches i d no_named_latch less in
          let b = get_or_default n.frame.latches j d no_named_latch lt in
          let merge : CanMerge n (latch_at n i) (latch_at n j) = subst (λ (x : lists.Latch). CanMerge n x (latch_at n j)) a (subst (λ (x : lists.Latch). CanMerge n (get_or n.frame.latches i d) x) b can) in
          let ki = key_at g lits needed first ls fates f i in_ in
          let kj = key_at g lits needed first ls fates f j jn in
          f.fates_are.apart i j ij jn (each_kept fates h i in_) (each_kept fates h j jn)
          (subst (λ (k : Key). k.init < 2) (sym kj) (subst (λ (k : ℕ). k < 2) merge.init merge.known))
          (ki ∙ same_key n (latch_at n i) (latch_at n j) merge ∙ sym kj);
    }

pub one_more : (P : ℕ → Type 0) (j : ℕ) → ((k : ℕ) → k < j → P k) → P j → (k : ℕ) → k < j + 1 → P k
one_more P j h p k lt = elim (cases_lt k j) [
  | inl less ↦ h k less
  | inr past ↦ subst P (let e : j ≡ k = omega (arith, lt, past) in e) p
]
