-- What equal keys of latches say: by numbers, and in the words of a netlist.
use Rattle.std.proofs.Common.{◌≡◌, ℕ, ◌+◌, ◌<◌, Bool, true, false, List, [], ◌∷◌, ◌++◌, length, map, flat_map, get_or, refl, sym, ap, ap₂, ◌∙◌, subst, Option, Some, None, arith}
use Rattle.std.proofs.lemmas.Bool.{and_parts, cond-true}
use Rattle.std.proofs.lemmas.List.{get_or-append-add, get_or-map, length-append, length-map}
use Rattle.syn_rows.specs.declared.Lit.{Lit}
use Rattle.syn_rows.specs.Rows.{node_of}
use Rattle.syn_netlist.specs.declared.LatchKind.{LatchKind}
use Rattle.syn_netlist.specs.declared.LatchKind.TheVariants.{Fe, Re, Ah, Al, As}
use Rattle.syn_netlist.specs.declared.Latch.{Latch}
use Rattle.syn_netlist.specs.Frames.{frame_in}
use Rattle.syn_netlist.specs.Kept.{control_number, latch_in, latch_numbers, latches_below}
use Rattle.syn_netlist.specs.Lists as lists
use Rattle.syn_netlist.specs.Lists.{Netlist, control_of, latch_output, latch_reads, observed, output_of, sources}
use Rattle.syn_netlist.specs.Numbers.{all_below, kind_at, word_at, words_at}
use Rattle.syn_netlist.specs.Order.{Ordered}
use Rattle.syn_netlist.specs.Words.{distinct, has_word}
use Rattle.syn_netlist.proofs.Places.{below_parts, words_at-control}
use Rattle.syn_netlist.proofs.Sets.{has_head, has_left, has_right, has_tail}
use Rattle.syn_network.specs.GraphShape.{GraphHasFunction, GraphShape, and_tables, lit_of, node_names, place, shown}
use Rattle.syn_network.proofs.Gates.{place_back}
use Rattle.syn_network.proofs.Spelled.{half, place_in_front}
use Rattle.syn_network.specs.declared.networks.Network.{Network}
use Rattle.syn_network.specs.Written.{network_of}
use Rattle.syn_seq.specs.declared.keys.Key.{Key}
use Rattle.syn_seq.specs.declared.keys.Trigger.{Trigger}
use Rattle.syn_seq.specs.declared.keys.Trigger.TheVariants as triggers
use Rattle.syn_seq.specs.Code.{AreLits, lit_in}
use Rattle.syn_seq.specs.Keys.{control_in, key_by, trigger_in, trigger_of}
use Rattle.syn_seq.specs.Rounds.{AreAlike, Fate, latch_at, latch_node}
use Rattle.syn_seq.specs.Runs.{free_signals}
use Rattle.syn_seq.specs.Sweeping.{CanMerge, kind_in}
use Rattle.syn_seq.proofs.Alike.{among_firsts, sources_are}
use Rattle.syn_seq.proofs.Keeping.{has_output}
use Rattle.syn_seq.proofs.Observed.{observed_value, value_at}
use Rattle.syn_seq.proofs.There.{latch_is_source}

-- the latch of no number
abbrev pub no_latch : Latch
no_latch = record { feed = 0; output = 0; kind = None; init = 2; init_small = omega arith }

-- the key of a latch, in words
abbrev pub key_in : Netlist → lists.Latch → Key
key_in n l = record { feed = lit_of n l.feed; trigger = trigger_in l.kind; control = control_in (lit_of n) l.kind; init = l.init }

trigger_same : (names : List (List ℕ)) (kind : Option (LatchKind × Option ℕ)) → trigger_in kind ≡ trigger_in (kind_at names kind)
trigger_same names None = refl
trigger_same names (Some (k, None)) = refl
trigger_same names (Some (k, Some i)) = refl

control_same : (n : Netlist) (names : List (List ℕ)) (lits : List Lit) (kind : Option (LatchKind × Option ℕ)) → ((i : ℕ) → control_number kind ≡ i ∷ [] → lit_in lits i ≡ lit_of n (word_at names i))
    → control_in (lit_in lits) kind ≡ control_in (lit_of n) (kind_at names kind)
control_same n names lits None h = refl
control_same n names lits (Some (k, None)) h = refl
control_same n names lits (Some (k, Some i)) h = ap Some (h i refl)

same_parts : (f g : Lit) (s t : Trigger) (c d : Option Lit) (init : ℕ) → f ≡ g → s ≡ t → c ≡ d → ◌≡◌ {A = Key} (record { feed = f; trigger = s; control = c; init = init }) (record { feed = g; trigger = t; control = d; init = init })
same_parts f g s t c d init e h k = cc

each_key : (n : Netlist) (names : List (List ℕ)) (lits : List Lit) → AreLits n names lits → (ls : List Latch) → latches_below (length names) ls ≡ true → ((w : List ℕ) → has_word (flat_map latch_reads (map (latch_in names) ls)) w ≡ true → has_word (observed n.frame) w ≡ true)
    → map (key_by lits) ls ≡ map (key_in n) (map (latch_in names) ls)
each_key n names lits k [] b h = refl
each_key n names lits k (l ∷ ls) b h =
    let p = and_parts (all_below (length names) (latch_numbers l)) (latches_below (length names) ls) b in
    let feed = below_parts (length names) l.feed (l.output ∷ control_number l.kind) p.0 in
    let output = below_parts (length names) l.output (control_number l.kind) feed.1 in
    let reads : List (List ℕ) = latch_reads (latch_in names l) in
    let rest : List (List ℕ) = flat_map latch_reads (map (latch_in names) ls) in
    ap₂ (λ (x : Key) (xs : List Key). x ∷ xs)
    (same_parts (lit_in lits l.feed) (lit_of n (word_at names l.feed)) (trigger_in l.kind) (trigger_in (kind_at names l.kind)) (control_in (lit_in lits) l.kind) (control_in (lit_of n) (kind_at names l.kind)) l.init
    (k l.feed feed.0 (h (word_at names l.feed) (has_left reads rest (word_at names l.feed) (has_head (word_at names l.feed) (control_of (kind_at names l.kind))))))
    (trigger_same names l.kind)
    (control_same n names lits l.kind (λ i e. k i
    (below_parts (length names) i [] (subst (λ (is : List ℕ). all_below (length names) is ≡ true) e output.1)).0
    (h (word_at names i) (has_left reads rest (word_at names i) (has_tail (word_at names l.feed) (word_at names i) (control_of (kind_at names l.kind))
    (subst (λ (ws : List (List ℕ)). has_word ws (word_at names i) ≡ true) (ap (words_at names) (sym e) ∙ words_at-control names l.kind) (has_head (word_at names i) []))))))))
    (each_key n names lits k ls p.1 (λ w t. h w (has_right reads rest w t)))

-- the key of a latch by number is its key in words
pub keys_are : (g : Network) (lits : List Lit) → AreLits (network_of g) g.frame.names lits → (j : ℕ) → j < length g.frame.latches → key_by lits (get_or g.frame.latches j no_latch) ≡ key_in (network_of g) (latch_at (network_of g) j)
keys_are g lits k j lt =
    let n : Netlist = network_of g in
    let outs : List (List ℕ) = words_at g.frame.names g.frame.outputs in
    let reads : List (List ℕ) = flat_map latch_reads (frame_in g.frame).latches in
    let all = each_key n g.frame.names lits k g.frame.latches g.frame.latches_below (λ w t. among_firsts (outs ++ reads) w (has_right outs reads w t)) in
    let some : Key = key_by lits no_latch in
    let inside : j < length n.frame.latches = omega (arith, lt, length-map g.frame.latches (latch_in g.frame.names)) in
    sym (get_or-map (key_by lits) g.frame.latches j no_latch some lt)
    ∙ ap (λ (ks : List Key). get_or ks j some) all
    ∙ get_or-map (key_in n) n.frame.latches j _ some inside

unfoldable pub is_typed : Trigger → Bool
is_typed triggers.Untyped = false
is_typed triggers.Fe = true
is_typed triggers.Re = true
is_typed triggers.Ah = true
is_typed triggers.Al = true
is_typed triggers.As = true

pub typed : (k : LatchKind) → is_typed (trigger_of k) ≡ true
unfolding is_typed
typed Fe = refl
typed Re = refl
typed Ah = refl
typed Al = refl
typed As = refl

kind_back : Trigger → LatchKind
kind_back triggers.Untyped = As
kind_back triggers.Fe = Fe
kind_back triggers.Re = Re
kind_back triggers.Ah = Ah
kind_back triggers.Al = Al
kind_back triggers.As = As

back : (k : LatchKind) → kind_back (trigger_of k) ≡ k
unfolding kind_back
back Fe = refl
back Re = refl
back Ah = refl
back Al = refl
back As = refl

pub kind_same : (a b : LatchKind) → trigger_of a ≡ trigger_of b → a ≡ b
kind_same a b e = sym (back a) ∙ ap kind_back e ∙ back b

abbrev pub is_some : Option Lit → Bool
is_some None = false
is_some (Some l) = true

abbrev pub lit_out : Option Lit → Lit
lit_out None = record { 0 = 0 }
lit_out (Some l) = l

pub alike : GraphHasFunction → (n : Netlist) → Ordered n → GraphShape n → (fates : List Fate) (a b : List ℕ) → has_word (observed n.frame) a ≡ true → has_word (observed n.frame) b ≡ true → lit_of n a ≡ lit_of n b → AreAlike n fates a b
alike law n o s fates a b ta tb e v cv held = observed_value law n o s v cv a ta ∙ ap (value_at n v) e ∙ sym (observed_value law n o s v cv b tb)

-- the key follows from what two latches must have alike
trigger_of_kind : (n : Netlist) (kind : Option (LatchKind × Option (List ℕ))) → trigger_in (kind_in n kind) ≡ trigger_in kind
trigger_of_kind n None = refl
trigger_of_kind n (Some (k, c)) = refl

control_of_kind : (n : Netlist) (kind : Option (LatchKind × Option (List ℕ))) → control_in (λ l. l) (kind_in n kind) ≡ control_in (lit_of n) kind
control_of_kind n None = refl
control_of_kind n (Some (k, None)) = refl
control_of_kind n (Some (k, Some c)) = refl

pub same_key : (n : Netlist) (a b : lists.Latch) → CanMerge n a b → key_in n a ≡ key_in n b
same_key n a b m =
    let kinds : kind_in n a.kind ≡ kind_in n b.kind = ap (λ (x : Lit × Option (LatchKind × Option Lit)). x.1) m.loading in
    let feeds : lit_of n a.feed ≡ lit_of n b.feed = ap (λ (x : Lit × Option (LatchKind × Option Lit)). x.0) m.loading in
    ap (λ (i : ℕ). let k : Key = record { feed = lit_of n a.feed; trigger = trigger_in a.kind; control = control_in (lit_of n) a.kind; init = i } in k) m.init
    ∙ same_parts (lit_of n a.feed) (lit_of n b.feed) (trigger_in a.kind) (trigger_in b.kind) (control_in (lit_of n) a.kind) (control_in (lit_of n) b.kind) b.init feeds
    (sym (trigger_of_kind n a.kind) ∙ ap trigger_in kinds ∙ trigger_of_kind n b.kind)
    (sym (control_of_kind n a.kind) ∙ ap (control_in (λ l. l)) kinds ∙ control_of_kind n b.kind)

-- the node of a latch's output
source_at : (n : Netlist) (j : ℕ) → j < length n.frame.latches → word_at (sources n.frame) (length (free_signals n.frame) + j) ≡ (latch_at n j).output
source_at n j lt =
    ap (λ (ws : List (List ℕ)). word_at ws (length (free_signals n.frame) + j)) (sym (sources_are n.frame))
    ∙ get_or-append-add (free_signals n.frame) (map latch_output n.frame.latches) j []
    ∙ get_or-map latch_output n.frame.latches j _ [] lt

pub output_node : (n : Netlist) → distinct (sources n.frame) ≡ true → (j : ℕ) → j < length n.frame.latches → node_of (lit_of n (latch_at n j).output) ≡ latch_node n j
output_node n once j lt =
    let w : List ℕ = (latch_at n j).output in
    let there : has_word (sources n.frame) w ≡ true = latch_is_source n.frame w (has_output n.frame.latches j lt) in
    let long : length (free_signals n.frame) + length n.frame.latches ≡ length (sources n.frame) =
    ap (λ (k : ℕ). length (free_signals n.frame) + k) (sym (length-map n.frame.latches latch_output)) ∙ sym (length-append (free_signals n.frame) (map latch_output n.frame.latches)) ∙ ap length (sources_are n.frame) in
    let inside : length (free_signals n.frame) + j < length (sources n.frame) = omega (arith, lt, long) in
    let at : place w (node_names n) ≡ length (free_signals n.frame) + j =
    place_in_front (sources n.frame) (map output_of (and_tables n)) w there ∙ ap (λ (x : List ℕ). place x (sources n.frame)) (sym (source_at n j lt)) ∙ place_back (sources n.frame) once (length (free_signals n.frame) + j) inside in
    ap node_of (cond-true (has_word (sources n.frame) w) (shown (node_names n) w 49) _ there) ∙ half (place w (node_names n) + 1) true ∙ omega (arith, at)
