-- The words of a graph's nodes and the first seat are a core state that is sound.
use Rattle.std.proofs.Common.{◌≡◌, ◌≢◌, ◌⊎◌, ℕ, zero, suc, ◌+◌, ◌*◌, ◌^◌, ◌<◌, ◌≤◌, true, All, List, [], ◌∷◌, ◌++◌, drop, length, replicate, get_or, length-append, refl, sym, ap, ◌∙◌, subst, arith, inl, inr}
use Rattle.std.proofs.lemmas.List.{length-replicate, get_or-append-add, get_or_append_left}
use Rattle.std.proofs.lemmas.Bool.{cases_eq}
use Rattle.syn_rows.specs.declared.TheConstants.{NODE_LIMIT}
use mathlib.Core.Option.{some, some-injective, some-ne-none}
use lib.ListN.{get_elem?}
use Rattle.atomic_table.specs.Table as Table
use Rattle.syn_rows.specs.declared.Row.{Row}
use Rattle.syn_rows.specs.declared.Row.TheVariants.{Free, Source, And, Alias}
use Rattle.syn_rows.specs.declared.Lit.{Lit}
use Rattle.syn_rows.specs.Packing.{word_of, Packs}
use Rattle.syn_rows.specs.Rows.{row_at, node_of, AllRefs}
use Rattle.syn_rows.specs.References.{refs, refs_by_rows, refs_by_literals, sum_below, times}
use Rattle.syn_hashed.specs.Hashed.{is_gate, IsHashed}
use Rattle.syn_graph.specs.Graphs.{IsGraph}
use Rattle.syn_graph.specs.declared.Graph.{Graph}
use Rattle.syn_hashed.proofs.Orders.{hashed_in_order}
use Rattle.syn_core_laws.specs.declared.View.{View}
use Rattle.syn_core_laws.specs.Cores.{Core, all_pins}
use Rattle.syn_core_laws.specs.Openings.{AllThere, IsStart, empty_view, opening_of}
use Rattle.syn_core_laws.specs.Sound.{RowRests, IsSound}
use Rattle.syn_core_laws.proofs.Counting.{hits_same, hits_other, times_append}
use Rattle.syn_core_laws.proofs.Starting.{openings_are_sound}
use Rattle.syn_table.specs.declared.Known.{Known}
use Rattle.syn_table.specs.declared.Opening.{Opening}
use Rattle.syn_table.specs.Laying.{IsLaid, AreWords}
use Rattle.syn_table.specs.Numbers.{numbers_below}
use Rattle.syn_table.specs.Openings.{AreKeys, with_spare}
use Rattle.syn_table.specs.Rule.{IsTied, IsCore, first_known}

pub words_more : (words : List ℕ) (n : ℕ) (rows : List Row) (counts keys : List ℕ) → AreWords words n rows counts keys
    → AreWords (words ++ 0 ∷ word_of (row_at rows n) ∷ get_or counts n 0 ∷ get_or keys n 0 ∷ []) (n + 1) rows counts keys
words_more words n rows counts keys w = record {
  size = length-append words four ∙ (omega (arith, w.size));
  claims = λ m lt. each 0 m (omega arith) (λ k. 0) (λ h. w.claims m h) refl lt;
  rows = λ m lt. each 1 m (omega arith) (λ k. word_of (row_at rows k)) (λ h. w.rows m h) refl lt;
  counts = λ m lt. each 2 m (omega arith) (λ k. get_or counts k 0) (λ h. w.counts m h) refl lt;
  keys = λ m lt. each 3 m (omega arith) (λ k. get_or keys k 0) (λ h. w.keys m h) refl lt;
}
  where
    four : List ℕ
    four = 0 ∷ word_of (row_at rows n) ∷ get_or counts n 0 ∷ get_or keys n 0 ∷ []

    each : (kind m : ℕ) → kind < 4 → (f : ℕ → ℕ) → (m < n → get_or words (suc kind + 4 * m) 0 ≡ f m) → get_or four kind 0 ≡ f n → m < n + 1 → get_or (words ++ four) (suc kind + 4 * m) 0 ≡ f m
    each kind m small f was new lt = elim (cases_eq m n) [
      | inl same ↦
          let place : suc kind + 4 * m ≡ length words + kind = omega (arith, w.size) in
          ap (λ i. get_or (words ++ four) i 0) place ∙ (get_or-append-add words four kind 0 ∙ (new ∙ ap f (sym same)))
      | inr ne ↦ get_or_append_left words four 0 (suc kind + 4 * m) (omega (arith, w.size)) ∙ was (omega arith)
    ]

-- the words of one node more were appended
pub words_grow : (words more : List ℕ) (n : ℕ) (rows : List Row) (counts keys : List ℕ) (row : Row) (count key : ℕ) → AreWords words n rows counts keys
    → row ≡ row_at rows n → count ≡ get_or counts n 0 → key ≡ get_or keys n 0 → more ≡ words ++ 0 ∷ word_of row ∷ count ∷ key ∷ [] → AreWords more (n + 1) rows counts keys
words_grow words more n rows counts keys row count key w is_row is_count is_key e =
    subst (λ l. AreWords l (n + 1) rows counts keys)
    (sym (e ∙ (ap (λ r. words ++ 0 ∷ word_of r ∷ count ∷ key ∷ []) is_row ∙ (ap (λ k. words ++ 0 ∷ word_of (row_at rows n) ∷ k ∷ key ∷ []) is_count ∙ ap (λ k. words ++ 0 ∷ word_of (row_at rows n) ∷ get_or counts n 0 ∷ k ∷ []) is_key))))
    (words_more words n rows counts keys w)

-- ---- numbers
times_above : (n m : ℕ) → m ≤ n → times n (numbers_below m) ≡ 0
times_above n zero le = refl
times_above n (suc m) le =
    let front : times n (numbers_below m) ≡ 0 = times_above n m (omega arith) in
    times_append n (numbers_below m) (m ∷ []) ∙ omega (arith, hits_other n m (λ e. omega arith))

times_below : (n m : ℕ) → n < m → times n (numbers_below m) ≡ 1
times_below n zero lt = absurd (omega arith)
times_below n (suc m) lt = elim (cases_eq n m) [
  | inl same ↦
      let front : times n (numbers_below m) ≡ 0 = times_above n m (omega arith) in
      let last : times n (m ∷ []) ≡ 1 = ap (λ k. times k (m ∷ [])) same ∙ omega (arith, hits_same m) in
      times_append n (numbers_below m) (m ∷ []) ∙ omega arith
  | inr ne ↦
      let front : times n (numbers_below m) ≡ 1 = times_below n m (omega arith) in
      times_append n (numbers_below m) (m ∷ []) ∙ omega (arith, hits_other n m ne)
]

number_front : (m : ℕ) → (others : List ℕ) × (numbers_below (suc m) ≡ 0 ∷ others)
number_front zero = ([], refl)
number_front (suc m) = let front = number_front m in (front.0 ++ suc m ∷ [], ap (λ l. l ++ suc m ∷ []) front.1)

first_is_0 : (m : ℕ) → numbers_below (suc m) ≡ 0 ∷ drop 1 (numbers_below (suc m))
first_is_0 m = let front = number_front m in front.1 ∙ ap (λ l. 0 ∷ drop 1 l) (sym front.1)

-- ---- spare rows
spare_is : {A : Type 0} (k n : ℕ) (d : A) → get_or (replicate k d) n d ≡ d
spare_is zero n d = refl
spare_is (suc k) zero d = refl
spare_is (suc k) (suc n) d = spare_is k n d

get_spare : {A : Type 0} (xs : List A) (k n : ℕ) (d : A) → get_or (xs ++ replicate k d) n d ≡ get_or xs n d
get_spare [] k n d = spare_is k n d
get_spare (x ∷ xs) k zero d = refl
get_spare (x ∷ xs) k (suc n) d = get_spare xs k n d

row_past : (rows : List Row) (n : ℕ) → length rows ≤ n → row_at rows n ≡ Free
row_past [] n le = refl
row_past (r ∷ rs) zero le = absurd (omega arith)
row_past (r ∷ rs) (suc n) le = row_past rs n (omega arith)

sum_alike : (n : ℕ) (f g : ℕ → ℕ) → ((i : ℕ) → f i ≡ g i) → sum_below n f ≡ sum_below n g
sum_alike zero f g same = refl
sum_alike (suc n) f g same = let front : sum_below n f ≡ sum_below n g = sum_alike n f g same in omega (arith, same n)

sum_more : (n k : ℕ) (f g : ℕ → ℕ) → ((i : ℕ) → f i ≡ g i) → ((i : ℕ) → n ≤ i → g i ≡ 0) → sum_below (k + n) f ≡ sum_below n g
sum_more n zero f g same none = let all : 0 + n ≡ n = omega arith in ap (λ j. sum_below j f) all ∙ sum_alike n f g same
sum_more n (suc k) f g same none =
    let front : sum_below (k + n) f ≡ sum_below n g = sum_more n k f g same none in
    let more : suc k + n ≡ suc (k + n) = omega arith in
    let last : f (k + n) ≡ 0 = same (k + n) ∙ none (k + n) (omega arith) in
    let whole : sum_below (suc (k + n)) f ≡ sum_below n g = omega arith in
    ap (λ j. sum_below j f) more ∙ whole

spare_length : (rows : List Row) (spare : ℕ) → length (with_spare rows spare) ≡ length rows + spare
spare_length rows spare = length-append rows (replicate spare Free) ∙ ap (λ k. length rows + k) (length-replicate {A = Row} spare Free)

refs_spare : (m : ℕ) (rows : List Row) (spare : ℕ) → refs_by_rows m (with_spare rows spare) ≡ refs_by_rows m rows
refs_spare m rows spare =
    let long : length (with_spare rows spare) ≡ spare + length rows = omega (arith, spare_length rows spare) in
    ap (λ k. sum_below k (λ i. refs m (row_at (with_spare rows spare) i))) long
    ∙ sum_more (length rows) spare (λ i. refs m (row_at (with_spare rows spare) i)) (λ i. refs m (row_at rows i)) (λ i. ap (refs m) (get_spare rows spare i Free)) (λ i le. ap (refs m) (row_past rows i le))

-- ---- the rows of a graph
gate_used : (n : ℕ) (r : Row) → is_gate n r ≡ true → r ≢ Free
gate_used n Free h e = absurd (cc)
gate_used n Source h e = absurd (cc)
gate_used n (And a b) h e = absurd (cc)
gate_used n (Alias a) h e = absurd (cc)

used : (count : ℕ) (rows : List Row) → IsHashed count rows → (n : ℕ) → n < length rows → row_at rows n ≢ Free
used count rows hashed n lt free = elim (side count n) [
  | inl front ↦ let source : row_at rows n ≡ Source = hashed.front n front in absurd (cc)
  | inr gate ↦ gate_used n (row_at rows n) (hashed.gates n gate lt) free
]
  where
    side : (count n : ℕ) → (n < count + 1) ⊎ (count < n)
    side count n = grind arith

-- keys that rise along the references of a graph's rows are keys of a start
pub graph_starts : (count : ℕ) (rows : List Row) (observed : List Lit) (keys : List ℕ) → IsGraph count rows observed → AreKeys rows keys → IsStart rows observed keys
graph_starts count rows observed keys g k = record {
  count = k.count;
  constant = g.hashed.front 0 (omega arith);
  source_keys = k.sources;
  rests = λ n. rest n (row_at rows n) refl (hashed_in_order count rows g.hashed n) (k.rise n);
  observes = there observed g.within;
}
  where
    -- a node is there where its row isn't `Free`
    inside : (n : ℕ) → row_at rows n ≢ Free → n < length rows
    inside n is = elim (side (length rows) n) [ inl lt ↦ lt | inr le ↦ absurd (is (row_past rows n le)) ]
      where
        side : (m n : ℕ) → (n < m) ⊎ (m ≤ n)
        side m n = grind arith

    below_used : (n m : ℕ) → row_at rows n ≢ Free → m < n → row_at rows m ≢ Free
    below_used n m is lt = let there : n < length rows = inside n is in used count rows g.hashed m (omega arith)

    rest : (n : ℕ) (r : Row) → row_at rows n ≡ r → AllRefs (λ m. m < n) r → AllRefs (λ m. get_or keys m 0 < get_or keys n 0) r → RowRests rows keys n r
    rest n Free is below less = tt
    rest n Source is below less = tt
    rest n (And a b) is below less =
        let gate : row_at rows n ≢ Free = λ free. absurd (cc) in
        ((below_used n (node_of a) gate below.0, less.0), (below_used n (node_of b) gate below.1, less.1))
    rest n (Alias a) is below less = let gate : row_at rows n ≢ Free = λ free. absurd (cc) in (below_used n (node_of a) gate below, less)

    there : (ls : List Lit) → All (λ l. node_of l < length rows) ls → AllThere rows ls
    there [] all = tt
    there (l ∷ ls) all = (used count rows g.hashed (node_of l) (all 0 l (omega arith)), there ls (λ k x lt. all (suc k) x (omega arith)))

-- ---- the state at the start
-- the only seat is the first
only_first : (k u : Known) (id : ℕ) → get_elem? (k ∷ []) id ≡ some u → k ≡ u
only_first k u zero at = some-injective k u at
only_first k u (suc id) at = absurd (some-ne-none u (sym at))

-- what a graph, its keys and the laid words have to be
pub record CanOpen (g : Graph) (spare : ℕ) (counts keys words : List ℕ) : Type 0 where
  pub rising : AreKeys g.rows keys
  pub few : length g.rows + spare < NODE_LIMIT
  pub few_literals : length g.observed < 2 ^ 30
  pub counted : (m : ℕ) → get_or counts m 0 ≡ refs_by_rows m g.rows + refs_by_literals m g.observed
  pub laid : AreWords words (length g.rows + spare) g.rows counts keys

module _ (o : Opening) (counts keys words : List ℕ) where
  abbrev graph_rows : List Row
  graph_rows = o.graph.value.rows

  abbrev literals : List Lit
  literals = o.graph.value.observed

  abbrev core : Core
  core = opening_of graph_rows literals keys o.spare 1

  first_laid : IsSound core → CanOpen o.graph.value o.spare counts keys words → IsLaid words core
  first_laid sound can =
      let long : length (with_spare graph_rows o.spare) ≡ length graph_rows + o.spare = spare_length graph_rows o.spare in
      record {
        size = can.laid.size ∙ ap (λ k. 1 + 4 * k) (sym long);
        claims = λ n lt. can.laid.claims n (omega arith) ∙ sym (spare_is (length (with_spare graph_rows o.spare)) n 0);
        rows = λ n lt. can.laid.rows n (omega arith) ∙ ap word_of (sym (get_spare graph_rows o.spare n Free));
        counts = λ n lt. let c : get_or core.counts n 0 ≡ refs_by_rows n (with_spare graph_rows o.spare) + refs_by_literals n literals + all_pins n core.seats = sound.counted n in
            omega (arith, c, can.laid.counts n (omega arith), can.counted n, refs_spare n graph_rows o.spare);
        keys = λ n lt. can.laid.keys n (omega arith) ∙ sym (get_spare keys o.spare n 0);
      }

  pub first_table : CanOpen o.graph.value o.spare counts keys words → IsCore o (Table.opening words [] (first_known o))
  first_table can =
      let starts : IsStart graph_rows literals keys = graph_starts o.graph.value.source_count graph_rows literals keys o.graph.value.graph can.rising in
      let sound : IsSound core = openings_are_sound graph_rows literals keys o.spare 1 starts (omega arith) in (
        core,
        record {
          laid = first_laid sound can;
          views = refl;
          opened = refl;
          observed = refl;
          nodes = refl;
          small = record {
            nodes = omega (arith, spare_length graph_rows o.spare, can.few);
            literals = can.few_literals;
            spent = λ id v at big. let mine : empty_view 0 ≡ v = first_view v id at in let zero_is : 0 ≡ v.number = ap (λ (z : View). z.number) mine in absurd (omega arith);
          };
          sound = sound;
          tied = λ id k at. subst (IsTied core) (only_first (first_known o) k id at) record {
            own = λ small. first_is_0 63;
            opening = λ small. refl;
            observed = λ small. refl;
            spent = λ big. absurd (omega arith);
          };
          once = λ n lt. times_append n (numbers_below 64) [] ∙ omega (arith, times_below n 64 lt);
          below = λ n le. times_append n (numbers_below 64) [] ∙ omega (arith, times_above n 64 le);
        },
      )
    where
      first_view : (v : View) (id : ℕ) → get_elem? (empty_view 0 ∷ []) id ≡ some v → empty_view 0 ≡ v
      first_view v zero at = some-injective (empty_view 0) v at
      first_view v (suc id) at = absurd (some-ne-none v (sym at))

-- ---- the rows of a graph fit words
pub rows_pack : (count : ℕ) (rows : List Row) (observed : List Lit) → IsGraph count rows observed → length rows < NODE_LIMIT → (n : ℕ) → Packs (row_at rows n)
rows_pack count rows observed g few n = elim (side (length rows) n) [
  | inl lt ↦ go (row_at rows n) (hashed_in_order count rows g.hashed n) lt
  | inr le ↦ subst Packs (sym (row_past rows n le)) tt
]
  where
    side : (m n : ℕ) → (n < m) ⊎ (m ≤ n)
    side m n = grind arith

    go : (r : Row) → AllRefs (λ m. m < n) r → n < length rows → Packs r
    go Free below lt = tt
    go Source below lt = tt
    go (And a b) below lt = (let one : node_of a < n = below.0 in omega arith, let two : node_of b < n = below.1 in omega arith)
    go (Alias a) below lt = let one : node_of a < n = below in omega arith
