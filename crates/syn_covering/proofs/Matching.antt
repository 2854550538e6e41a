-- What is computed LUT by LUT matches what the graph's nodes have, where each LUT is made of a cut.
use Rattle.std.proofs.Common.{◌≡◌, ℕ, zero, suc, ◌+◌, ◌<◌, ◌≤◌, nat_lt, nat_eq, Bool, true, false, All, List, [], ◌∷◌, map, length, get_or, refl, sym, ap, ap₂, ◌∙◌, subst, inl, inr, arith}
use Rattle.std.specs.List.{list_all, AllByRecursion}
use Rattle.std.proofs.lemmas.Bool.{cases_Bool, or_cases, and_parts, and_from, both_ways, cond-true, cond-false, ltb-true, lt-ltb, le-ltb, eqb-true}
use Rattle.std.proofs.lemmas.List.Elements.{All-head, All-tail}
use Rattle.syn_rows.specs.Nodes.{has_node}
use Rattle.syn_rows.proofs.Nodes.{has_here, has_there, node_same}
use Rattle.syn_lutnet.specs.LutData.{Lut, rising, lut_at, fold_luts}
use Rattle.syn_covering.specs.Mappings.{node_at, place_of, signal_of, HasSignal}
use Rattle.syn_lutnet.proofs.Folding.{below, In}
use Rattle.syn_lutnet.proofs.Folding.{IsLocal, luts_kept, lut_step}

-- places in rising lists

node_in_rest : (m n : ℕ) (ms : List ℕ) → nat_eq m n ≡ false → has_node (m ∷ ms) n ≡ true → has_node ms n ≡ true
node_in_rest m n ms e h = elim (or_cases (nat_eq m n) (has_node ms n) h) [ inl t ↦ absurd (both_ways (nat_eq m n) e t) | inr t ↦ t ]

all_has : (p : ℕ → Bool) (ms : List ℕ) (n : ℕ) → list_all p ms ≡ true → has_node ms n ≡ true → p n ≡ true
all_has p [] n a h = absurd (both_ways false refl h)
all_has p (m ∷ ms) n a h =
    let parts = and_parts (p m) (list_all p ms) a in
    elim (or_cases (nat_eq m n) (has_node ms n) h) [
      | inl e ↦ subst (λ k. p k ≡ true) (eqb-true m n e) parts.0
      | inr t ↦ all_has p ms n parts.1 t
    ]

-- what holds of each node of a list holds of one that is in it
pub has_fact : (P : ℕ → Type 0) (ms : List ℕ) (n : ℕ) → All P ms → has_node ms n ≡ true → P n
has_fact P [] n a h = absurd (both_ways false refl h)
has_fact P (m ∷ ms) n a h = elim (or_cases (nat_eq m n) (has_node ms n) h) [
  | inl e ↦ subst P (eqb-true m n e) (All-head P m ms a)
  | inr t ↦ has_fact P ms n (All-tail P m ms a) t
]

pub place_inside : (n : ℕ) (nodes : List ℕ) → has_node nodes n ≡ true → place_of n nodes < length nodes
place_inside n [] h = absurd (both_ways false refl h)
place_inside n (m ∷ ms) h = elim (cases_Bool (nat_eq m n)) [
  | inl e ↦ omega (arith, cond-true (nat_eq m n) 0 (suc (place_of n ms)) e)
  | inr e ↦ omega (arith, cond-false (nat_eq m n) 0 (suc (place_of n ms)) e, place_inside n ms (node_in_rest m n ms e h))
]

pub node_at_place : (n : ℕ) (nodes : List ℕ) → has_node nodes n ≡ true → node_at nodes (place_of n nodes) ≡ n
node_at_place n [] h = absurd (both_ways false refl h)
node_at_place n (m ∷ ms) h = elim (cases_Bool (nat_eq m n)) [
  | inl e ↦ ap (node_at (m ∷ ms)) (cond-true (nat_eq m n) 0 (suc (place_of n ms)) e) ∙ eqb-true m n e
  | inr e ↦ ap (node_at (m ∷ ms)) (cond-false (nat_eq m n) 0 (suc (place_of n ms)) e) ∙ node_at_place n ms (node_in_rest m n ms e h)
]

pub has_node_at : (nodes : List ℕ) (j : ℕ) → j < length nodes → has_node nodes (node_at nodes j) ≡ true
has_node_at [] j lt = absurd (omega arith)
has_node_at (m ∷ ms) zero lt = has_here m ms
has_node_at (m ∷ ms) (suc j) lt = has_there m (node_at ms j) ms (has_node_at ms j (omega arith))

other_node : (m n : ℕ) → m < n → nat_eq m n ≡ false
other_node m n lt = elim (cases_Bool (nat_eq m n)) [ inl e ↦ absurd (omega (arith, lt, eqb-true m n e)) | inr e ↦ e ]

pub place_of_at : (nodes : List ℕ) → rising nodes ≡ true → (j : ℕ) → j < length nodes → place_of (node_at nodes j) nodes ≡ j
place_of_at [] r j lt = absurd (omega arith)
place_of_at (m ∷ ms) r zero lt = cond-true (nat_eq m m) 0 (suc (place_of m ms)) (node_same m)
place_of_at (m ∷ ms) r (suc j) lt =
    let parts = and_parts (list_all (nat_lt m) ms) (rising ms) r in
    let less = ltb-true m (node_at ms j) (all_has (nat_lt m) ms (node_at ms j) parts.0 (has_node_at ms j (omega arith))) in
    cond-false (nat_eq m (node_at ms j)) 0 (suc (place_of (node_at ms j) ms)) (other_node m (node_at ms j) less) ∙ ap suc (place_of_at ms parts.1 j (omega arith))

pub place_rises : (nodes : List ℕ) → rising nodes ≡ true → (a b : ℕ) → a < b → has_node nodes a ≡ true → has_node nodes b ≡ true → place_of a nodes < place_of b nodes
place_rises [] r a b lt h g = absurd (both_ways false refl h)
place_rises (m ∷ ms) r a b lt h g =
    let parts = and_parts (list_all (nat_lt m) ms) (rising ms) r in
    elim (cases_Bool (nat_eq m a)) [
      | inl e ↦
          let same = eqb-true m a e in
          let other = other_node m b (let s : m < b = omega (arith, same, lt) in s) in
          omega (arith, cond-true (nat_eq m a) 0 (suc (place_of a ms)) e, cond-false (nat_eq m b) 0 (suc (place_of b ms)) other)
      | inr e ↦
          let there = node_in_rest m a ms e h in
          let less = ltb-true m a (all_has (nat_lt m) ms a parts.0 there) in
          let other = other_node m b (let s : m < b = omega (arith, less, lt) in s) in
          let rest = place_rises ms parts.1 a b lt there (node_in_rest m b ms other g) in
          omega (arith, cond-false (nat_eq m a) 0 (suc (place_of a ms)) e, cond-false (nat_eq m b) 0 (suc (place_of b ms)) other, rest)
    ]

-- signals

pub signal_source : (count : ℕ) (nodes : List ℕ) (m : ℕ) → m < count + 1 → signal_of count nodes m ≡ m
signal_source count nodes m lt = cond-true (nat_lt m (count + 1)) m (count + 1 + place_of m nodes) (lt-ltb m (count + 1) lt)

pub signal_node : (count : ℕ) (nodes : List ℕ) (m : ℕ) → count + 1 ≤ m → signal_of count nodes m ≡ count + 1 + place_of m nodes
signal_node count nodes m ge = cond-false (nat_lt m (count + 1)) m (count + 1 + place_of m nodes) (le-ltb m (count + 1) ge)

-- LUTs that read the signals of smaller nodes
pub record AreMade (count : ℕ) (cuts : ℕ → List ℕ) (nodes : List ℕ) (luts : List Lut) : Type 0 where
  pub rise : rising nodes ≡ true
  pub high : (n : ℕ) → has_node nodes n ≡ true → count + 1 ≤ n
  pub leaves : (n : ℕ) → has_node nodes n ≡ true → AllByRecursion (λ m. (m < n) × HasSignal count nodes m) (cuts n)
  pub long : length luts ≡ length nodes
  pub inputs : (n : ℕ) → has_node nodes n ≡ true → (lut_at luts (place_of n nodes)).inputs ≡ map (signal_of count nodes) (cuts n)

pub inputs_below : (count : ℕ) (cuts : ℕ → List ℕ) (nodes : List ℕ) (luts : List Lut) → AreMade count cuts nodes luts → (n : ℕ) → has_node nodes n ≡ true → (ms : List ℕ)
    → AllByRecursion (λ m. (m < n) × HasSignal count nodes m) ms → In (count + 1 + place_of n nodes) (map (signal_of count nodes) ms)
inputs_below count cuts nodes luts made n h [] all = refl
inputs_below count cuts nodes luts made n h (m ∷ ms) all =
    let high : ℕ = count + 1 + place_of n nodes in
    and_from (below high (signal_of count nodes m)) (list_all (below high) (map (signal_of count nodes) ms))
    (lt-ltb (signal_of count nodes m) (count + 1 + place_of n nodes) (elim all.0.1 [
      | inl lt ↦ omega (arith, lt, signal_source count nodes m lt)
      | inr t ↦ omega (arith, signal_node count nodes m (made.high m t), place_rises nodes made.rise m n all.0.0 t h)
    ]))
    (inputs_below count cuts nodes luts made n h ms all.1)

leaves_match : {A : Type 0} (count : ℕ) (nodes : List ℕ) (u f : ℕ → A) (n : ℕ) → ((m : ℕ) → m < n → HasSignal count nodes m → u (signal_of count nodes m) ≡ f m) → (ms : List ℕ)
    → AllByRecursion (λ m. (m < n) × HasSignal count nodes m) ms → map u (map (signal_of count nodes) ms) ≡ map f ms
leaves_match count nodes u f n ih [] all = refl
leaves_match {A} count nodes u f n ih (m ∷ ms) all = ap₂ (λ (y : A) (ys : List A). y ∷ ys) (ih m all.0.0 all.0.1) (leaves_match count nodes u f n ih ms all.1)

-- the signal of a node has what the node has, where each LUT's step gives it
pub signals_match : {A : Type 0} (count : ℕ) (cuts : ℕ → List ℕ) (nodes : List ℕ) (luts : List Lut) → AreMade count cuts nodes luts → (step : (ℕ → A) → Lut → A) (d : A) → IsLocal step → (done : List A) (f : ℕ → A)
    → length done ≡ count + 1 → ((m : ℕ) → m < count + 1 → get_or done m d ≡ f m)
    → ((n : ℕ) → has_node nodes n ≡ true → (u : ℕ → A) → map u (lut_at luts (place_of n nodes)).inputs ≡ map f (cuts n) → step u (lut_at luts (place_of n nodes)) ≡ f n)
    → (bound m : ℕ) → m < bound → HasSignal count nodes m → get_or (fold_luts step d done luts) (signal_of count nodes m) d ≡ f m
signals_match count cuts nodes luts made step d local done f long front gives zero m lt has = absurd (omega arith)
signals_match count cuts nodes luts made step d local done f long front gives (suc bound) m lt has = elim has [
  | inl low ↦ ap (λ k. get_or (fold_luts step d done luts) k d) (signal_source count nodes m low) ∙ luts_kept step d done luts m d (omega (arith, low, long)) ∙ front m low
  | inr h ↦
      let place : ℕ = place_of m nodes in
      let inside : place_of m nodes < length luts = omega (arith, made.long, place_inside m nodes h) in
      ap (λ k. get_or (fold_luts step d done luts) k d) (signal_node count nodes m (made.high m h))
      ∙ lut_step step d local done luts (count + 1 + place_of m nodes) (place_of m nodes) (omega (arith, long)) inside
      (subst (In (count + 1 + place_of m nodes)) (sym (made.inputs m h)) (inputs_below count cuts nodes luts made m h (cuts m) (made.leaves m h)))
      ∙ gives m h (λ k. get_or (fold_luts step d done luts) k d)
      (ap (map (λ k. get_or (fold_luts step d done luts) k d)) (made.inputs m h)
      ∙ leaves_match count nodes (λ k. get_or (fold_luts step d done luts) k d) f m
      (λ k l g. signals_match count cuts nodes luts made step d local done f long front gives bound k (omega arith) g) (cuts m) (made.leaves m h))
]
