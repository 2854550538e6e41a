-- What the listed cuts of hashed rows are.
use Rattle.std.proofs.Common.{◌≡◌, ◌≢◌, ℕ, zero, suc, ◌+◌, ◌<◌, ◌≤◌, ◌&&◌, nat_eq, nat_le, nat_lt, Bool, true, false, if◌then◌else◌, All, List, [], ◌∷◌, ◌++◌, length, map, filter, get_or, refl, sym, ap, ◌∙◌, subst, inl, inr, ◌⊎◌, not, arith, length-append}
use Rattle.std.specs.List.{list_all}
use Rattle.std.proofs.lemmas.Bool.{cases_lt, and_parts, and_from, eqb-true, eqb-false, ltb-true, lt-ltb, leb-true, not-true}
use Rattle.std.proofs.lemmas.List.{get_or_append_left}
use Rattle.std.proofs.lemmas.List.Elements.{All-nil, All-cons, All-append, All-take}
use Rattle.syn_rows.specs.declared.Lit.{Lit}
use Rattle.syn_rows.specs.declared.Row.{Row}
use Rattle.syn_rows.specs.declared.Row.TheVariants.{Free, Source, And, Alias}
use Rattle.syn_rows.specs.Rows.{row_at, node_of, InOrder}
use Rattle.syn_hashed.specs.Hashed.{is_gate, IsHashed}
use Rattle.syn_hashed.proofs.Orders.{hashed_in_order}
use Rattle.syn_cones.specs.Leaves.{are_below, rise_above}
use Rattle.syn_cuts.specs.Cuts.{among, union, arranged, is_small, unions_with, unions, merge_cut_sets, row_cuts, listed_cuts}
use Rattle.syn_cuts.specs.Laws.{IsListedCut, ListedCutsRise}
use Rattle.syn_cuts.specs.Lists.{list_at}
use Rattle.syn_cuts.proofs.Cutting.{all_arranged, all_unions, listed_at}

-- unions rise

among_rises : (x : ℕ) (rest : List ℕ → List ℕ) (ys : List ℕ) (low : ℕ) → low < x → rise_above low ys ≡ true
    → ((zs : List ℕ) → rise_above x zs ≡ true → rise_above x (rest zs) ≡ true) → rise_above low (among x rest ys) ≡ true
among_rises x rest [] low less h f = and_from (nat_lt low x) (rise_above x (rest [])) (lt-ltb low x less) (f [] refl)
among_rises x rest (y ∷ ys) low less h f =
    let parts = and_parts (nat_lt low y) (rise_above y ys) h in
    go (nat_lt x y) (nat_eq x y) refl refl parts.0 parts.1 (λ lt. among_rises x rest ys y lt parts.1 f)
  where
    go : (a b : Bool) → nat_lt x y ≡ a → nat_eq x y ≡ b → nat_lt low y ≡ true → rise_above y ys ≡ true → (y < x → rise_above y (among x rest ys) ≡ true)
        → rise_above low (if a then x ∷ rest (y ∷ ys) else if b then x ∷ rest ys else y ∷ among x rest ys) ≡ true
    go true b lt eq first later ih = and_from (nat_lt low x) (rise_above x (rest (y ∷ ys))) (lt-ltb low x less) (f (y ∷ ys) (and_from (nat_lt x y) (rise_above y ys) lt later))
    go false true lt eq first later ih = and_from (nat_lt low x) (rise_above x (rest ys)) (lt-ltb low x less) (f ys (subst (λ k. rise_above k ys ≡ true) (sym (eqb-true x y eq)) later))
    go false false lt eq first later ih = and_from (nat_lt low y) (rise_above y (among x rest ys)) first (ih (above (eqb-false x y eq) lt))
      where
        above : x ≢ y → nat_lt x y ≡ false → y < x
        above ne lt = elim (cases_lt x y) [ inl t ↦ absurd (cc (lt-ltb x y t, lt)) | inr ge ↦ omega (arith, ne, ge) ]

union_rises : (xs ys : List ℕ) (low : ℕ) → rise_above low xs ≡ true → rise_above low ys ≡ true → rise_above low (union xs ys) ≡ true
union_rises [] ys low g h = h
union_rises (x ∷ xs) ys low g h =
    let parts = and_parts (nat_lt low x) (rise_above x xs) g in
    among_rises x (union xs) ys low (ltb-true low x parts.0) h (λ zs k. union_rises xs zs x parts.1 k)

-- what holds of all nodes of two lists holds of those of their union

among_all : (p : ℕ → Bool) (x : ℕ) (rest : List ℕ → List ℕ) (ys : List ℕ) → p x ≡ true → list_all p ys ≡ true
    → ((zs : List ℕ) → list_all p zs ≡ true → list_all p (rest zs) ≡ true) → list_all p (among x rest ys) ≡ true
among_all p x rest [] px h f = and_from (p x) (list_all p (rest [])) px (f [] refl)
among_all p x rest (y ∷ ys) px h f =
    let parts = and_parts (p y) (list_all p ys) h in
    go (nat_lt x y) (nat_eq x y) parts.0 parts.1 (among_all p x rest ys px parts.1 f)
  where
    go : (a b : Bool) → p y ≡ true → list_all p ys ≡ true → list_all p (among x rest ys) ≡ true
        → list_all p (if a then x ∷ rest (y ∷ ys) else if b then x ∷ rest ys else y ∷ among x rest ys) ≡ true
    go true b py later ih = and_from (p x) (list_all p (rest (y ∷ ys))) px (f (y ∷ ys) (and_from (p y) (list_all p ys) py later))
    go false true py later ih = and_from (p x) (list_all p (rest ys)) px (f ys later)
    go false false py later ih = and_from (p y) (list_all p (among x rest ys)) py ih

union_all : (p : ℕ → Bool) (xs ys : List ℕ) → list_all p xs ≡ true → list_all p ys ≡ true → list_all p (union xs ys) ≡ true
union_all p [] ys g h = h
union_all p (x ∷ xs) ys g h = let parts = and_parts (p x) (list_all p xs) g in among_all p x (union xs) ys parts.0 h (λ zs k. union_all p xs zs parts.1 k)

-- a union is no shorter than either list

among_long : (x : ℕ) (rest : List ℕ → List ℕ) (ys : List ℕ) → ((zs : List ℕ) → length zs ≤ length (rest zs)) → length ys ≤ length (among x rest ys)
among_long x rest [] f = omega arith
among_long x rest (y ∷ ys) f = go (nat_lt x y) (nat_eq x y) (among_long x rest ys f)
  where
    go : (a b : Bool) → length ys ≤ length (among x rest ys) → length (y ∷ ys) ≤ length (if a then x ∷ rest (y ∷ ys) else if b then x ∷ rest ys else y ∷ among x rest ys)
    go true b ih = omega (arith, f (y ∷ ys))
    go false true ih = omega (arith, f ys)
    go false false ih = omega (arith, ih)

among_more : (x : ℕ) (rest : List ℕ → List ℕ) (ys : List ℕ) (m : ℕ) → ((zs : List ℕ) → m ≤ length (rest zs)) → suc m ≤ length (among x rest ys)
among_more x rest [] m f = omega (arith, f [])
among_more x rest (y ∷ ys) m f = go (nat_lt x y) (nat_eq x y) (among_more x rest ys m f)
  where
    go : (a b : Bool) → suc m ≤ length (among x rest ys) → suc m ≤ length (if a then x ∷ rest (y ∷ ys) else if b then x ∷ rest ys else y ∷ among x rest ys)
    go true b ih = omega (arith, f (y ∷ ys))
    go false true ih = omega (arith, f ys)
    go false false ih = omega (arith, ih)

pub second_long : (xs ys : List ℕ) → length ys ≤ length (union xs ys)
second_long [] ys = omega arith
second_long (x ∷ xs) ys = among_long x (union xs) ys (λ zs. second_long xs zs)

pub first_long : (xs ys : List ℕ) → length xs ≤ length (union xs ys)
first_long [] ys = omega arith
first_long (x ∷ xs) ys = among_more x (union xs) ys (length xs) (λ zs. first_long xs zs)

two_apart : (a b : ℕ) → a ≢ b → 2 ≤ length (union (a ∷ []) (b ∷ []))
two_apart a b ne = go (nat_lt a b) (nat_eq a b) refl
  where
    go : (s t : Bool) → nat_eq a b ≡ t → 2 ≤ length (if s then a ∷ b ∷ [] else if t then a ∷ [] else b ∷ a ∷ [])
    go true t e = omega arith
    go false true e = absurd (ne (eqb-true a b e))
    go false false e = omega arith

-- the listed cuts of a node that isn't the constant, the node alone among them

pub record IsCutOf (m : ℕ) (c : List ℕ) : Type 0 where
  pub rising : rise_above 0 c ≡ true
  pub low : are_below (suc m) c ≡ true
  pub sized : (c ≡ m ∷ []) ⊎ (2 ≤ length c)

pub alone_of : (m : ℕ) → 0 < m → IsCutOf m (m ∷ [])
alone_of m positive = record {
  rising = and_from (nat_lt 0 m) true (lt-ltb 0 m positive) refl;
  low = and_from (nat_lt m (suc m)) true (lt-ltb m (suc m) (omega arith)) refl;
  sized = inl refl;
}

lower : (m n : ℕ) (c : List ℕ) → m < n → are_below (suc m) c ≡ true → are_below n c ≡ true
lower m n [] lt h = refl
lower m n (x ∷ xs) lt h =
    let parts = and_parts (nat_lt x (suc m)) (are_below (suc m) xs) h in
    and_from (nat_lt x n) (are_below n xs) (lt-ltb x n (omega (arith, ltb-true x (suc m) parts.0))) (lower m n xs lt parts.1)

abbrev pub IsUnionOf : ℕ → List ℕ → Type 0
IsUnionOf n c = (rise_above 0 c ≡ true) × (are_below n c ≡ true) × (2 ≤ length c)

pub union_of : (a b n : ℕ) (c d : List ℕ) → a ≢ b → a < n → b < n → IsCutOf a c → IsCutOf b d → IsUnionOf n (union c d)
union_of a b n c d ne la lb p q = (
  union_rises c d 0 p.rising q.rising,
  union_all (λ k. nat_lt k n) c d (lower a n c la p.low) (lower b n d lb q.low),
  elim p.sized [
    | inr long ↦ omega (arith, long, first_long c d)
    | inl e ↦ elim q.sized [
      | inr long ↦ omega (arith, long, second_long c d)
      | inl f ↦ subst (λ (l : List ℕ). 2 ≤ length (union l d)) (sym e) (subst (λ (l : List ℕ). 2 ≤ length (union (a ∷ []) l)) (sym f) (two_apart a b ne))
    ]
  ],
)

-- unions that are kept have at most k leaves
filter_small : (k : ℕ) (es : List (List ℕ)) → All (λ c. length c ≤ k) (filter (is_small k) es)
filter_small k [] = All-nil (λ c. length c ≤ k)
filter_small k (e ∷ es) = go (is_small k e) refl (filter_small k es)
  where
    go : (b : Bool) → is_small k e ≡ b → All (λ c. length c ≤ k) (filter (is_small k) es) → All (λ c. length c ≤ k) (if b then e ∷ filter (is_small k) es else filter (is_small k) es)
    go true s ih = All-cons (λ c. length c ≤ k) e (filter (is_small k) es) (leb-true (length e) k s) ih
    go false s ih = ih

unions_small : (k : ℕ) (cs ds : List (List ℕ)) → All (λ c. length c ≤ k) (unions k cs ds)
unions_small k [] ds = All-nil (λ c. length c ≤ k)
unions_small k (c ∷ cs) ds = All-append (λ e. length e ≤ k) (unions_with k c ds) (unions k cs ds) (filter_small k (map (union c) ds)) (unions_small k cs ds)

both : (P Q : List ℕ → Type 0) (cs : List (List ℕ)) → All P cs → All Q cs → All (λ c. P c × Q c) cs
both P Q cs p q i d lt = (p i d lt, q i d lt)

firsts : (k a b n : ℕ) (cs ds : List (List ℕ)) → a ≢ b → a < n → b < n → All (IsCutOf a) cs → All (IsCutOf b) ds → All (λ c. IsUnionOf n c × (length c ≤ k)) (merge_cut_sets k cs ds)
firsts k a b n cs ds ne la lb p q =
    let Q : List ℕ → Type 0 = λ c. IsUnionOf n c × (length c ≤ k) in
    All-take Q 31 (arranged [] (unions k cs ds)) (all_arranged Q [] (unions k cs ds) (All-nil Q)
    (both (IsUnionOf n) (λ c. length c ≤ k) (unions k cs ds) (all_unions k (IsCutOf a) (IsCutOf b) (IsUnionOf n) cs ds (λ c d f g. union_of a b n c d ne la lb f g) p q) (unions_small k cs ds)))

-- two fan-ins of a hashed AND
pub record AreFanIns (n : ℕ) (a b : Lit) : Type 0 where
  pub first : 0 < node_of a
  pub second : 0 < node_of b
  pub apart : node_of a ≢ node_of b
  pub first_low : node_of a < n
  pub second_low : node_of b < n

pub fan_ins : (n : ℕ) (a b : Lit) → is_gate n (And a b) ≡ true → AreFanIns n a b
fan_ins n a b h =
    let p = and_parts (nat_le 2 a.0) (nat_lt a.0 b.0 && (not (nat_eq (node_of a) (node_of b)) && nat_lt (node_of b) n)) h in
    let q = and_parts (nat_lt a.0 b.0) (not (nat_eq (node_of a) (node_of b)) && nat_lt (node_of b) n) p.1 in
    let r = and_parts (not (nat_eq (node_of a) (node_of b))) (nat_lt (node_of b) n) q.1 in
    let two : 2 ≤ a.0 = leb-true 2 a.0 p.0 in
    let less : a.0 < b.0 = ltb-true a.0 b.0 q.0 in
    let low : node_of b < n = ltb-true (node_of b) n r.1 in
    let apart : node_of a ≢ node_of b = eqb-false (node_of a) (node_of b) (not-true (nat_eq (node_of a) (node_of b)) r.0) in
    record { first = omega (arith, two); second = omega (arith, two, less); apart = apart; first_low = omega (arith, less, low, apart); second_low = low }

-- the cuts of an AND but the last
and_cuts : (k count : ℕ) (rows : List Row) → IsHashed count rows → (n : ℕ) (a b : Lit) → AreFanIns n a b
    → All (IsCutOf (node_of a)) (list_at (listed_cuts k rows) (node_of a)) → All (IsCutOf (node_of b)) (list_at (listed_cuts k rows) (node_of b))
    → All (λ c. IsUnionOf n c × (length c ≤ k)) (merge_cut_sets k (list_at (listed_cuts k rows) (node_of a)) (list_at (listed_cuts k rows) (node_of b)))
and_cuts k count rows h n a b f p q = firsts k (node_of a) (node_of b) n (list_at (listed_cuts k rows) (node_of a)) (list_at (listed_cuts k rows) (node_of b)) f.apart f.first_low f.second_low p q

-- what lies below a node lies below the next
pub upper : (n : ℕ) (c : List ℕ) → are_below n c ≡ true → are_below (suc n) c ≡ true
upper n [] h = refl
upper n (x ∷ xs) h =
    let parts = and_parts (nat_lt x n) (are_below n xs) h in
    and_from (nat_lt x (suc n)) (are_below (suc n) xs) (lt-ltb x (suc n) (omega (arith, ltb-true x n parts.0))) (upper n xs parts.1)

as_cut : (k n : ℕ) (cs : List (List ℕ)) → All (λ c. IsUnionOf n c × (length c ≤ k)) cs → All (IsCutOf n) cs
as_cut k n cs h i d lt =
    let u = h i d lt in
    record { rising = u.0.0; low = upper n (get_or cs i d) u.0.1; sized = inr u.0.2 }

row_all : (k count : ℕ) (rows : List Row) → IsHashed count rows → (n : ℕ) → 0 < n → (row : Row) → ((count < n) → is_gate n row ≡ true) → (n < count + 1 → row ≡ Source)
    → ((m : ℕ) → 0 < m → m < n → All (IsCutOf m) (list_at (listed_cuts k rows) m)) → All (IsCutOf n) (row_cuts k (list_at (listed_cuts k rows)) n row)
row_all k count rows h n positive Free gate front below = All-cons (IsCutOf n) (n ∷ []) [] (alone_of n positive) (All-nil (IsCutOf n))
row_all k count rows h n positive Source gate front below = All-cons (IsCutOf n) (n ∷ []) [] (alone_of n positive) (All-nil (IsCutOf n))
row_all k count rows h n positive (Alias a) gate front below = All-cons (IsCutOf n) (n ∷ []) [] (alone_of n positive) (All-nil (IsCutOf n))
row_all k count rows h n positive (And a b) gate front below =
    let at : count < n = after in
    let f = fan_ins n a b (gate at) in
    let cuts = merge_cut_sets k (list_at (listed_cuts k rows) (node_of a)) (list_at (listed_cuts k rows) (node_of b)) in
    All-append (IsCutOf n) cuts ((n ∷ []) ∷ [])
    (as_cut k n cuts (and_cuts k count rows h n a b f (below (node_of a) f.first f.first_low) (below (node_of b) f.second f.second_low)))
    (All-cons (IsCutOf n) (n ∷ []) [] (alone_of n positive) (All-nil (IsCutOf n)))
  where
    after : count < n
    after = elim (cases_lt n (count + 1)) [ inl lt ↦ absurd (cc (front lt)) | inr ge ↦ omega (arith, ge) ]

all_listed : (k count : ℕ) (rows : List Row) → IsHashed count rows → (bound n : ℕ) → n < bound → 0 < n → n < length rows → All (IsCutOf n) (list_at (listed_cuts k rows) n)
all_listed k count rows h zero n b positive lt = absurd (omega (arith, b))
all_listed k count rows h (suc bound) n b positive lt =
    subst (All (IsCutOf n)) (sym (listed_at k rows (hashed_in_order count rows h) n lt))
    (row_all k count rows h n positive (row_at rows n) (λ above. h.gates n above lt) (λ low. h.front n low) (λ m p less. all_listed k count rows h bound m (omega (arith, less, b)) p (omega (arith, less, lt))))

pub listed_cuts_rise : ListedCutsRise
listed_cuts_rise k count rows h n above lt i inside = go (row_at rows n) refl (h.gates n above lt)
  where
    cuts : ℕ → List (List ℕ)
    cuts = list_at (listed_cuts k rows)

    order : InOrder rows
    order = hashed_in_order count rows h

    go : (row : Row) → row_at rows n ≡ row → is_gate n row ≡ true → IsListedCut k n (get_or (cuts n) i [])
    go Free e gate = absurd (cc gate)
    go Source e gate = absurd (cc gate)
    go (Alias a) e gate = absurd (cc gate)
    go (And a b) e gate =
        let f = fan_ins n a b gate in
        let firsts = merge_cut_sets k (cuts (node_of a)) (cuts (node_of b)) in
        let all = and_cuts k count rows h n a b f
        (all_listed k count rows h n (node_of a) f.first_low f.first (omega (arith, f.first_low, lt)))
        (all_listed k count rows h n (node_of b) f.second_low f.second (omega (arith, f.second_low, lt))) in
        let is : cuts n ≡ firsts ++ (n ∷ []) ∷ [] = listed_at k rows order n lt ∙ ap (row_cuts k cuts n) e in
        let low : i < length firsts = omega (arith, inside, ap length is, length-append firsts ((n ∷ []) ∷ [])) in
        let at = all i [] low in
        let same : get_or (cuts n) i [] ≡ get_or firsts i [] = ap (λ (l : List (List ℕ)). get_or l i []) is ∙ get_or_append_left firsts ((n ∷ []) ∷ []) [] i low in
        subst (IsListedCut k n) (sym same) (record { rising = at.0.0; below = at.0.1; two = at.0.2; few = at.1 })
