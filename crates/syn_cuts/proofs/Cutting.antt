-- Each listed cut of a node is a cut of it.
use Rattle.std.proofs.Common.{◌≡◌, ℕ, zero, suc, ◌<◌, nat_lt, nat_eq, Bool, true, false, if◌then◌else◌, All, List, [], ◌∷◌, ◌++◌, length, map, bytes_eq, refl, sym, ap, ap₂, ◌∙◌, subst, inl, inr, arith}
use Rattle.std.specs.List.{list_any}
use Rattle.std.proofs.lemmas.Bool.{or_cases, or_left, or_right, both_ways}
use Rattle.std.proofs.lemmas.List.Elements.{All-nil, All-cons, All-head, All-tail, All-append, All-take, All-filter}
use Rattle.syn_rows.specs.declared.Lit.{Lit}
use Rattle.syn_rows.specs.declared.Row.{Row}
use Rattle.syn_rows.specs.declared.Row.TheVariants.{Free, Source, And, Alias}
use Rattle.syn_rows.specs.Rows.{row_at, node_of, AllRefs, InOrder}
use Rattle.syn_rows.proofs.Folds.{IsLocal, fold_step}
use Rattle.syn_cuts.specs.Cuts.{among, union, comes_before, put, arranged, is_small, unions_with, unions, merge_cut_sets, row_cuts, listed_cuts}
use Rattle.syn_rows.specs.Nodes.{has_node}
use Rattle.syn_cones.specs.Cones.{LeadsToSource, IsCut}
use Rattle.syn_cuts.specs.Laws.{ListedAreCuts}
use Rattle.syn_cuts.specs.Lists.{list_at}
use Rattle.syn_rows.proofs.Nodes.{has_here, has_there, same_node}
use Rattle.syn_cones.proofs.Swapping.{and_no_end, and_refers}

-- a union has the nodes of both lists

among_here : (x : ℕ) (rest : List ℕ → List ℕ) (ys : List ℕ) → has_node (among x rest ys) x ≡ true
among_here x rest [] = has_here x (rest [])
among_here x rest (y ∷ ys) = go (nat_lt x y) (nat_eq x y) (among_here x rest ys)
  where
    go : (a b : Bool) → has_node (among x rest ys) x ≡ true → has_node (if a then x ∷ rest (y ∷ ys) else if b then x ∷ rest ys else y ∷ among x rest ys) x ≡ true
    go true b ih = has_here x (rest (y ∷ ys))
    go false true ih = has_here x (rest ys)
    go false false ih = has_there y x (among x rest ys) ih

among_rest : (x : ℕ) (rest : List ℕ → List ℕ) (ys : List ℕ) (n : ℕ) → ((zs : List ℕ) → has_node (rest zs) n ≡ true) → has_node (among x rest ys) n ≡ true
among_rest x rest [] n h = has_there x n (rest []) (h [])
among_rest x rest (y ∷ ys) n h = go (nat_lt x y) (nat_eq x y) (among_rest x rest ys n h)
  where
    go : (a b : Bool) → has_node (among x rest ys) n ≡ true → has_node (if a then x ∷ rest (y ∷ ys) else if b then x ∷ rest ys else y ∷ among x rest ys) n ≡ true
    go true b ih = has_there x n (rest (y ∷ ys)) (h (y ∷ ys))
    go false true ih = has_there x n (rest ys) (h ys)
    go false false ih = has_there y n (among x rest ys) ih

among_right : (x : ℕ) (rest : List ℕ → List ℕ) (ys : List ℕ) (n : ℕ) → ((zs : List ℕ) → has_node zs n ≡ true → has_node (rest zs) n ≡ true) → has_node ys n ≡ true → has_node (among x rest ys) n ≡ true
among_right x rest [] n f h = absurd (both_ways false refl h)
among_right x rest (y ∷ ys) n f h = go (nat_lt x y) (nat_eq x y) refl (among_right x rest ys n f)
  where
    go : (a b : Bool) → nat_eq x y ≡ b → (has_node ys n ≡ true → has_node (among x rest ys) n ≡ true) → has_node (if a then x ∷ rest (y ∷ ys) else if b then x ∷ rest ys else y ∷ among x rest ys) n ≡ true
    go true b e ih = has_there x n (rest (y ∷ ys)) (f (y ∷ ys) h)
    go false true e ih = elim (or_cases (nat_eq y n) (has_node ys n) h) [
      | inl s ↦ or_left (nat_eq x n) (has_node (rest ys) n) (ap (λ k. nat_eq k n) (same_node x y e) ∙ s)
      | inr t ↦ has_there x n (rest ys) (f ys t)
    ]
    go false false e ih = elim (or_cases (nat_eq y n) (has_node ys n) h) [
      | inl s ↦ or_left (nat_eq y n) (has_node (among x rest ys) n) s
      | inr t ↦ has_there y n (among x rest ys) (ih t)
    ]

union_right : (xs ys : List ℕ) (n : ℕ) → has_node ys n ≡ true → has_node (union xs ys) n ≡ true
union_right [] ys n h = h
union_right (x ∷ xs) ys n h = among_right x (union xs) ys n (λ zs k. union_right xs zs n k) h

union_left : (xs ys : List ℕ) (n : ℕ) → has_node xs n ≡ true → has_node (union xs ys) n ≡ true
union_left [] ys n h = absurd (both_ways false refl h)
union_left (x ∷ xs) ys n h = elim (or_cases (nat_eq x n) (has_node xs n) h) [
  | inl e ↦ subst (λ k. has_node (among x (union xs) ys) k ≡ true) (same_node x n e) (among_here x (union xs) ys)
  | inr t ↦ among_rest x (union xs) ys n (λ zs. union_left xs zs n t)
]

-- so it is a cut

any_weaker : (cs us path : List ℕ) → ((n : ℕ) → has_node cs n ≡ true → has_node us n ≡ true) → list_any (has_node cs) path ≡ true → list_any (has_node us) path ≡ true
any_weaker cs us [] f h = absurd (both_ways false refl h)
any_weaker cs us (m ∷ ms) f h = elim (or_cases (has_node cs m) (list_any (has_node cs) ms) h) [
  | inl t ↦ or_left (has_node us m) (list_any (has_node us) ms) (f m t)
  | inr t ↦ or_right (has_node us m) (list_any (has_node us) ms) (any_weaker cs us ms f t)
]

pub cut_union : (rows : List Row) (cs ds : List ℕ) (a b : Lit) (n : ℕ) → row_at rows n ≡ And a b → IsCut rows cs (node_of a) → IsCut rows ds (node_of b) → IsCut rows (union cs ds) n
cut_union rows cs ds a b n e f g = λ path source. go path source
  where
    go : (path : List ℕ) → LeadsToSource rows n path → list_any (has_node (union cs ds)) (n ∷ path) ≡ true
    go [] source = absurd (and_no_end rows n a b e source)
    go (m ∷ ms) source =
        or_right (has_node (union cs ds) n) (list_any (has_node (union cs ds)) (m ∷ ms))
        (elim (and_refers rows n m a b e source.0) [
          | inl s ↦ any_weaker cs (union cs ds) (m ∷ ms) (λ k h. union_left cs ds k h) (subst (IsCut rows cs) s f ms source.1)
          | inr t ↦ any_weaker ds (union cs ds) (m ∷ ms) (λ k h. union_right cs ds k h) (subst (IsCut rows ds) t g ms source.1)
        ])

pub cut_alone : (rows : List Row) (n : ℕ) → IsCut rows (n ∷ []) n
cut_alone rows n = λ path source. or_left (has_node (n ∷ []) n) (list_any (has_node (n ∷ [])) path) (has_here n [])

-- and so is each that is listed

module _ (P : List ℕ → Type 0) where
  all_put : (c : List ℕ) (ds : List (List ℕ)) → P c → All P ds → All P (put c ds)
  all_put c [] h a = All-cons P c [] h (All-nil P)
  all_put c (d ∷ ds) h a = go (comes_before c d) (bytes_eq c d) (all_put c ds h (All-tail P d ds a))
    where
      go : (b e : Bool) → All P (put c ds) → All P (if b then c ∷ d ∷ ds else if e then d ∷ ds else d ∷ put c ds)
      go true e ih = All-cons P c (d ∷ ds) h a
      go false true ih = a
      go false false ih = All-cons P d (put c ds) (All-head P d ds a) ih

  pub all_arranged : (ds cs : List (List ℕ)) → All P ds → All P cs → All P (arranged ds cs)
  all_arranged ds [] a b = a
  all_arranged ds (c ∷ cs) a b = all_arranged (put c ds) cs (all_put c ds (All-head P c cs b) a) (All-tail P c cs b)

all_unions_with : (k : ℕ) (P Q : List ℕ → Type 0) (c : List ℕ) (ds : List (List ℕ)) → ((d : List ℕ) → P d → Q (union c d)) → All P ds → All Q (unions_with k c ds)
all_unions_with k P Q c ds f a = All-filter (is_small k) Q (map (union c) ds) (each ds a)
  where
    each : (es : List (List ℕ)) → All P es → All Q (map (union c) es)
    each [] a = All-nil Q
    each (d ∷ es) a = All-cons Q (union c d) (map (union c) es) (f d (All-head P d es a)) (each es (All-tail P d es a))

pub all_unions : (k : ℕ) (P R Q : List ℕ → Type 0) (cs ds : List (List ℕ)) → ((c d : List ℕ) → P c → R d → Q (union c d)) → All P cs → All R ds → All Q (unions k cs ds)
all_unions k P R Q [] ds f a b = All-nil Q
all_unions k P R Q (c ∷ cs) ds f a b =
    All-append Q (unions_with k c ds) (unions k cs ds) (all_unions_with k R Q c ds (λ d h. f c d (All-head P c cs a) h) b) (all_unions k P R Q cs ds f (All-tail P c cs a) b)

all_row : (k : ℕ) (rows : List Row) (cuts : ℕ → List (List ℕ)) (n : ℕ) (row : Row) → row_at rows n ≡ row → AllRefs (λ m. All (λ c. IsCut rows c m) (cuts m)) row → All (λ c. IsCut rows c n) (row_cuts k cuts n row)
all_row k rows cuts n Free e h = All-cons (λ c. IsCut rows c n) (n ∷ []) [] (cut_alone rows n) (All-nil (λ c. IsCut rows c n))
all_row k rows cuts n Source e h = All-cons (λ c. IsCut rows c n) (n ∷ []) [] (cut_alone rows n) (All-nil (λ c. IsCut rows c n))
all_row k rows cuts n (Alias a) e h = All-cons (λ c. IsCut rows c n) (n ∷ []) [] (cut_alone rows n) (All-nil (λ c. IsCut rows c n))
all_row k rows cuts n (And a b) e h =
    let Q : List ℕ → Type 0 = λ c. IsCut rows c n in
    let all : All Q (unions k (cuts (node_of a)) (cuts (node_of b))) =
    all_unions k (λ c. IsCut rows c (node_of a)) (λ c. IsCut rows c (node_of b)) Q (cuts (node_of a)) (cuts (node_of b)) (λ c d f g. cut_union rows c d a b n e f g) h.0 h.1 in
    All-append Q (merge_cut_sets k (cuts (node_of a)) (cuts (node_of b))) ((n ∷ []) ∷ [])
    (All-take Q 31 (arranged [] (unions k (cuts (node_of a)) (cuts (node_of b)))) (all_arranged Q [] (unions k (cuts (node_of a)) (cuts (node_of b))) (All-nil Q) all))
    (All-cons Q (n ∷ []) [] (cut_alone rows n) (All-nil Q))

-- the listed cuts of a node are those that its row gives it

pub row_cuts-local : (k : ℕ) → IsLocal (row_cuts k)
row_cuts-local k f g n Free h = refl
row_cuts-local k f g n Source h = refl
row_cuts-local k f g n (And a b) h = ap₂ (λ (x y : List (List ℕ)). merge_cut_sets k x y ++ (n ∷ []) ∷ []) h.0 h.1
row_cuts-local k f g n (Alias a) h = refl

pub listed_at : (k : ℕ) (rows : List Row) → InOrder rows → (n : ℕ) → n < length rows → list_at (listed_cuts k rows) n ≡ row_cuts k (list_at (listed_cuts k rows)) n (row_at rows n)
listed_at k rows order n lt = fold_step (row_cuts k) [] (row_cuts-local k) [] rows n n (omega arith) lt (order n)

pub listed_are_cuts : ListedAreCuts
listed_are_cuts k rows order n lt = below (suc n) n (omega arith) lt
  where
    below : (bound n : ℕ) → n < bound → n < length rows → All (λ c. IsCut rows c n) (list_at (listed_cuts k rows) n)
    below zero n b lt = absurd (omega arith)
    below (suc bound) n b lt =
        subst (All (λ c. IsCut rows c n)) (sym (listed_at k rows order n lt))
        (all_row k rows (list_at (listed_cuts k rows)) n (row_at rows n) refl (each (row_at rows n) (order n) (λ m l. below bound m (omega arith) (omega arith))))
      where
        each : (row : Row) → AllRefs (λ m. m < n) row → ((m : ℕ) → m < n → All (λ c. IsCut rows c m) (list_at (listed_cuts k rows) m)) → AllRefs (λ m. All (λ c. IsCut rows c m) (list_at (listed_cuts k rows) m)) row
        each Free h f = h
        each Source h f = h
        each (And x y) h f = (f (node_of x) h.0, f (node_of y) h.1)
        each (Alias x) h f = f (node_of x) h
