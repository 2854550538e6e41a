-- Lists of cuts, as nodes get theirs.
use Rattle.std.proofs.Common.{◌≡◌, ◌≢◌, ℕ, zero, suc, ◌<◌, All, List, [], ◌∷◌, ◌++◌, length, replicate, refl, sym, ap, ap₂, ◌∙◌, inl, inr, ◌⊎◌, arith}
use Rattle.std.proofs.Math.ListN.{set, length-set}
use Rattle.std.proofs.lemmas.Bool.Decides.{eqb_tells}
use Rattle.std.proofs.lemmas.Grind.{get_or-set_at}
use Rattle.std.proofs.lemmas.List.{get_or-set_other, get_or-replicate, length-replicate}
use Rattle.std.proofs.lemmas.List.Elements.{All-head, All-tail}
use Rattle.syn_rows.specs.declared.Lit.{Lit}
use Rattle.syn_rows.specs.declared.Row.{Row}
use Rattle.syn_rows.specs.declared.Row.TheVariants.{Free, Source, And, Alias}
use Rattle.syn_rows.specs.Rows.{row_at, node_of, AllRefs, InOrder}
use Rattle.syn_rows.proofs.Folds.{length-fold}
use Rattle.syn_cuts.specs.Cuts.{merge_cut_sets, row_cuts, listed_cuts}
use Rattle.syn_cuts.specs.Lists.{list_at, with_lists, AreListed, IsFound}
use Rattle.syn_cuts.proofs.Cutting.{row_cuts-local, listed_at}

AllRefs-both : (P Q R : ℕ → Type 0) → ((m : ℕ) → P m → Q m → R m) → (row : Row) → AllRefs P row → AllRefs Q row → AllRefs R row
AllRefs-both P Q R f Free h g = h
AllRefs-both P Q R f Source h g = h
AllRefs-both P Q R f (And a b) h g = (f (node_of a) h.0 g.0, f (node_of b) h.1 g.1)
AllRefs-both P Q R f (Alias a) h g = f (node_of a) h g

pub refs_within : (rows : List Row) (n count : ℕ) → InOrder rows → n < count → AllRefs (λ m. m < count) (row_at rows n)
refs_within rows n count order lt = AllRefs-both (λ m. m < n) (λ m. m < n) (λ m. m < count) (λ m l k. omega arith) (row_at rows n) (order n) (order n)

-- an AND both of whose fan-ins have their lists
pub listed_and : (k : ℕ) (rows : List Row) (n : ℕ) (a b : Lit) (left right : List (List ℕ)) → InOrder rows → n < length rows → row_at rows n ≡ And a b → left ≡ list_at (listed_cuts k rows) (node_of a)
    → right ≡ list_at (listed_cuts k rows) (node_of b) → merge_cut_sets k left right ++ (n ∷ []) ∷ [] ≡ list_at (listed_cuts k rows) n
listed_and k rows n a b left right order lt row first second =
    ap₂ (λ (x y : List (List ℕ)). merge_cut_sets k x y ++ (n ∷ []) ∷ []) first second
    ∙ ap (row_cuts k (list_at (listed_cuts k rows)) n) (sym row)
    ∙ sym (listed_at k rows order n lt)

-- a node that is no AND
pub listed_other : (k : ℕ) (rows : List Row) (n : ℕ) → InOrder rows → n < length rows → ((a b : Lit) → row_at rows n ≢ And a b) → (n ∷ []) ∷ [] ≡ list_at (listed_cuts k rows) n
listed_other k rows n order lt other = go (row_at rows n) other ∙ sym (listed_at k rows order n lt)
  where
    go : (row : Row) → ((a b : Lit) → row ≢ And a b) → (n ∷ []) ∷ [] ≡ row_cuts k (list_at (listed_cuts k rows)) n row
    go Free h = refl
    go Source h = refl
    go (And a b) h = absurd (h a b refl)
    go (Alias a) h = refl

-- a node below which all have their lists
pub listed_below : (k : ℕ) (rows : List Row) (lists : List (List (List ℕ))) (n : ℕ) → InOrder rows → n < length rows → ((m : ℕ) → m < n → list_at lists m ≡ list_at (listed_cuts k rows) m)
    → row_cuts k (list_at lists) n (row_at rows n) ≡ list_at (listed_cuts k rows) n
listed_below k rows lists n order lt done =
    row_cuts-local k (list_at lists) (list_at (listed_cuts k rows)) n (row_at rows n)
    (AllRefs-both (λ m. m < n) (λ m. m < n) (λ m. list_at lists m ≡ list_at (listed_cuts k rows) m) (λ m l h. done m l) (row_at rows n) (order n) (order n))
    ∙ sym (listed_at k rows order n lt)

-- one more list

list_there : (lists : List (List (List ℕ))) (n m : ℕ) (list : List (List ℕ)) → n < length lists → (m ≡ n) ⊎ (list_at (set lists n list) m ≡ list_at lists m)
list_there lists n m list lt = elim (eqb_tells m n) [ inl p ↦ inl p.1 | inr p ↦ inr (get_or-set_other lists n m list [] p.1) ]

list_here : (lists : List (List (List ℕ))) (n m : ℕ) (list : List (List ℕ)) → n < length lists → m ≡ n → list_at (set lists n list) m ≡ list
list_here lists n m list lt e = get_or-set_at lists n m list [] e lt

pub set_listed : (k : ℕ) (rows : List Row) (lists new : List (List (List ℕ))) (n : ℕ) (list : List (List ℕ)) → AreListed k rows lists → n < length rows → list ≡ list_at (listed_cuts k rows) n → new ≡ set lists n list → AreListed k rows new
set_listed k rows lists new n list are lt e s =
    let size = are.count in
    let inside : n < length lists = omega (arith, size) in
    record {
      count = let a = ap length s in let b = length-set lists n list in omega (arith, a, b, size);
      each = λ m l. elim (list_there lists n m list inside) [
        | inl at ↦ inr (ap (λ x. list_at x m) s ∙ list_here lists n m list inside at ∙ e ∙ ap (list_at (listed_cuts k rows)) (sym at))
        | inr other ↦ elim (are.each m l) [ inl none ↦ inl (ap (λ x. list_at x m) s ∙ other ∙ none) | inr some ↦ inr (ap (λ x. list_at x m) s ∙ other ∙ some) ]
      ];
    }

pub found_listed : (k : ℕ) (rows : List Row) (lists : List (List (List ℕ))) (found : List (ℕ × List (List ℕ))) → AreListed k rows lists → All (IsFound k rows) found → AreListed k rows (with_lists lists found)
found_listed k rows lists [] are is = are
found_listed k rows lists (f ∷ fs) are is =
    let here = All-head (IsFound k rows) f fs is in
    found_listed k rows (set lists f.0 f.1) fs (set_listed k rows lists (set lists f.0 f.1) f.0 f.1 are here.0 here.1 refl) (All-tail (IsFound k rows) f fs is)

-- all lists
pub all_done : (k : ℕ) (rows : List Row) (lists : List (List (List ℕ))) → AreListed k rows lists → ((m : ℕ) → m < length rows → list_at lists m ≡ list_at (listed_cuts k rows) m) → lists ≡ listed_cuts k rows
all_done k rows lists are done =
    let size = are.count in
    let all = length-fold (row_cuts k) [] [] rows in
    same lists (listed_cuts k rows) (omega (arith, size, all)) (λ m l. done m (omega (arith, size, l)))
  where
    same : (xs ys : List (List (List ℕ))) → length xs ≡ length ys → ((m : ℕ) → m < length xs → list_at xs m ≡ list_at ys m) → xs ≡ ys
    same [] [] e f = refl
    same [] (y ∷ ys) e f = absurd (omega arith)
    same (x ∷ xs) [] e f = absurd (omega arith)
    same (x ∷ xs) (y ∷ ys) e f = ap₂ (λ (a : List (List ℕ)) (l : List (List (List ℕ))). a ∷ l) (f zero (omega arith)) (same xs ys (omega arith) (λ m l. f (suc m) (omega arith)))

-- no list
pub none_listed : (k : ℕ) (rows : List Row) (lists : List (List (List ℕ))) → lists ≡ replicate (length rows) [] → AreListed k rows lists
none_listed k rows lists e = record {
  count = ap length e ∙ length-replicate (length rows) [];
  each = λ n lt. inl (ap (λ l. list_at l n) e ∙ get_or-replicate (length rows) n [] [] lt);
}
