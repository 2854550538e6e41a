-- The cuts of a node but the last: an AND has one, and each rises, lies below the node and has 2 to k leaves.
use Rattle.std.proofs.Common.{◌≡◌, ℕ, zero, suc, ◌+◌, ◌-◌, ◌<◌, ◌≤◌, nat_lt, nat_eq, Bool, true, false, if◌then◌else◌, All, List, [], ◌∷◌, ◌++◌, length, take, get_or, bytes_eq, refl, sym, ap, ap₂, ◌∙◌, subst, inl, inr, arith}
use Rattle.std.proofs.lemmas.Bool.{cases_Bool, cases_lt, both_ways, cond-true, cond-false, le-leb, ne_eqb}
use Rattle.std.proofs.lemmas.List.{length-append, length_push, length-take-le, get_or-take, get_or-append-add, get_or_default}
use Rattle.std.proofs.lemmas.List.Elements.{All-nil, All-take, All-same}
use Rattle.syn_rows.specs.declared.Row.{Row}
use Rattle.syn_rows.specs.declared.Row.TheVariants.{Free, Source, And, Alias}
use Rattle.syn_rows.specs.Rows.{row_at, node_of}
use Rattle.syn_rows.specs.Reach.{is_and}
use Rattle.syn_hashed.specs.Hashed.{is_gate, IsHashed}
use Rattle.syn_cones.specs.Cones.{IsCut}
use Rattle.syn_cuts.specs.Cuts.{union, comes_before, put, arranged, is_small, unions_with, unions, merge_cut_sets, row_cuts, listed_cuts}
use Rattle.syn_cuts.specs.Laws.{IsListedCut}
use Rattle.syn_cuts.specs.Lists.{but_last, list_at}
use Rattle.syn_cuts.proofs.Cutting.{listed_at, listed_are_cuts}
use Rattle.syn_hashed.proofs.Orders.{and_inside, hashed_in_order}
use Rattle.syn_cuts.proofs.Rising.{fan_ins, listed_cuts_rise}
pub use Rattle.syn_lutnet.proofs.Folding.{below, In}
use Rattle.syn_map.specs.Labels.{choice, cuts_of, label_of, chosen}
use Rattle.syn_map.proofs.Choices.{choice_is}

take_front : (xs ys : List (List ℕ)) → take (length xs) (xs ++ ys) ≡ xs
take_front [] ys = refl
take_front (x ∷ xs) ys = ap (λ (l : List (List ℕ)). x ∷ l) (take_front xs ys)

pub but_last_is : (xs : List (List ℕ)) (y : List ℕ) → but_last (xs ++ y ∷ []) ≡ xs
but_last_is xs y =
    let long = length_push xs y in
    let same : length (xs ++ y ∷ []) - 1 ≡ length xs = omega (arith, long) in
    ap (λ m. take m (xs ++ y ∷ [])) same ∙ take_front xs (y ∷ [])

-- what holds of each cut but the last
all_but_last : (P : List ℕ → Type 0) (cs : List (List ℕ)) → ((i : ℕ) → i + 1 < length cs → P (get_or cs i [])) → All P (but_last cs)
all_but_last P cs h i d lt =
    let long = length-take-le (length cs - 1) cs (omega arith) in
    let inside : i < length cs - 1 = omega (arith, lt, long) in
    subst P (sym (get_or-take (length cs - 1) cs i d inside ∙ get_or_default cs i d [] (omega (arith, inside)))) (h i (omega (arith, inside)))

-- each cut of a node but the last is a listed one; a source has none
pub cuts_listed : (count k : ℕ) (rows : List Row) → IsHashed count rows → (n : ℕ) → n < length rows → All (IsListedCut k n) (cuts_of k rows n)
cuts_listed count k rows hashed n lt = elim (cases_lt n (count + 1)) [
  | inl low ↦ subst (λ (cs : List (List ℕ)). All (IsListedCut k n) (but_last cs))
      (sym (listed_at k rows (hashed_in_order count rows hashed) n lt ∙ ap (row_cuts k (list_at (listed_cuts k rows)) n) (hashed.front n low))) (All-nil (IsListedCut k n))
  | inr ge ↦ all_but_last (IsListedCut k n) (list_at (listed_cuts k rows) n) (listed_cuts_rise k count rows hashed n (omega (arith, ge)) lt)
]

pub cuts_in : (count k : ℕ) (rows : List Row) → IsHashed count rows → (n : ℕ) → n < length rows → All (In n) (cuts_of k rows n)
cuts_in count k rows hashed n lt i d inside = (cuts_listed count k rows hashed n lt i d inside).below

two_alone : (a b : ℕ) → nat_eq a b ≡ false → length (union (a ∷ []) (b ∷ [])) ≡ 2
two_alone a b e = go (nat_lt a b) (nat_eq a b) e
  where
    go : (l q : Bool) → q ≡ false → length (if l then a ∷ b ∷ [] else if q then a ∷ [] else b ∷ a ∷ []) ≡ 2
    go true q z = refl
    go false true z = absurd (both_ways true z refl)
    go false false z = refl

-- some cut is among the unions

put_some : (c : List ℕ) (ds : List (List ℕ)) → 1 ≤ length (put c ds)
put_some c [] = omega arith
put_some c (d ∷ ds) = go (comes_before c d) (bytes_eq c d)
  where
    go : (b e : Bool) → 1 ≤ length (if b then c ∷ d ∷ ds else if e then d ∷ ds else d ∷ put c ds)
    go true e = omega arith
    go false true = omega arith
    go false false = omega arith

arranged_kept : (ds cs : List (List ℕ)) → 1 ≤ length ds → 1 ≤ length (arranged ds cs)
arranged_kept ds [] h = h
arranged_kept ds (c ∷ cs) h = arranged_kept (put c ds) cs (put_some c ds)

arranged_some : (cs : List (List ℕ)) → 1 ≤ length cs → 1 ≤ length (arranged [] cs)
arranged_some [] h = absurd (omega (arith, h))
arranged_some (c ∷ cs) h = arranged_kept (put c []) cs (put_some c [])

take_some : (n : ℕ) (xs : List (List ℕ)) → 1 ≤ n → 1 ≤ length xs → 1 ≤ length (take n xs)
take_some zero xs h g = absurd (omega (arith, h))
take_some (suc n) [] h g = absurd (omega (arith, g))
take_some (suc n) (x ∷ xs) h g = omega arith

kept_some : (k : ℕ) (c : List ℕ) (ds : List (List ℕ)) (d : List ℕ) → length (union c d) ≤ k → 1 ≤ length (unions_with k c (ds ++ d ∷ []))
kept_some k c [] d h = subst (λ (l : List (List ℕ)). 1 ≤ length l) (sym (cond-true (is_small k (union c d)) (union c d ∷ []) [] (le-leb (length (union c d)) k h))) (omega arith)
kept_some k c (e ∷ ds) d h =
    let rest : List (List ℕ) = unions_with k c (ds ++ d ∷ []) in
    elim (cases_Bool (is_small k (union c e))) [
      | inl s ↦ subst (λ (l : List (List ℕ)). 1 ≤ length l) (sym (cond-true (is_small k (union c e)) (union c e ∷ rest) rest s)) (omega arith)
      | inr s ↦ subst (λ (l : List (List ℕ)). 1 ≤ length l) (sym (cond-false (is_small k (union c e)) (union c e ∷ rest) rest s)) (kept_some k c ds d h)
    ]

unions_some : (k : ℕ) (cs : List (List ℕ)) (c : List ℕ) (ds : List (List ℕ)) → 1 ≤ length (unions_with k c ds) → 1 ≤ length (unions k (cs ++ c ∷ []) ds)
unions_some k [] c ds h = omega (arith, h, length-append (unions_with k c ds) [])
unions_some k (e ∷ cs) c ds h = omega (arith, unions_some k cs c ds h, length-append (unions_with k e ds) (unions k (cs ++ c ∷ []) ds))

firsts_some : (k a b : ℕ) → 2 ≤ k → nat_eq a b ≡ false → (cs ds : List (List ℕ)) → 1 ≤ length (merge_cut_sets k (cs ++ (a ∷ []) ∷ []) (ds ++ (b ∷ []) ∷ []))
firsts_some k a b two differ cs ds =
    take_some 31 (arranged [] (unions k (cs ++ (a ∷ []) ∷ []) (ds ++ (b ∷ []) ∷ []))) (omega arith)
    (arranged_some (unions k (cs ++ (a ∷ []) ∷ []) (ds ++ (b ∷ []) ∷ [])) (unions_some k cs (a ∷ []) (ds ++ (b ∷ []) ∷ []) (kept_some k (a ∷ []) ds (b ∷ []) (omega (arith, two, two_alone a b differ)))))

-- the choice among cuts is one of them
choice_has : (P : List ℕ → Type 0) (label : ℕ → ℕ) (cuts : List (List ℕ)) → 1 ≤ length cuts → All P cuts → P (choice label cuts)
choice_has P label cuts some all =
    let first = (choice_is label cuts (λ e. let none : length cuts ≡ 0 = ap (λ (l : List (List ℕ)). length l) e in absurd (omega (arith, none, some)))).0 in
    subst P (get_or-append-add first.before (choice label cuts ∷ first.after) 0 [])
    (All-same P (first.before ++ choice label cuts ∷ first.after) cuts (sym first.split) all (length first.before + 0) [] (long first.before (choice label cuts) first.after))
  where
    long : (xs : List (List ℕ)) (y : List ℕ) (ys : List (List ℕ)) → length xs + 0 < length (xs ++ y ∷ ys)
    long [] y ys = omega arith
    long (x ∷ xs) y ys = omega (arith, long xs y ys)

module _ (count k : ℕ) (rows : List Row) (hashed : IsHashed count rows) (two : 2 ≤ k) where
  gate_at : (n : ℕ) → n < length rows → is_and (row_at rows n) ≡ true → is_gate n (row_at rows n) ≡ true
  gate_at n lt a = hashed.gates n (and_inside count rows hashed n a).0 lt

  row_ends : (cuts : ℕ → List (List ℕ)) (n : ℕ) (row : Row) → (xs : List (List ℕ)) × (row_cuts k cuts n row ≡ xs ++ (n ∷ []) ∷ [])
  row_ends cuts n Free = ([], refl)
  row_ends cuts n Source = ([], refl)
  row_ends cuts n (And a b) = (merge_cut_sets k (cuts (node_of a)) (cuts (node_of b)), refl)
  row_ends cuts n (Alias a) = ([], refl)

  list_ends : (m : ℕ) → m < length rows → (xs : List (List ℕ)) × (list_at (listed_cuts k rows) m ≡ xs ++ (m ∷ []) ∷ [])
  list_ends m lt = let (xs, e) = row_ends (list_at (listed_cuts k rows)) m (row_at rows m) in (xs, listed_at k rows (hashed_in_order count rows hashed) m lt ∙ e)

  row_filled : (n : ℕ) → n < length rows → (row : Row) → is_and row ≡ true → is_gate n row ≡ true → 1 ≤ length (but_last (row_cuts k (list_at (listed_cuts k rows)) n row))
  row_filled n lt (And a b) h g =
      let f = fan_ins n a b g in
      let (xs, e) = list_ends (node_of a) (omega (arith, f.first_low, lt)) in
      let (ys, q) = list_ends (node_of b) (omega (arith, f.second_low, lt)) in
      subst (λ (l : List (List ℕ)). 1 ≤ length l) (sym (but_last_is (merge_cut_sets k (list_at (listed_cuts k rows) (node_of a)) (list_at (listed_cuts k rows) (node_of b))) (n ∷ []) ∙ ap₂ (merge_cut_sets k) e q))
      (firsts_some k (node_of a) (node_of b) two (ne_eqb (node_of a) (node_of b) f.apart) xs ys)
  row_filled n lt row h g = absurd (both_ways false refl h)

  pub chosen_listed : (n : ℕ) → n < length rows → is_and (row_at rows n) ≡ true → IsListedCut k n (chosen k rows n)
  chosen_listed n lt a = choice_has (IsListedCut k n) (label_of k rows) (cuts_of k rows n)
      (subst (λ (cs : List (List ℕ)). 1 ≤ length (but_last cs)) (sym (listed_at k rows (hashed_in_order count rows hashed) n lt)) (row_filled n lt (row_at rows n) a (gate_at n lt a)))
      (cuts_listed count k rows hashed n lt)

  pub chosen_is_cut : (n : ℕ) → n < length rows → is_and (row_at rows n) ≡ true → IsCut rows (chosen k rows n) n
  chosen_is_cut n lt a = choice_has (λ c. IsCut rows c n) (label_of k rows) (cuts_of k rows n)
      (subst (λ (cs : List (List ℕ)). 1 ≤ length (but_last cs)) (sym (listed_at k rows (hashed_in_order count rows hashed) n lt)) (row_filled n lt (row_at rows n) a (gate_at n lt a)))
      (All-take (λ c. IsCut rows c n) (length (list_at (listed_cuts k rows) n) - 1) (list_at (listed_cuts k rows) n) (listed_are_cuts k rows (hashed_in_order count rows hashed) n lt))
