-- Marks of nodes that keep a node of their own.
use Rattle.std.proofs.Common.{◌≡◌, ◌≢◌, ℕ, suc, ◌+◌, ◌*◌, ◌%◌, ◌<◌, ◌≤◌, ◌⊎◌, nat_eq, Bool, true, false, All, List, length, set, get_or, refl, sym, ap, ◌∙◌, subst, arith, inl, inr}
use Rattle.std.proofs.lemmas.Bool.{cases_eq, cond-false, cond-true, eq-eqb, ne_eqb, both_ways, false_from_ne_true}
use Rattle.std.proofs.lemmas.List.{get_or-set_same, get_or-set_other, get_or_default}
use Rattle.syn_rows.specs.declared.Lit.{Lit}
use Rattle.syn_rows.specs.declared.Row.{Row}
use Rattle.syn_rows.specs.declared.Row.TheVariants.{And}
use Rattle.syn_rows.specs.Rows.{node_of, row_at}
use Rattle.syn_rows.specs.References.{hits, refs}
use Rattle.syn_balance.specs.Roots.{mark_at, refs_before, complements, complements_before, IsObserved, HasRoots, IsCounted, ComplementsOf, AreRead}

hits_other : (m n : ℕ) → m ≢ n → hits m n ≡ 0
hits_other m n ne = cond-false (nat_eq m n) 1 0 (ne_eqb m n ne)

hits_same : (n : ℕ) → hits n n ≡ 1
hits_same n = cond-true (nat_eq n n) 1 0 (eq-eqb n n refl)

unmarked_before : (marks new : List Bool) (m : ℕ) → (mark_at marks m ≡ true → mark_at new m ≡ true) → mark_at new m ≡ false → mark_at marks m ≡ false
unmarked_before marks new m kept off = false_from_ne_true (mark_at marks m) (λ t. both_ways (mark_at new m) off (kept t))

pub count_same : (count : ℕ) (f f2 g g2 : ℕ → ℕ) (seen marks : List Bool) → ((m : ℕ) → f m ≡ f2 m) → ((m : ℕ) → g m ≡ g2 m) → IsCounted count f g seen marks → IsCounted count f2 g2 seen marks
count_same count f f2 g g2 seen marks same alike c = record {
  all_seen = c.all_seen;
  all_marked = c.all_marked;
  unseen = λ m off. sym (same m) ∙ c.unseen m off;
  was_seen = λ m on. (let e = same m in let z = c.was_seen m on in omega (arith, e, z));
  once = λ m off. (let e = same m in let z = c.once m off in omega (arith, e, z));
  marked = λ m on. elim (c.marked m on) [
    | inl two ↦ inl (let e = same m in omega (arith, e, two))
    | inr some ↦ inr (let e = alike m in omega (arith, e, some))
  ];
}

-- one row more
parts_of : (marks : List Bool) (row : Row) (a b : Lit) → row ≡ And a b → ComplementsOf row marks → (a.0 % 2 ≡ 1 → mark_at marks (node_of a) ≡ true) × (b.0 % 2 ≡ 1 → mark_at marks (node_of b) ≡ true)
parts_of marks row a b e h = subst (λ r. ComplementsOf r marks) e h

pub row_read : (rows : List Row) (n : ℕ) (row : Row) (seen marks new_seen new_marks : List Bool) → AreRead rows n seen marks → row ≡ row_at rows n → ((m : ℕ) → mark_at marks m ≡ true → mark_at new_marks m ≡ true) → ComplementsOf row new_marks
    → ((f g : ℕ → ℕ) → IsCounted (length rows) f g seen marks → IsCounted (length rows) (λ m. f m + refs m row) (λ m. g m + complements m row) new_seen new_marks) → AreRead rows (suc n) new_seen new_marks
row_read rows n row seen marks new_seen new_marks s is kept marked counted = record {
  counted = subst (λ (r : Row). IsCounted (length rows) (λ m. refs_before n rows m + refs m r) (λ m. complements_before n rows m + complements m r) new_seen new_marks) is (counted (refs_before n rows) (complements_before n rows) s.counted);
  complemented = λ k a b lt e. elim (cases_eq k n) [
    | inl same ↦ parts_of new_marks row a b (is ∙ (ap (row_at rows) (sym same) ∙ e)) marked
    | inr ne ↦
        let old = s.complemented k a b (omega arith) e in
        (λ o. kept (node_of a) (old.0 o), λ o. kept (node_of b) (old.1 o))
  ];
}

pub roots_done : (rows : List Row) (observed : List Lit) (seen marks new_marks : List Bool) → AreRead rows (length rows) seen marks → length new_marks ≡ length marks → ((m : ℕ) → mark_at marks m ≡ true → mark_at new_marks m ≡ true)
    → All (λ l. mark_at new_marks (node_of l) ≡ true) observed → ((m : ℕ) → mark_at new_marks m ≡ true → (mark_at marks m ≡ true) ⊎ IsObserved observed m) → HasRoots rows observed new_marks
roots_done rows observed seen marks new_marks s size kept all only = record {
  all = size ∙ s.counted.all_marked;
  observed = all;
  shared = λ m off. s.counted.once m (unmarked_before marks new_marks m (kept m) off);
  complemented = λ k a b lt is. (let old = s.complemented k a b lt is in (λ o. kept (node_of a) (old.0 o), λ o. kept (node_of b) (old.1 o)));
  only = λ m on. elim (only m on) [
    | inl old ↦ inr (s.counted.marked m old)
    | inr there ↦ inl there
  ];
}

-- marks of observed literals
pub set_kept : (marks : List Bool) (n m : ℕ) → n < length marks → mark_at marks m ≡ true → mark_at (set marks n true) m ≡ true
set_kept marks n m lt h = elim (cases_eq m n) [
  | inl same ↦ ap (mark_at (set marks n true)) same ∙ get_or-set_same marks n true false lt
  | inr ne ↦ get_or-set_other marks n m true false ne ∙ h
]

pub set_marks : (marks : List Bool) (n : ℕ) → n < length marks → mark_at (set marks n true) n ≡ true
set_marks marks n lt = get_or-set_same marks n true false lt

-- the marks of the first literals, one more
pub marked_more : (observed : List Lit) (marks : List Bool) (i n : ℕ) (e : Lit) → n < length marks → n ≡ node_of (get_or observed i e) → i < length observed
    → ((k : ℕ) (d : Lit) → k < i → k < length observed → mark_at marks (node_of (get_or observed k d)) ≡ true) → (k : ℕ) (d : Lit) → k < i + 1 → k < length observed → mark_at (set marks n true) (node_of (get_or observed k d)) ≡ true
marked_more observed marks i n e lt is inside h k d less there = elim (cases_eq k i) [
  | inl same ↦
      let at : node_of (get_or observed k d) ≡ n = ap (λ (j : ℕ). node_of (get_or observed j d)) same ∙ (ap node_of (get_or_default observed i d e inside) ∙ sym is) in
      ap (mark_at (set marks n true)) at ∙ set_marks marks n lt
  | inr ne ↦ set_kept marks n (node_of (get_or observed k d)) lt (h k d (omega arith) there)
]

-- one more literal is observed
pub observed_more : (observed : List Lit) (old marks : List Bool) (i n : ℕ) (e : Lit) → n < length marks → n ≡ node_of (get_or observed i e) → i < length observed
    → ((m : ℕ) → mark_at marks m ≡ true → (mark_at old m ≡ true) ⊎ IsObserved observed m) → (m : ℕ) → mark_at (set marks n true) m ≡ true → (mark_at old m ≡ true) ⊎ IsObserved observed m
observed_more observed old marks i n e lt is inside h m on = elim (cases_eq m n) [
  | inl same ↦ inr (i, inside, ap node_of (get_or_default observed i (record { 0 = 0 }) e inside) ∙ (sym is ∙ sym same))
  | inr ne ↦ h m (sym (get_or-set_other marks n m true false ne) ∙ on)
]
