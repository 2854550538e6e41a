-- Rows that are made one after the other.
use Rattle.std.proofs.Common.{◌≡◌, ◌⊎◌, ℕ, zero, suc, ◌+◌, ◌-◌, ◌*◌, ◌/◌, ◌%◌, ◌^◌, ◌<◌, ◌≤◌, nat_lt, nat_le, Bool, true, false, if◌then◌else◌, List, [], ◌∷◌, ◌++◌, length, get_or, reverse, Some, refl, sym, ap, ap₂, ◌∙◌, subst, arith, inl, inr, append_assoc, append-nil, length-append}
use Rattle.std.proofs.lemmas.Bool.{cases_eq, leb-true}
use Rattle.std.proofs.lemmas.Nat.{mul-le}
use Rattle.std.proofs.lemmas.List.{get_or_append_left, get_or_push, reverse-append}
use Rattle.syn_rows.specs.declared.Lit.{Lit}
use Rattle.syn_rows.specs.declared.Row.{Row}
use Rattle.syn_rows.specs.declared.Row.TheVariants.{And}
use Rattle.syn_rows.specs.declared.TheConstants.{NODE_LIMIT}
use Rattle.syn_rows.specs.Rows.{AllRefs, is_derived, node_of, row_at}
use Rattle.syn_rows.specs.Joining.{ordered_and}
use Rattle.syn_core_laws.specs.declared.View.{View}
use Rattle.syn_core_laws.specs.declared.EventKind.{EventKind}
use Rattle.syn_core_laws.specs.Events.{IsAnd}
use Rattle.syn_core_laws.specs.Shown.{IsShown}
use Rattle.syn_core_laws.specs.Views.{known_row}
use Rattle.syn_decide.specs.declared.decisions.NodeRow.{NodeRow}
use Rattle.syn_decide.specs.Hints.{first_new, is_new_gate}
use Rattle.syn_decide.specs.Walk.{nodes_of}
use Rattle.syn_decide.specs.Walked.{AreGates}
use Rattle.syn_decide.proofs.Walking.{nodes_more}
use Rattle.syn_commit_laws.specs.Redefining.{literal_made, row_made}
use Rattle.syn_commit_laws.specs.Turning.{TurnsAll}
use Rattle.syn_commit.specs.Walks.{AreKnown}
use Rattle.syn_commit.specs.Storing.{AreMade, AreNewRows, IsNewRow, IsPlaced, KeepsKnown, MayReferTo, key_at, makes_row, makes_rows, node_at}
use Rattle.syn_commit.proofs.Draining.{all_more}
use Rattle.syn_commit.proofs.Stepping.{turns_on}

-- ---- keys
next_times : (i step : ℕ) → (i + 1) * step ≡ i * step + step
next_times i step = omega arith

pub key_next : (low step i : ℕ) → low + i * step + step ≡ key_at low step i
key_next low step i = let e = next_times i step in omega (arith, e)

pub key_rises : (low step j i : ℕ) → j < i → key_at low step j + step ≤ key_at low step i
key_rises low step j i l = let m = mul-le (j + 2) step (i + 1) step (omega (arith, l)) (omega arith) in let e = next_times (j + 1) step in omega (arith, m, e)

pub key_above : (low step i : ℕ) → 1 ≤ step → suc low ≤ key_at low step i
key_above low step i s = let e = next_times i step in omega (arith, e, s)

pub key_within : (low step i need most : ℕ) → i < need → low + need * step < most → key_at low step i < most
key_within low step i need most l h = let m = mul-le (i + 1) step need step (omega (arith, l)) (omega arith) in omega (arith, m, h)

-- ---- what a row may refer to
pub lift : (v : View) (key more m : ℕ) → key ≤ more → MayReferTo v key m → MayReferTo v more m
lift v key more m le r = record { pin = r.pin; below = (r.below.0, r.below.1, let l = r.below.2 in omega (arith, l, le)) }

pub keeps_on : (v u w : View) → KeepsKnown v u → KeepsKnown u w → KeepsKnown v w
keeps_on v u w a b = record {
  rows = λ m r e used. b.rows m r (a.rows m r e used) used;
  keys = λ m k r e used known. b.keys m k r (a.rows m r e used) used (a.keys m k r e used known);
  refers = λ k m may. b.refers k m (a.refers k m may);
}

pub keeps_none : (v : View) → KeepsKnown v v
keeps_none v = record { rows = λ m r e used. e; keys = λ m k r e used known. known; refers = λ k m may. may }

-- ---- literals and rows where their nodes are
whole : (n b : ℕ) → b < 2 → (2 * n + b) / 2 ≡ n
whole n b l = omega (arith, l)

odd_few : (n : ℕ) → n % 2 < 2
odd_few n = omega arith

new_within : (n i : ℕ) → nat_le first_new n ≡ true → n < first_new + i → n - first_new < i
new_within n i e l = let le : first_new ≤ n = leb-true first_new n e in omega (arith, le, l)

module _ (low step : ℕ) (rows : List Row) (v w : View) (new : List NodeRow) (some : 1 ≤ step) (keeps : KeepsKnown v w) (made : AreMade low step rows new w) where
  literal_may : (l : Lit) → IsPlaced v low (length new) l → MayReferTo w (key_at low step (length new)) (node_of (literal_made (nodes_of new) l))
  literal_may l (inl gate) = subst (λ b. MayReferTo w (key_at low step (length new)) (node_of (if b then record { 0 = 2 * get_or (nodes_of new) (node_of l - first_new) 0 + l.0 % 2 } else l))) (sym gate.0) there
    where
      within : node_of l - first_new < length new
      within = new_within (node_of l) (length new) gate.0 gate.1

      there : MayReferTo w (key_at low step (length new)) ((2 * get_or (nodes_of new) (node_of l - first_new) 0 + l.0 % 2) / 2)
      there = subst (MayReferTo w (key_at low step (length new))) (sym (whole (get_or (nodes_of new) (node_of l - first_new) 0) (l.0 % 2) (odd_few l.0)))
          (lift w (suc (key_at low step (node_of l - first_new))) (key_at low step (length new)) (node_at new (node_of l - first_new))
          (let r = key_rises low step (node_of l - first_new) (length new) within in omega (arith, r, some)) (made.keyed (node_of l - first_new) within))
  literal_may l (inr old) = subst (λ b. MayReferTo w (key_at low step (length new)) (node_of (if b then record { 0 = 2 * get_or (nodes_of new) (node_of l - first_new) 0 + l.0 % 2 } else l))) (sym old.0)
      (lift w (suc low) (key_at low step (length new)) (node_of l) (key_above low step (length new) some) (keeps.refers (suc low) (node_of l) old.1))

  either : (P : Row → Type 0) (x y : Lit) → P (And x y) → P (And y x) → P (ordered_and x y)
  either P x y p q = go (nat_lt x.0 y.0)
    where
      go : (b : Bool) → P (if b then And x y else And y x)
      go true = p
      go false = q

  pub row_is_and : (row : Row) → IsNewRow v low (length new) row → IsAnd (row_made (nodes_of new) row)
  row_is_and row is = subst (λ (r : Row). IsAnd (row_made (nodes_of new) r)) (sym is.2)
      (either IsAnd (literal_made (nodes_of new) is.0) (literal_made (nodes_of new) is.1)
      (literal_made (nodes_of new) is.0, literal_made (nodes_of new) is.1, refl) (literal_made (nodes_of new) is.1, literal_made (nodes_of new) is.0, refl))

  pub row_may : (row : Row) → IsNewRow v low (length new) row → AllRefs (MayReferTo w (key_at low step (length new))) (row_made (nodes_of new) row)
  row_may row is = subst (λ (r : Row). AllRefs (MayReferTo w (key_at low step (length new))) (row_made (nodes_of new) r)) (sym is.2)
      (either (AllRefs (MayReferTo w (key_at low step (length new)))) (literal_made (nodes_of new) is.0) (literal_made (nodes_of new) is.1)
      (literal_may is.0 is.3, literal_may is.1 is.4) (literal_may is.1 is.4, literal_may is.0 is.3))

-- rows stay the same when more nodes are listed
literal_more : (v : View) (low i : ℕ) (ns : List ℕ) (n : ℕ) (l : Lit) → i ≤ length ns → IsPlaced v low i l → literal_made (ns ++ n ∷ []) l ≡ literal_made ns l
literal_more v low i ns n l le (inl gate) = ap (λ (k : ℕ). if is_new_gate l then record { 0 = 2 * k + l.0 % 2 } else l) (get_or_append_left ns (n ∷ []) 0 (node_of l - first_new) (let w = new_within (node_of l) i gate.0 gate.1 in omega (arith, w, le)))
literal_more v low i ns n l le (inr old) = pick (is_new_gate l) old.0
  where
    pick : (b : Bool) → b ≡ false → (if b then record { 0 = 2 * get_or (ns ++ n ∷ []) (node_of l - first_new) 0 + l.0 % 2 } else l) ≡ (if b then record { 0 = 2 * get_or ns (node_of l - first_new) 0 + l.0 % 2 } else l)
    pick true e = absurd (cc)
    pick false e = refl

row_more : (v : View) (low i : ℕ) (ns : List ℕ) (n : ℕ) (row : Row) → i ≤ length ns → IsNewRow v low i row → row_made (ns ++ n ∷ []) row ≡ row_made ns row
row_more v low i ns n row le is = subst (λ (r : Row). row_made (ns ++ n ∷ []) r ≡ row_made ns r) (sym is.2)
    (ap₂ (λ x y. ordered_and x y) (literal_more v low i ns n is.0 le is.3) (literal_more v low i ns n is.1 le is.4))

pub length_nodes : (rows : List NodeRow) → length (nodes_of rows) ≡ length rows
length_nodes [] = refl
length_nodes (r ∷ rows) = ap suc (length_nodes rows)

-- ---- one row more
pub gates_stay : (v w : View) (new : List NodeRow) → KeepsKnown v w → AreGates new → AreKnown v new → AreKnown w new
gates_stay v w [] keeps g k = tt
gates_stay v w (r ∷ new) keeps g k = (keeps.rows r.node r.row k.0 (λ same. let no : is_derived r.row ≡ false = ap is_derived same in let yes = g.0 in cc), gates_stay v w new keeps g.1 k.1)

pub made_more : (low step need : ℕ) (rows : List Row) (start v w : View) (new : List NodeRow) (e : NodeRow) → AreNewRows start low need rows → length new < need → AreMade low step rows new v → KeepsKnown v w
    → known_row w e.node ≡ Some e.row → is_derived e.row ≡ true → MayReferTo w (suc (key_at low step (length new))) e.node → e.row ≡ row_made (nodes_of new) (row_at rows (length new))
    → AreMade low step rows (new ++ e ∷ []) w
made_more low step need rows start v w new e are few made keeps known derived keyed is = record {
  stored = λ i d l. stored i d (last i l);
  known = all_more (λ r. known_row w r.node ≡ Some r.row) new e (gates_stay v w new keeps made.gates made.known) known;
  gates = all_more (λ r. is_derived r.row ≡ true) new e made.gates derived;
  keyed = λ i l. keyed_at i (last i l);
}
  where
    last : (i : ℕ) → i < length (new ++ e ∷ []) → (i < length new) ⊎ (length new ≡ i)
    last i l = elim (cases_eq (length new) i) [ inl same ↦ inr same | inr ne ↦ inl (let more = length-append new (e ∷ []) in omega (arith, l, ne, more)) ]

    size : length (nodes_of new) ≡ length new
    size = length_nodes new

    same_row : (i : ℕ) → i ≤ length new → row_made (nodes_of (new ++ e ∷ [])) (row_at rows i) ≡ row_made (nodes_of new) (row_at rows i)
    same_row i l = ap (λ ns. row_made ns (row_at rows i)) (nodes_more new e) ∙ row_more start low i (nodes_of new) e.node (row_at rows i) (omega (arith, l, size)) (are i (omega (arith, l, few)))

    stored : (i : ℕ) (d : NodeRow) → (i < length new) ⊎ (length new ≡ i) → (get_or (new ++ e ∷ []) i d).row ≡ row_made (nodes_of (new ++ e ∷ [])) (row_at rows i)
    stored i d (inl l) = ap (λ (r : NodeRow). r.row) (get_or_append_left new (e ∷ []) d i l) ∙ (made.stored i d l ∙ sym (same_row i (omega (arith, l))))
    stored i d (inr same) =
        ap (λ (r : NodeRow). r.row) (get_or_push new e d i same) ∙ (is ∙ (ap (λ k. row_made (nodes_of new) (row_at rows k)) same ∙ sym (same_row i (omega (arith, same)))))

    keyed_at : (i : ℕ) → (i < length new) ⊎ (length new ≡ i) → MayReferTo w (suc (key_at low step i)) (node_at (new ++ e ∷ []) i)
    keyed_at i (inl l) = subst (MayReferTo w (suc (key_at low step i))) (sym (ap (λ ns. get_or ns i 0) (nodes_more new e) ∙ get_or_append_left (nodes_of new) (e.node ∷ []) 0 i (omega (arith, l, size))))
        (keeps.refers (suc (key_at low step i)) (node_at new i) (made.keyed i l))
    keyed_at i (inr same) = subst (MayReferTo w (suc (key_at low step i))) (sym (ap (λ ns. get_or ns i 0) (nodes_more new e) ∙ get_or_push (nodes_of new) e.node 0 i (size ∙ same)))
        (subst (λ k. MayReferTo w (suc (key_at low step k)) e.node) same keyed)

-- ---- events and nodes
rows_more : (low step i : ℕ) (new : List NodeRow) (e : NodeRow) → makes_rows low step i (new ++ e ∷ []) ≡ makes_rows low step i new ++ makes_row e.node e.row (key_at low step (i + length new))
rows_more low step i [] e = let same : i + 0 ≡ i = omega arith in append-nil (makes_row e.node e.row (key_at low step i)) ∙ ap (λ k. makes_row e.node e.row (key_at low step k)) (sym same)
rows_more low step i (r ∷ new) e =
    let same : (i + 1) + length new ≡ i + suc (length new) = omega arith in
    ap (λ es. makes_row r.node r.row (key_at low step i) ++ es) (rows_more low step (i + 1) new e ∙ ap (λ k. makes_rows low step (i + 1) new ++ makes_row e.node e.row (key_at low step k)) same)
    ∙ sym (append_assoc (makes_row r.node r.row (key_at low step i)) (makes_rows low step (i + 1) new) (makes_row e.node e.row (key_at low step (i + suc (length new)))))

pub rows_turn : (nodes low step : ℕ) (v u w : View) (new : List NodeRow) (e : NodeRow) → TurnsAll nodes v (makes_rows low step 0 new) u → TurnsAll nodes u (makes_row e.node e.row (key_at low step (length new))) w → TurnsAll nodes v (makes_rows low step 0 (new ++ e ∷ [])) w
rows_turn nodes low step v u w new e a b =
    let same : 0 + length new ≡ length new = omega arith in
    subst (λ (es : List EventKind). TurnsAll nodes v es w) (sym (rows_more low step 0 new e ∙ ap (λ k. makes_rows low step 0 new ++ makes_row e.node e.row (key_at low step k)) same))
    (turns_on nodes v u w (makes_rows low step 0 new) (makes_row e.node e.row (key_at low step (length new))) a b)

pub pool_falls : (start pool next : List ℕ) (new : List NodeRow) (e : NodeRow) → start ≡ pool ++ reverse (nodes_of new) → pool ≡ next ++ e.node ∷ [] → start ≡ next ++ reverse (nodes_of (new ++ e ∷ []))
pool_falls start pool next new e whole_pool taken =
    whole_pool ∙ (ap (λ p. p ++ reverse (nodes_of new)) taken ∙ (append_assoc next (e.node ∷ []) (reverse (nodes_of new))
    ∙ ap (λ ns. next ++ ns) (sym (ap reverse (nodes_more new e) ∙ reverse-append (nodes_of new) (e.node ∷ [])))))

-- nodes of known rows are a table's
pub nodes_few : (nodes : ℕ) (v : View) (new : List NodeRow) → IsShown nodes v → nodes < NODE_LIMIT → AreKnown v new → (i : ℕ) → node_at new i < 2 ^ 31
nodes_few nodes v new shown few known i = go new known i
  where
    go : (rows : List NodeRow) → AreKnown v rows → (i : ℕ) → node_at rows i < 2 ^ 31
    go [] k zero = omega arith
    go [] k (suc i) = omega arith
    go (r ∷ rows) k zero = let l = (shown.rows r.node r.row k.0).0 in omega (arith, l, few)
    go (r ∷ rows) k (suc i) = go rows k.1 i
