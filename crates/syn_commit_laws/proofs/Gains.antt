-- The gain of a commit, and what its stored rows refer to.
use Rattle.std.proofs.Common.{◌≡◌, ◌≢◌, ◌⊎◌, ℕ, suc, ◌+◌, ◌-◌, ◌*◌, ◌/◌, ◌%◌, ◌<◌, ◌≤◌, ◌==◌, ◌&&◌, nat_le, nat_lt, Bool, true, false, if◌then◌else◌, List, [], ◌∷◌, length, get_or, refl, sym, ap, ◌∙◌, subst, arith, rules, inl, inr}
use Rattle.std.proofs.lemmas.Bool.{cases_eq, cond_both, leb-true, ltb-false, ltb-true}
use Rattle.std.proofs.lemmas.List.{get_or_default, get_or_past}
use Rattle.syn_rows.specs.declared.Lit.{Lit}
use Rattle.syn_rows.specs.declared.Row.{Row}
use Rattle.syn_rows.specs.declared.Row.TheVariants.{Free, And, Alias}
use Rattle.syn_rows.specs.Rows.{node_of, row_at}
use Rattle.syn_rows.specs.Nodes.{has_node}
use Rattle.syn_rows.specs.References.{and_count, hits as hits_of}
use Rattle.syn_core_laws.proofs.Counting.{hits_other}
use Rattle.syn_gain.specs.Placing.{Placed}
use Rattle.syn_decide.specs.declared.decisions.NodeRow.{NodeRow}
use Rattle.syn_decide.specs.Tasks.{Task}
use Rattle.syn_decide.specs.Walk.{nodes_of}
use Rattle.syn_decide.specs.Decided.{Done, NoGain, NoGap, NoRoom}
use Rattle.syn_decide.specs.Functions.{used_leaves}
use Rattle.syn_decide.specs.Fold.{by_gap, by_room, freed_by, least_gain, placed_now}
use Rattle.syn_decide.specs.Hints.{first_new, is_new_gate, new_root_row, out_literal, placed_by_hits, rows_needed}
use Rattle.syn_commit_laws.specs.Origins.{IsFanIn, IsFrom}
use Rattle.syn_commit_laws.specs.Redefining.{literal_made, row_made}
use Rattle.syn_commit_laws.specs.Turning.{Spares}
use Rattle.syn_commit_laws.specs.Gains.{DoneTellsGain, IsApart, IsGain, NewGatesAreStored, StoredRowsSpare}
use Rattle.syn_commit_laws.proofs.Origins.{new_rows_refer_to_origins}

-- ---- the answer
pub done_tells_gain : DoneTellsGain
done_tells_gain t s gain e = enough (nat_le (length (placed_now t s).extra + least_gain t) (freed_by s.inner s.hits s.counts)) refl e
  where
    room : (more : ℕ) → length (placed_now t s).extra ≤ freed_by s.inner s.hits s.counts → more ≡ freed_by s.inner s.hits s.counts - length (placed_now t s).extra → s.low + rows_needed t (placed_now t s) < s.high
        → (b : Bool) → nat_lt t.pool (rows_needed t (placed_now t s)) ≡ b → (if b then NoRoom (rows_needed t (placed_now t s)) t.pool else Done more) ≡ Done gain → IsGain t s gain
    room more le is gap true f g = absurd (cc)
    room more le is gap false f g =
        let same : more ≡ gain = cc in
        let enough_nodes : rows_needed t (placed_now t s) ≤ t.pool = ltb-false t.pool (rows_needed t (placed_now t s)) f in
        record { ands = omega (arith, le, is, same); room = enough_nodes; gap = gap }

    gap : (more : ℕ) → length (placed_now t s).extra ≤ freed_by s.inner s.hits s.counts → more ≡ freed_by s.inner s.hits s.counts - length (placed_now t s).extra → (b : Bool) → nat_lt (s.low + rows_needed t (placed_now t s)) s.high ≡ b
        → (if b then by_room t more (rows_needed t (placed_now t s)) else NoGap t.proposal.root s.low (rows_needed t (placed_now t s)) s.high) ≡ Done gain → IsGain t s gain
    gap more le is true f g = room more le is (ltb-true (s.low + rows_needed t (placed_now t s)) s.high f) (nat_lt t.pool (rows_needed t (placed_now t s))) refl g
    gap more le is false f g = absurd (cc)

    enough : (b : Bool) → nat_le (length (placed_now t s).extra + least_gain t) (freed_by s.inner s.hits s.counts) ≡ b
        → (if b then by_gap t s (freed_by s.inner s.hits s.counts - length (placed_now t s).extra) (rows_needed t (placed_now t s)) else NoGain (freed_by s.inner s.hits s.counts) (length (placed_now t s).extra)) ≡ Done gain → IsGain t s gain
    enough true f g =
        let le = leb-true (length (placed_now t s).extra + least_gain t) (freed_by s.inner s.hits s.counts) f in
        gap (freed_by s.inner s.hits s.counts - length (placed_now t s).extra) (omega (arith, le)) refl (nat_lt (s.low + rows_needed t (placed_now t s)) s.high) refl g
    enough false f g = absurd (cc)

-- ---- the root's row: the last new gate's, with one row less to make, or an alias
made_and : (made : List ℕ) (a b : Lit) → and_count (row_made made (And a b)) ≡ 1
made_and made a b = cond_both (nat_lt (literal_made made a).0 (literal_made made b).0) (And (literal_made made a) (literal_made made b)) (And (literal_made made b) (literal_made made a)) (λ r. and_count r ≡ 1) (λ _. refl) (λ _. refl)

-- whatever holds of the last new gate's row, where all others are made, and of the alias, where all are
by_root : (t : Task) (s : Placed) (P : ℕ → Row → Type 0) → ((k : ℕ) → length s.extra ≡ suc k → P k (row_at s.extra k)) → P (length s.extra) (Alias (out_literal t s)) → P (rows_needed t s) (new_root_row t s)
by_root t s P last alias = go ((out_literal t s).0 + 2 == 2 * (first_new + length s.extra)) refl
  where
    go : (c : Bool) → ((out_literal t s).0 + 2 == 2 * (first_new + length s.extra)) ≡ c
        → P (length s.extra - (if nat_lt 0 (length s.extra) && c then 1 else 0)) (if c then get_or s.extra (length s.extra - 1) (Alias (out_literal t s)) else Alias (out_literal t s))
    go true f = elim (cases_eq (length s.extra) 0) [
      | inl none ↦
          let less : length s.extra ≡ length s.extra - (if nat_lt 0 (length s.extra) && true then 1 else 0) = omega (arith, none) in
          subst (λ n. P n (get_or s.extra (length s.extra - 1) (Alias (out_literal t s)))) less (subst (P (length s.extra)) (sym (get_or_past s.extra (length s.extra - 1) (Alias (out_literal t s)) (omega (arith, none)))) alias)
      | inr some ↦
          let long : length s.extra ≡ suc (length s.extra - 1) = omega (arith, some) in
          let test : nat_lt 0 (length s.extra) ≡ true = search (rules, long) in
          subst (λ b. P (length s.extra - (if b && true then 1 else 0)) (get_or s.extra (length s.extra - 1) (Alias (out_literal t s)))) (sym test)
          (subst (P (length s.extra - 1)) (get_or_default s.extra (length s.extra - 1) Free (Alias (out_literal t s)) (omega (arith, long))) (last (length s.extra - 1) long))
    ]
    go false f = all (nat_lt 0 (length s.extra))
      where
        all : (b : Bool) → P (length s.extra - (if b && false then 1 else 0)) (Alias (out_literal t s))
        all true = let same : length s.extra ≡ length s.extra - (if true && false then 1 else 0) = omega arith in subst (λ n. P n (Alias (out_literal t s))) same alias
        all false = let same : length s.extra ≡ length s.extra - (if false && false then 1 else 0) = omega arith in subst (λ n. P n (Alias (out_literal t s))) same alias

pub new_gates_are_stored : NewGatesAreStored
new_gates_are_stored t hits made =
    by_root t (placed_by_hits t hits) (λ n row. n + and_count (row_made made row) ≡ length (placed_by_hits t hits).extra)
    (λ k long.
    let new = (new_rows_refer_to_origins t hits).rows k (omega (arith, long)) in
    let one : and_count (row_made made (row_at (placed_by_hits t hits).extra k)) ≡ 1 = ap (λ r. and_count (row_made made r)) new.2 ∙ made_and made new.0 new.1 in
    omega (arith, one, long))
    (omega arith)

-- ---- what stored rows refer to
module _ (t : Task) (hits : List NodeRow) (made : List ℕ) (set : ℕ → Bool) (apart : IsApart t hits made set) where
  lit_apart : (m : ℕ) (l : Lit) → m ≤ rows_needed t (placed_by_hits t hits) → IsFrom t (nodes_of hits) m (node_of l) → set (node_of (literal_made made l)) ≡ false
  lit_apart m l le f = go (is_new_gate l) refl f
    where
      old : (node_of l ≡ 0) ⊎ (has_node (used_leaves t) (node_of l) ≡ true) → set (node_of l) ≡ false
      old (inl none) = ap set none ∙ apart.constant
      old (inr used) = (apart.leaves (node_of l) used).0

      go : (c : Bool) → is_new_gate l ≡ c → IsFrom t (nodes_of hits) m (node_of l) → set (node_of (if c then record { 0 = 2 * get_or made (node_of l - first_new) 0 + l.0 % 2 } else l)) ≡ false
      go false e (inl o) = old o
      go false e (inr (inl hit)) = (apart.found (node_of l) hit).0
      go false e (inr (inr new)) = let yes : is_new_gate l ≡ true = search (rules, new.0) in absurd (cc)
      go true e f =
          let ge = leb-true first_new (node_of l) e in
          let half : get_or made (node_of l - first_new) 0 ≡ (2 * get_or made (node_of l - first_new) 0 + l.0 % 2) / 2 = omega arith in
          subst (λ n. set n ≡ false) half (apart.new (node_of l - first_new) (below f ge))
        where
          below : IsFrom t (nodes_of hits) m (node_of l) → first_new ≤ node_of l → node_of l - first_new < rows_needed t (placed_by_hits t hits)
          below (inr (inr new)) ge = omega (arith, new.1, le, ge)
          below (inl (inl none)) ge = absurd (omega (arith, none, ge))
          below (inl (inr used)) ge = let lt = (apart.leaves (node_of l) used).1 in absurd (omega (arith, lt, ge))
          below (inr (inl hit)) ge = let lt = (apart.found (node_of l) hit).1 in absurd (omega (arith, lt, ge))

  -- a row that refers to no node of the set
  none_of : (m n : ℕ) → set n ≡ false → set m ≡ true → hits_of m n ≡ 0
  none_of m n out in_set = hits_other m n (λ e. let yes : set n ≡ true = subst (λ k. set k ≡ true) e in_set in cc)

  pair_spares : (i : ℕ) (a b : Lit) → i ≤ rows_needed t (placed_by_hits t hits) → IsFanIn t (nodes_of hits) i a → IsFanIn t (nodes_of hits) i b → Spares set (row_made made (And a b))
  pair_spares i a b le x y =
      let p = lit_apart i a le x.from in
      let q = lit_apart i b le y.from in
      cond_both (nat_lt (literal_made made a).0 (literal_made made b).0) (And (literal_made made a) (literal_made made b)) (And (literal_made made b) (literal_made made a)) (λ r. Spares set r)
      (λ _ m h. let u = none_of m (node_of (literal_made made a)) p h in let w = none_of m (node_of (literal_made made b)) q h in omega (arith, u, w))
      (λ _ m h. let u = none_of m (node_of (literal_made made a)) p h in let w = none_of m (node_of (literal_made made b)) q h in omega (arith, u, w))

  row_spares : (i : ℕ) → i < length (placed_by_hits t hits).extra → i ≤ rows_needed t (placed_by_hits t hits) → Spares set (row_made made (row_at (placed_by_hits t hits).extra i))
  row_spares i lt le =
      let new = (new_rows_refer_to_origins t hits).rows i lt in
      subst (λ r. Spares set (row_made made r)) (sym new.2) (pair_spares i new.0 new.1 le new.3 new.4)

  alias_spares : (i : ℕ) → i ≤ rows_needed t (placed_by_hits t hits) → IsFrom t (nodes_of hits) i (node_of (out_literal t (placed_by_hits t hits))) → Spares set (row_made made (Alias (out_literal t (placed_by_hits t hits))))
  alias_spares i le f m h = let u = none_of m (node_of (literal_made made (out_literal t (placed_by_hits t hits)))) (lit_apart i (out_literal t (placed_by_hits t hits)) le f) h in omega (arith, u)

  few_needed : rows_needed t (placed_by_hits t hits) ≤ length (placed_by_hits t hits).extra
  few_needed = omega arith

pub stored_rows_spare : StoredRowsSpare
stored_rows_spare t hits made set apart = record {
  rows = λ i lt. row_spares t hits made set apart i (omega (arith, lt, few_needed t hits made set apart)) (omega (arith, lt));
  root = by_root t (placed_by_hits t hits) (λ n row. n ≤ rows_needed t (placed_by_hits t hits) → Spares set (row_made made row))
      (λ k long le. row_spares t hits made set apart k (omega (arith, long)) le)
      (λ le. alias_spares t hits made set apart (length (placed_by_hits t hits).extra) le (new_rows_refer_to_origins t hits).out)
      (omega arith);
}
