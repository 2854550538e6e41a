-- The sweep over the new rows.
use Rattle.std.proofs.Common.{◌≡◌, ℕ, ◌+◌, ◌-◌, ◌<◌, ◌≤◌, ◌||◌, ◌&&◌, ◌==◌, ltb, Bool, true, false, List, [], ◌∷◌, ◌++◌, length, if◌then◌else◌, sym, ap, ◌∙◌, arith, inl, inr}
use Rattle.std.proofs.lemmas.Bool.{cases_eq, cases_lt, eq-eqb, ne_eqb, and_parts, and_from, or_left, or_right, or_cases, lt-ltb, le-ltb, ltb-true}
use Rattle.syn_rows.proofs.Nodes.{has_node-append}
use Rattle.syn_rows.specs.declared.Row.{Row}
use Rattle.syn_rows.specs.Rows.{row_at}
use Rattle.syn_rows.specs.Values.{value_in}
use Rattle.syn_fanout_free.specs.Freed.{refers}
use Rattle.syn_fanout_free.specs.Saved.{IsExtra}
use Rattle.syn_fanout_free.proofs.Pointwise.{at_ref}
use Rattle.syn_rows.specs.Nodes.{has_node}
use Rattle.syn_fanout_free.specs.Keeping.{noted, IsUsed, IsKeeping}

pub noted_at_old : (first : ℕ) (marks : List Bool) (used : List ℕ) (m : ℕ) → m < first → noted first marks used m ≡ has_node used m
noted_at_old first marks used m lt = ap (λ t. if t then has_node used m else value_in marks (m - first)) (lt-ltb m first lt)

pub noted_at_new : (first : ℕ) (marks : List Bool) (used : List ℕ) (m : ℕ) → first ≤ m → noted first marks used m ≡ value_in marks (m - first)
noted_at_new first marks used m le = ap (λ t. if t then has_node used m else value_in marks (m - first)) (le-ltb m first le)

noted_still : (first : ℕ) (r : Row) (marks after : List Bool) (used next : List ℕ)
    → ((i : ℕ) → value_in after i ≡ (value_in marks i || refers r (first + i))) → ((m : ℕ) → has_node next m ≡ (has_node used m || (refers r m && ltb m first)))
    → (m : ℕ) → noted first marks used m ≡ true → noted first after next m ≡ true
noted_still first r marks after used next more_marks more_used m h = elim (cases_lt m first) [
  | inl lt ↦ noted_at_old first after next m lt ∙ more_used m ∙ or_left (has_node used m) (refers r m && ltb m first) (sym (noted_at_old first marks used m lt) ∙ h)
  | inr ge ↦ noted_at_new first after next m ge ∙ more_marks (m - first) ∙ or_left (value_in marks (m - first)) (refers r (first + (m - first))) (sym (noted_at_new first marks used m ge) ∙ h)
]

noted_now : (first : ℕ) (r : Row) (marks after : List Bool) (used next : List ℕ)
    → ((i : ℕ) → value_in after i ≡ (value_in marks i || refers r (first + i))) → ((m : ℕ) → has_node next m ≡ (has_node used m || (refers r m && ltb m first)))
    → (m : ℕ) → refers r m ≡ true → noted first after next m ≡ true
noted_now first r marks after used next more_marks more_used m h = elim (cases_lt m first) [
  | inl lt ↦ noted_at_old first after next m lt ∙ more_used m ∙ or_right (has_node used m) (refers r m && ltb m first) (and_from (refers r m) (ltb m first) h (lt-ltb m first lt))
  | inr ge ↦
      let back : first + (m - first) ≡ m = omega arith in
      noted_at_new first after next m ge ∙ more_marks (m - first) ∙ or_right (value_in marks (m - first)) (refers r (first + (m - first))) (ap (refers r) back ∙ h)
]

pub keeping_notes : (first : ℕ) (row : Row) (extra : List Row) (i : ℕ) (marks after : List Bool) (used next : List ℕ)
    → IsExtra first row extra → IsKeeping first row extra (i + 1) marks used → value_in marks i ≡ true → length after ≡ length extra
    → ((j : ℕ) → value_in after j ≡ (value_in marks j || refers (row_at extra i) (first + j)))
    → ((m : ℕ) → has_node next m ≡ (has_node used m || (refers (row_at extra i) m && ltb m first)))
    → IsKeeping first row extra i after next
keeping_notes first row extra i marks after used next fits k here count more_marks more_used = record {
  count = count;
  root = λ m r. still m (k.root m r);
  done = λ j m le h r. elim (cases_eq j i) [
    | inl e ↦ noted_now first (row_at extra i) marks after used next more_marks more_used m (ap (λ t. refers (row_at extra t) m) (sym e) ∙ r)
    | inr ne ↦ still m (k.done j m (omega arith) (old_mark j (omega arith) h) r)
  ];
  sound = λ set rooted closed j h. elim (or_cases (value_in marks j) (refers (row_at extra i) (first + j)) (sym (more_marks j) ∙ h)) [
    | inl old ↦ k.sound set rooted closed j old
    | inr new ↦ closed i (first + j) (k.sound set rooted closed i here) new (omega arith)
  ];
  using = λ m h. elim (or_cases (has_node used m) (refers (row_at extra i) m && ltb m first) (sym (more_used m) ∙ h)) [
    | inl old ↦ let u = k.using m old in (u.0, wider m u.1)
    | inr new ↦ let parts = and_parts (refers (row_at extra i) m) (ltb m first) new in (ltb-true m first parts.1, inr (i, marked i here, parts.0))
  ];
}
  where
    still : (m : ℕ) → noted first marks used m ≡ true → noted first after next m ≡ true
    still = noted_still first (row_at extra i) marks after used next more_marks more_used

    marked : (j : ℕ) → value_in marks j ≡ true → value_in after j ≡ true
    marked j h = more_marks j ∙ or_left (value_in marks j) (refers (row_at extra i) (first + j)) h

    wider : (m : ℕ) → IsUsed row extra marks m → IsUsed row extra after m
    wider m (inl r) = inl r
    wider m (inr (j, h, r)) = inr (j, marked j h, r)

    -- rows from i on are not marked by row i
    old_mark : (j : ℕ) → i < j → value_in after j ≡ true → value_in marks j ≡ true
    old_mark j lt h = elim (or_cases (value_in marks j) (refers (row_at extra i) (first + j)) (sym (more_marks j) ∙ h)) [
      | inl old ↦ old
      | inr new ↦ absurd (omega (arith, at_ref (λ k. k < first + i) (row_at extra i) (fits.each i) (first + j) new, lt))
    ]

-- the used nodes in another order
pub keeping_sorted : (first : ℕ) (row : Row) (extra : List Row) (left : ℕ) (marks : List Bool) (used next : List ℕ)
    → ((m : ℕ) → has_node next m ≡ has_node used m) → IsKeeping first row extra left marks used → IsKeeping first row extra left marks next
keeping_sorted first row extra left marks used next same k = record {
  count = k.count;
  root = λ m r. still m (k.root m r);
  done = λ i m le h r. still m (k.done i m le h r);
  sound = k.sound;
  using = λ m h. k.using m (sym (same m) ∙ h);
}
  where
    still : (m : ℕ) → noted first marks used m ≡ true → noted first marks next m ≡ true
    still m h = ap (λ t. if ltb m first then t else value_in marks (m - first)) (same m) ∙ h

pub used_more : (used after : List ℕ) (node first : ℕ) → after ≡ used ++ node ∷ [] → node < first → (m : ℕ) → has_node after m ≡ (has_node used m || ((m == node) && ltb m first))
used_more used after node first e lt m = ap (λ (xs : List ℕ). has_node xs m) e ∙ has_node-append used (node ∷ []) m ∙ ap (λ t. has_node used m || t) last
  where
    last : ((node == m) || false) ≡ ((m == node) && ltb m first)
    last = elim (cases_eq node m) [
      | inl e ↦ or_left (node == m) false (eq-eqb node m e) ∙ sym (and_from (m == node) (ltb m first) (eq-eqb m node (sym e)) (lt-ltb m first (omega arith)))
      | inr ne ↦ ap (λ t. t || false) (ne_eqb node m ne) ∙ sym (ap (λ t. t && ltb m first) (ne_eqb m node (λ e. ne (sym e))))
    ]
