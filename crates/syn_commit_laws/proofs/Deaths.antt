-- The dying rows, and what the loads of counts tell of them.
use Rattle.std.proofs.Common.{◌≡◌, ◌≢◌, ℕ, zero, suc, ◌+◌, ◌<◌, ◌≤◌, ◌==◌, ◌&&◌, ◌||◌, nat_eq, Bool, true, false, nat_le, if◌then◌else◌, All, List, [], ◌∷◌, ◌++◌, refl, sym, ap, ◌∙◌, subst, arith, inl, inr, append_assoc, append-nil}
use Rattle.std.proofs.lemmas.Bool.{cases_Bool, cases_eq, eq-eqb, ne_eqb, leb-true, le-leb, both_ways}
use Rattle.syn_rows.specs.References.{times, sum_below}
use Rattle.syn_core_laws.specs.declared.View.{View}
use Rattle.syn_core_laws.specs.declared.Seen.{Seen}
use Rattle.syn_rows.specs.Nodes.{has_node}
use Rattle.syn_core_laws.specs.Views.{is_derived_known, known_row, refs_known, own_refs, own_pins, is_sole, differs, count_loaded}
use Rattle.syn_core_laws.proofs.Counting.{sum_at}
use Rattle.syn_rows.proofs.Nodes.{has_here, has_there}
use Rattle.syn_core_laws.proofs.Listing.{and_left, and_right, and_both, other_test}
use Rattle.syn_commit_laws.specs.Dying.{refs_from, ands_known, ands_in, explained, Dies, IsDying, refs_among, ands_among, AreFound, explained_by, IsLoaded, OnlyThese, AreDoomed, IsWalk, AreLoaded}
use Rattle.syn_commit_laws.specs.Turning.{TurnsAll, loads, HasCount}
use Rattle.syn_commit_laws.specs.Laws.{DyingAreExplained, NewRowsSpare, FindingBegins, FindingGoesOn, FindingEnds, CountsLoad, LoadsTell, DyingAreDoomed, FreeNodesLive}
use Rattle.syn_commit_laws.proofs.Sums.{sum_le, sums_equal, sum_but, sum_more, sum_none}

-- ---- the least set
one_more : (a b : Bool) (x : ℕ) → (a ≡ true → b ≡ true) → (if a then x else 0) ≤ (if b then x else 0)
one_more false b x h = omega arith
one_more true b x h = let same : (if b then x else 0) ≡ x = ap (λ t. if t then x else 0) (h refl) in omega arith

explained_more : (nodes : ℕ) (v : View) (root : ℕ) (s t : ℕ → Bool) (m : ℕ) → ((n : ℕ) → s n ≡ true → t n ≡ true) → explained nodes v root s m ≤ explained nodes v root t m
explained_more nodes v root s t m h =
    let more : refs_from nodes v s m ≤ refs_from nodes v t m =
    sum_le nodes (λ n. if s n then refs_known m (known_row v n) else 0) (λ n. if t n then refs_known m (known_row v n) else 0) (λ n lt. one_more (s n) (t n) (refs_known m (known_row v n)) (h n)) in
    omega arith

pub dying_are_explained : DyingAreExplained
dying_are_explained nodes v counts root may dying d m h =
    let here : both_hold m ≡ true = d.least both_hold closed m h in
    let rule : (may m && nat_le (counts m) (explained nodes v root dying m)) ≡ true = and_right (dying m) (may m && nat_le (counts m) (explained nodes v root dying m)) here in
    (and_left (may m) (nat_le (counts m) (explained nodes v root dying m)) rule, leb-true (counts m) (explained nodes v root dying m) (and_right (may m) (nat_le (counts m) (explained nodes v root dying m)) rule))
  where
    both_hold : ℕ → Bool
    both_hold k = dying k && (may k && nat_le (counts k) (explained nodes v root dying k))

    closed : Dies nodes v counts root may both_hold
    closed k can le =
        let more : explained nodes v root both_hold k ≤ explained nodes v root dying k =
        explained_more nodes v root both_hold dying k (λ n e. and_left (dying n) (may n && nat_le (counts n) (explained nodes v root dying n)) e) in
        let within : counts k ≤ explained nodes v root dying k = omega arith in
        and_both (dying k) (may k && nat_le (counts k) (explained nodes v root dying k)) (d.closed k can within)
        (and_both (may k) (nat_le (counts k) (explained nodes v root dying k)) can (le-leb (counts k) (explained nodes v root dying k) within))

pub new_rows_spare : NewRowsSpare
new_rows_spare nodes v counts root may dying row d spares m h = spares m (dying_are_explained nodes v counts root may dying d m h).0

-- ---- the same as a list
pub finding_begins : FindingBegins
finding_begins nodes v counts root may = record {
  sound = λ set closed m h. absurd (cc);
  refs = λ m. sum_none nodes (λ n. 0) (λ n. refl);
  ands = sum_none nodes (λ n. 0) (λ n. refl);
}

has_behind : (n m : ℕ) (xs : List ℕ) → has_node (xs ++ m ∷ []) n ≡ (has_node xs n || nat_eq m n)
has_behind n m [] = go (nat_eq m n)
  where
    go : (b : Bool) → (b || false) ≡ b
    go true = refl
    go false = refl
has_behind n m (x ∷ xs) = ap (λ b. nat_eq x n || b) (has_behind n m xs) ∙ go (nat_eq x n)
  where
    go : (a : Bool) → (a || (has_node xs n || nat_eq m n)) ≡ ((a || has_node xs n) || nat_eq m n)
    go true = refl
    go false = refl

behind_else : (n m : ℕ) (xs : List ℕ) → n ≢ m → has_node (xs ++ m ∷ []) n ≡ has_node xs n
behind_else n m xs ne = has_behind n m xs ∙ (ap (λ b. has_node xs n || b) (ne_eqb m n (λ e. ne (sym e))) ∙ go (has_node xs n))
  where
    go : (b : Bool) → (b || false) ≡ b
    go true = refl
    go false = refl

behind_here : (m : ℕ) (xs : List ℕ) → has_node (xs ++ m ∷ []) m ≡ true
behind_here m xs = has_behind m m xs ∙ (ap (λ b. has_node xs m || b) (eq-eqb m m refl) ∙ go (has_node xs m))
  where
    go : (b : Bool) → (b || true) ≡ true
    go true = refl
    go false = refl

refs_behind : (v : View) (xs : List ℕ) (m k : ℕ) → refs_among v (xs ++ m ∷ []) k ≡ refs_among v xs k + refs_known k (known_row v m)
refs_behind v [] m k = omega arith
refs_behind v (x ∷ xs) m k = let rest : refs_among v (xs ++ m ∷ []) k ≡ refs_among v xs k + refs_known k (known_row v m) = refs_behind v xs m k in omega arith

ands_behind : (v : View) (xs : List ℕ) (m : ℕ) → ands_among v (xs ++ m ∷ []) ≡ ands_among v xs + ands_known (known_row v m)
ands_behind v [] m = omega arith
ands_behind v (x ∷ xs) m = let rest : ands_among v (xs ++ m ∷ []) ≡ ands_among v xs + ands_known (known_row v m) = ands_behind v xs m in omega arith

found_bound : (nodes : ℕ) (v : View) (counts : ℕ → ℕ) (root : ℕ) (may : ℕ → Bool) (dead : List ℕ) → AreFound nodes v counts root may dead
    → (m : ℕ) → explained nodes v root (λ n. has_node dead n) m ≡ explained_by v root dead m
found_bound nodes v counts root may dead f m = ap (λ k. own_pins v m + (refs_known m (known_row v root) + k)) (f.refs m)

pub finding_goes_on : FindingGoesOn
finding_goes_on nodes v counts root may dead m f lt can le new = record {
  sound = λ set closed k h. elim (cases_eq k m) [
    | inl e ↦
        let more : explained nodes v root (λ n. has_node dead n) m ≤ explained nodes v root set m = explained_more nodes v root (λ n. has_node dead n) set m (λ n d. f.sound set closed n d) in
        let same : explained nodes v root (λ n. has_node dead n) m ≡ explained_by v root dead m = found_bound nodes v counts root may dead f m in
        ap set e ∙ closed m can (omega arith)
    | inr ne ↦ f.sound set closed k (sym (behind_else k m dead ne) ∙ h)
  ];
  refs = λ k.
      let more : refs_from nodes v (λ n. has_node (dead ++ m ∷ []) n) k ≡ refs_from nodes v (λ n. has_node dead n) k + refs_known k (known_row v m) =
      sum_more nodes m (λ n. refs_known k (known_row v n)) (λ n. has_node dead n) (λ n. has_node (dead ++ m ∷ []) n) lt new (behind_here m dead) (λ n ne. behind_else n m dead ne) in
      let was : refs_from nodes v (λ n. has_node dead n) k ≡ refs_among v dead k = f.refs k in
      omega (arith, refs_behind v dead m k);
  ands =
      let more : ands_in nodes v (λ n. has_node (dead ++ m ∷ []) n) ≡ ands_in nodes v (λ n. has_node dead n) + ands_known (known_row v m) =
      sum_more nodes m (λ n. ands_known (known_row v n)) (λ n. has_node dead n) (λ n. has_node (dead ++ m ∷ []) n) lt new (behind_here m dead) (λ n ne. behind_else n m dead ne) in
      let was : ands_in nodes v (λ n. has_node dead n) ≡ ands_among v dead = f.ands in
      omega (arith, ands_behind v dead m);
}

pub finding_ends : FindingEnds
finding_ends nodes v counts root may dead f full = (
  record {
    closed = λ m can le. let same : explained nodes v root (λ n. has_node dead n) m ≡ explained_by v root dead m = found_bound nodes v counts root may dead f m in full m can (omega arith);
    least = λ set closed m h. f.sound set closed m h;
  },
  f.ands,
)

-- ---- loads of counts
has_if : (m n : ℕ) (b : Bool) (xs : List ℕ) → has_node xs m ≡ true → has_node (if b then n ∷ xs else xs) m ≡ true
has_if m n true xs h = has_there n m xs h
has_if m n false xs h = h

pub loaded_here : (nodes : ℕ) (v : View) (m x : ℕ) → own_refs nodes v m + own_pins v m ≤ x → IsLoaded nodes (count_loaded nodes v m x) m x
loaded_here nodes v m x le = record {
  lower = le;
  sole = λ ne e.
      let test : is_sole nodes v m x ≡ true = and_both (differs 0 m) (x == own_refs nodes v m + own_pins v m) (other_test 0 m ne) (eq-eqb x (own_refs nodes v m + own_pins v m) e) in
      ap (λ b. has_node (if b then m ∷ v.sole else v.sole) m) test ∙ has_here m v.sole;
}

pub loaded_more : (nodes : ℕ) (v : View) (m x n y : ℕ) → IsLoaded nodes v m x → IsLoaded nodes (count_loaded nodes v n y) m x
loaded_more nodes v m x n y t = record {
  lower = t.lower;
  sole = λ ne e. has_if m n (is_sole nodes v n y) v.sole (t.sole ne e);
}

pub counts_load : CountsLoad
counts_load nodes v m x le = (loaded_here nodes v m x le, λ n y t. loaded_more nodes v n y m x t)

loaded_along : (nodes : ℕ) (v w : View) (ns : List ℕ) (m x : ℕ) → TurnsAll nodes v (loads ns) w → IsLoaded nodes v m x → IsLoaded nodes w m x
loaded_along nodes v w [] m x run t = subst (λ z. IsLoaded nodes z m x) (sym run) t
loaded_along nodes v w (n ∷ ns) m x run t =
    loaded_along nodes run.0 w ns m x run.2 (subst (λ z. IsLoaded nodes z m x) (sym run.1.2) (loaded_more nodes v m x n run.1.0 t))

all_front : {A : Type 0} (P : A → Type 0) (x : A) (xs : List A) → P x → All P xs → All P (x ∷ xs)
all_front P x xs p ps zero d lt = p
all_front P x xs p ps (suc k) d lt = ps k d (omega arith)

pub loads_tell : LoadsTell
loads_tell nodes v w [] run = (ap (λ (z : View). z.rows) run, ap (λ (z : View). z.pins) run, [], ap (λ (z : View). z.reads) run ∙ sym (append-nil v.reads), λ k d lt. absurd (omega arith))
loads_tell nodes v w (n ∷ ns) run =
    let u : View = run.0 in
    let x : ℕ = run.1.0 in
    let is : u ≡ count_loaded nodes v n x = run.1.2 in
    let rest : (w.rows ≡ u.rows) × (w.pins ≡ u.pins) × (reads : List Seen) × (w.reads ≡ u.reads ++ reads) × All (HasCount nodes w) reads = loads_tell nodes u w ns run.2 in
    let seen : Seen = Seen.Count n x (own_pins v n) in
    let pins : w.pins ≡ v.pins = rest.1 ∙ ap (λ (z : View). z.pins) is in
    let loaded : IsLoaded nodes w n x = loaded_along nodes u w ns n x run.2 (subst (λ z. IsLoaded nodes z n x) (sym is) (loaded_here nodes v n x run.1.1)) in (
      rest.0 ∙ ap (λ (z : View). z.rows) is,
      pins,
      seen ∷ rest.2,
      rest.3 ∙ (ap (λ (z : View). z.reads ++ rest.2) is ∙ append_assoc v.reads (seen ∷ []) rest.2),
      all_front (HasCount nodes w) seen rest.2 (loaded, ap (times n) (sym pins)) rest.4,
    )

-- ---- the dying rows are doomed
module _ (nodes : ℕ) (v : View) (counts : ℕ → ℕ) (root : ℕ) (may dying : ℕ → Bool) (walked : IsWalk nodes root may v) (loaded : AreLoaded nodes may counts v) (d : IsDying nodes v counts root may dying) where
  may_die : (m : ℕ) → dying m ≡ true → may m ≡ true
  may_die m h = (dying_are_explained nodes v counts root may dying d m h).0

  stays : (n : ℕ) → may n ≡ false → dying n ≡ false
  stays n cannot = elim (cases_Bool (dying n)) [
    | inl h ↦ absurd (both_ways (may n) cannot (may_die n h))
    | inr h ↦ h
  ]

  abbrev from_dead : ℕ → ℕ → ℕ
  from_dead m n = if n == root then refs_known m (known_row v n) else (if dying n then refs_known m (known_row v n) else 0)

  dead_sum : (m : ℕ) → sum_below nodes (from_dead m) ≡ refs_known m (known_row v root) + refs_from nodes v dying m
  dead_sum m =
      sum_but nodes root (λ n. refs_known m (known_row v n)) (λ n. if dying n then refs_known m (known_row v n) else 0) walked.root_there
      (ap (λ b. if b then refs_known m (known_row v root) else 0) (stays root walked.root_stays))

  dead_le : (m n : ℕ) → from_dead m n ≤ refs_known m (known_row v n)
  dead_le m n = go (n == root) (dying n) (refs_known m (known_row v n))
    where
      go : (a b : Bool) (x : ℕ) → (if a then x else (if b then x else 0)) ≤ x
      go true b x = omega arith
      go false true x = omega arith
      go false false x = omega arith

  -- all counts at once: what was loaded is the seat's own, and all of it is explained
  all_told : (m : ℕ) → dying m ≡ true → (counts m ≡ own_refs nodes v m + own_pins v m) × (own_refs nodes v m ≤ sum_below nodes (from_dead m))
  all_told m h =
      let t = dying_are_explained nodes v counts root may dying d m h in
      let upper : counts m ≤ own_pins v m + (refs_known m (known_row v root) + refs_from nodes v dying m) = t.1 in
      let lower : own_refs nodes v m + own_pins v m ≤ counts m = (loaded m t.0).lower in
      let sums : sum_below nodes (from_dead m) ≡ refs_known m (known_row v root) + refs_from nodes v dying m = dead_sum m in
      let less : sum_below nodes (from_dead m) ≤ own_refs nodes v m = sum_le nodes (from_dead m) (λ n. refs_known m (known_row v n)) (λ n lt. dead_le m n) in
      (omega arith, omega arith)

  only_dead : (m : ℕ) → dying m ≡ true → OnlyThese nodes v root dying m
  only_dead m h n lt le =
      let same : refs_known m (known_row v n) ≡ from_dead m n = sums_equal nodes (λ k. refs_known m (known_row v k)) (from_dead m) (λ k l. dead_le m k) (all_told m h).1 n lt in
      elim (cases_eq n root) [
        | inl e ↦ inl e
        | inr ne ↦ elim (cases_Bool (dying n)) [
          | inl die ↦ inr die
          | inr live ↦ let none : from_dead m n ≡ 0 = no_more m n ne live in absurd (omega arith)
        ]
      ]
    where
      no_more : (m n : ℕ) → n ≢ root → dying n ≡ false → from_dead m n ≡ 0
      no_more m n ne live =
          ap (λ b. if b then refs_known m (known_row v n) else (if dying n then refs_known m (known_row v n) else 0)) (ne_eqb n root ne)
          ∙ ap (λ b. if b then refs_known m (known_row v n) else 0) live

  doomed : AreDoomed nodes root dying v
  doomed = record {
    root_stays = stays root walked.root_stays;
    there = λ m h. walked.there m (may_die m h);
    gates = λ m h. walked.gates m (may_die m h);
    referred = λ m h.
        let t : (n : ℕ) × (n < nodes) × (1 ≤ refs_known m (known_row v n)) = walked.referred m (may_die m h) in
        let one : refs_known m (known_row v t.0) ≤ own_refs nodes v m = sum_at nodes t.0 (λ n. refs_known m (known_row v n)) t.1 in
        let more : 1 ≤ refs_known m (known_row v t.0) = t.2 in
        omega arith;
    soles = λ m h. (loaded m (may_die m h)).sole (λ e. both_ways (may m) (ap may e ∙ walked.constant) (may_die m h)) (all_told m h).0;
    only = only_dead;
  }

pub dying_are_doomed : DyingAreDoomed
dying_are_doomed nodes v counts root may dying walked loaded d = doomed nodes v counts root may dying walked loaded d

pub free_nodes_live : FreeNodesLive
free_nodes_live nodes root dying v n doom free = elim (cases_Bool (dying n)) [
  | inl d ↦ absurd (both_ways (is_derived_known (known_row v n)) (ap is_derived_known free) (doom.gates n d))
  | inr live ↦ live
]
