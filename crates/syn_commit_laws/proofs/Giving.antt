-- A commit that gives up; the measure of freeing; an unpin as the shared table tells it.
use Rattle.std.proofs.Common.{eq-zero-or-pos, ◌≡◌, ◌≢◌, ◌⊎◌, ℕ, ◌+◌, ◌<◌, ◌≤◌, ◌==◌, ◌&&◌, ◌||◌, not, Bool, true, false, if◌then◌else◌, List, [], ◌∷◌, ◌++◌, Some, refl, sym, ap, ◌∙◌, subst, arith, inl, inr, ℤ, pos, ◌+ℤ◌}
use Rattle.std.proofs.lemmas.Bool.{cases_eq, ne_eqb, both_ways, false_from_ne_true}
use Rattle.std.proofs.lemmas.Int.{ints}
use Rattle.syn_rows.specs.declared.Row.{Row}
use Rattle.syn_rows.specs.declared.Row.TheVariants.{Free, Source, And, Alias}
use Rattle.syn_rows.specs.Rows.{refs_of}
use Rattle.syn_rows.specs.References.{and_count, hits, times}
use Rattle.syn_core_laws.specs.declared.View.{View}
use Rattle.syn_core_laws.specs.declared.Change.{Change}
use Rattle.syn_core_laws.specs.declared.EventKind.{EventKind}
use Rattle.syn_core_laws.specs.declared.EventKind.TheVariants as Kind
use Rattle.syn_rows.specs.Nodes.{has_node}
use Rattle.syn_core_laws.specs.Lists.{only, without_one, look, kept}
use Rattle.syn_rows.specs.Rows.{is_derived}
use Rattle.syn_core_laws.specs.Views.{is_derived_known, known_row, refs_known, own_refs, own_pins, differs, released, pinned, unpinned, count_loaded, key_loaded, freed}
use Rattle.syn_core_laws.proofs.Listing.{and_both, not_false, has_only, other_test, same_test, look_there, look_here, look_kept, look_dropped}
use Rattle.syn_core_laws.proofs.Counting.{sum_same, sum_change, sum_at, hits_same, hits_other, times_has, times_append, times_less}
use Rattle.syn_commit_laws.specs.Dying.{ands_in, AreDoomed}
use Rattle.syn_commit_laws.specs.Turning.{Turns, GivesUp, change_of, stored_by, one_gate, gates_known}
use Rattle.syn_fanout_free.specs.Freed.{is_free}
use Rattle.syn_commit_laws.specs.Freeing.{frees, left, ands_freed, late, redefines, ands_before, ands_after, IsFreeing, IsOut, IsGivenUp}
use Rattle.syn_commit_laws.specs.Laws.{GivingUpBegins, GivingUpGoesOn, GivenUpTells, EarlyTells, RootsAreOut, GatesFall}
use Rattle.syn_commit_laws.proofs.Sums.{sum_some}
use Rattle.syn_commit_laws.proofs.Numbers.{frees_append, redefines_append, ands_same}
use Rattle.syn_commit_laws.proofs.Goings.{differences_tell, freeing_begins, freeing_goes_on}

-- ---- a commit that gives up
pub giving_up_begins : GivingUpBegins
giving_up_begins nodes root dying start doom gate out = record {
  freeing = freeing_begins nodes root dying start doom;
  root_row = refl;
  root_gate = gate;
  root_out = out;
  none = λ m d. refl;
  frees_alone = refl;
}

pub roots_are_out : RootsAreOut
roots_are_out nodes root inner v no_circle there referred n lt yes_inner = elim (eq-zero-or-pos (refs_known root (known_row v n))) [
  | inl none ↦ none
  | inr some_there ↦ absurd (both_ways (inner root) (no_circle inner (λ m h. elim (cases_eq m root) [
    | inl e ↦ (n, lt, yes_inner, subst (λ k. 1 ≤ refs_known k (known_row v n)) (sym e) some_there)
    | inr ne ↦ referred m h ne
  ]) root) there)
]

-- ---- the root stays out
module _ (nodes : ℕ) (v : View) (root : ℕ) (out : IsOut nodes v root) where
  out_still : (w : View) → own_refs nodes w root ≡ own_refs nodes v root → own_pins w root ≡ own_pins v root → has_node w.idle root ≡ has_node v.idle root → IsOut nodes w root
  out_still w refs pins idle = record { refs = refs ∙ out.refs; pins = pins ∙ out.pins; idle = idle ∙ out.idle }

  less_idle : (n : ℕ) → has_node (only (differs n) v.idle) root ≡ false
  less_idle n = false_from_ne_true (has_node (only (differs n) v.idle) root) (λ h. both_ways (has_node v.idle root) out.idle (has_only (differs n) root v.idle h).0)

  out_pinned : (n : ℕ) → n ≢ root → IsOut nodes (pinned v n) root
  out_pinned n ne =
      let none : hits root n ≡ 0 = hits_other root n (λ e. ne (sym e)) in
      let was : times root v.pins ≡ 0 = out.pins in
      record { refs = out.refs; pins = omega arith; idle = less_idle n }

  out_unpinned : (n count : ℕ) → has_node v.pins n ≡ true → IsOut nodes (unpinned v n count) root
  out_unpinned n count own =
      let less : times root (without_one n v.pins) + hits root n ≡ times root v.pins = times_less root n v.pins (times_has n v.pins own) in
      let was : times root v.pins ≡ 0 = out.pins in
      let ne : n ≢ root = λ e. let one : hits root n ≡ 1 = subst (λ k. hits root k ≡ 1) (sym e) (hits_same root) in absurd (omega arith) in
      record {
        refs = out.refs;
        pins = omega arith;
        idle = go ((count == 1) && is_derived_known (known_row v n)) (ne_eqb n root ne);
      }
    where
      go : (b : Bool) → (n == root) ≡ false → has_node (if b then n ∷ v.idle else v.idle) root ≡ false
      go true e = ap (λ t. t || has_node v.idle root) e ∙ out.idle
      go false e = out.idle

  out_released : (n : ℕ) → known_row v n ≡ Some Free → IsOut nodes (released v n) root
  out_released n free = record { refs = same ∙ out.refs; pins = out.pins; idle = out.idle }
    where
      same : own_refs nodes (released v n) root ≡ own_refs nodes v root
      same = sum_same nodes (λ i. refs_known root (known_row (released v n) i)) (λ i. refs_known root (known_row v i)) (λ i lt. elim (cases_eq i n) [
        | inl e ↦ subst (λ k. refs_known root (look k (kept (differs n) v.rows)) ≡ refs_known root (known_row v k)) (sym e) (ap (refs_known root) (look_dropped (differs n) n v.rows (same_test n)) ∙ sym (ap (refs_known root) free))
        | inr ne ↦ ap (refs_known root) (look_kept (differs n) i v.rows (other_test n i ne))
      ])

  out_freed : (n : ℕ) (old : Row) → n < nodes → known_row v n ≡ Some old → IsOut nodes (freed v n old) root
  out_freed n old lt was =
      let change : own_refs nodes (freed v n old) root + refs_known root (known_row v n) ≡ own_refs nodes v root + refs_known root (known_row (freed v n old) n) =
      sum_change nodes n (λ i. refs_known root (known_row (freed v n old) i)) (λ i. refs_known root (known_row v i)) lt (λ i ne. ap (refs_known root) (look_there i n Free v.rows ne)) in
      let one : refs_known root (known_row v n) ≡ times root (refs_of old) = ap (refs_known root) was in
      let two : refs_known root (known_row (freed v n old) n) ≡ 0 = ap (refs_known root) (look_here n Free v.rows) in
      let pins_are : times root (refs_of old ++ v.pins) ≡ times root (refs_of old) + times root v.pins = times_append root (refs_of old) v.pins in
      let no_refs : own_refs nodes v root ≡ 0 = out.refs in
      let no_pins : times root v.pins ≡ 0 = out.pins in
      record { refs = omega arith; pins = omega arith; idle = less_idle n }

module _ (nodes root : ℕ) (dying : ℕ → Bool) (start v : View) (changes : List Change) (doom : AreDoomed nodes root dying start) (g : IsGivenUp nodes root dying start changes v) where
  -- all dying rows are left, so something still refers to each
  dying_left : (m : ℕ) → dying m ≡ true → left dying changes m ≡ true
  dying_left m d = and_both (dying m) (not (frees changes m)) d (not_false (frees changes m) (g.none m d))

  still_known : (n : ℕ) → (n ≡ root) ⊎ (dying n ≡ true) → known_row v n ≡ known_row start n
  still_known n (inl e) = subst (λ k. known_row v k ≡ known_row start k) (sym e) g.root_row
  still_known n (inr d) = g.freeing.left_rows.stays n (dying_left n d)

  still_referred : (n : ℕ) → dying n ≡ true → own_refs nodes v n ≡ 0 → ⊥
  still_referred n d none =
      let used : 1 ≤ own_refs nodes start n = doom.referred n d in
      let t : (k : ℕ) × (k < nodes) × (1 ≤ refs_known n (known_row start k)) = sum_some nodes (λ k. refs_known n (known_row start k)) used in
      let same : refs_known n (known_row v t.0) ≡ refs_known n (known_row start t.0) = ap (refs_known n) (still_known t.0 (doom.only n d t.0 t.1 t.2)) in
      let one : refs_known n (known_row v t.0) ≤ own_refs nodes v n = sum_at nodes t.0 (λ k. refs_known n (known_row v k)) t.1 in
      let some_there : 1 ≤ refs_known n (known_row start t.0) = t.2 in
      absurd (omega arith)

  -- nothing is stored, and the root's row stays
  gives_same : (w : View) → IsFreeing nodes root dying start 0 (changes ++ []) w → known_row w root ≡ known_row v root → IsOut nodes w root → IsGivenUp nodes root dying start (changes ++ []) w
  gives_same w f row out = record {
    freeing = f;
    root_row = row ∙ g.root_row;
    root_gate = g.root_gate;
    root_out = out;
    none = λ m d. frees_append changes [] m ∙ (ap (λ b. b || false) (g.none m d));
    frees_alone = redefines_append changes [] ∙ ap (λ cs. cs ++ []) g.frees_alone;
  }

  gives_freed : (w : View) (n : ℕ) (old : Row) → IsFreeing nodes root dying start 0 (changes ++ (record { node = n; old = old; new = Free }) ∷ []) w → known_row w root ≡ known_row v root → IsOut nodes w root
      → own_refs nodes v n ≡ 0 → IsGivenUp nodes root dying start (changes ++ (record { node = n; old = old; new = Free }) ∷ []) w
  gives_freed w n old f row out alone = record {
    freeing = f;
    root_row = row ∙ g.root_row;
    root_gate = g.root_gate;
    root_out = out;
    none = λ m d.
        let other : (n == m) ≡ false = ne_eqb n m (λ e. still_referred n (ap dying e ∙ d) alone) in
        frees_append changes ((record { node = n; old = old; new = Free }) ∷ []) m ∙ (ap (λ b. b || ((n == m) || false)) (g.none m d) ∙ ap (λ b. b || false) other);
    frees_alone = redefines_append changes ((record { node = n; old = old; new = Free }) ∷ []) ∙ ap (λ cs. cs ++ []) g.frees_alone;
  }

  root_known : is_derived_known (known_row v root) ≡ true
  root_known = ap is_derived_known g.root_row ∙ g.root_gate

  abbrev Gives : EventKind → View → Type 0
  Gives e w = IsGivenUp nodes root dying start (changes ++ stored_by v e) w

  gives_on : (w : View) (e : EventKind) → Turns nodes v e w → GivesUp root v e → Gives e w
  gives_on w (Kind.Claim n) t c = absurd c
  gives_on w (Kind.ClaimFailed n) t c = absurd c
  gives_on w (Kind.Release n) t c =
      gives_same w (freeing_goes_on nodes root dying start v w 0 changes (Kind.Release n) doom g.freeing t c)
      (subst (λ (z : View). known_row z root ≡ known_row v root) (sym t) (look_kept (differs n) root v.rows (other_test n root (λ e. both_ways (is_derived_known (known_row v root)) (ap (λ k. is_derived_known (known_row v k)) e ∙ ap is_derived_known c) root_known))))
      (subst (λ z. IsOut nodes z root) (sym t) (out_released nodes v root g.root_out n c))
  gives_on w (Kind.LoadRow n) t c = absurd c
  gives_on w (Kind.Pin n) t c =
      gives_same w (freeing_goes_on nodes root dying start v w 0 changes (Kind.Pin n) doom g.freeing t tt) (ap (λ (z : View). known_row z root) t)
      (subst (λ z. IsOut nodes z root) (sym t) (out_pinned nodes v root g.root_out n c))
  gives_on w (Kind.Unpin n) t c =
      gives_same w (freeing_goes_on nodes root dying start v w 0 changes (Kind.Unpin n) doom g.freeing t tt) (ap (λ (z : View). known_row z root) t.3)
      (subst (λ z. IsOut nodes z root) (sym t.3) (out_unpinned nodes v root g.root_out n t.0 t.1))
  gives_on w (Kind.LoadCount n) t c =
      gives_same w (freeing_goes_on nodes root dying start v w 0 changes (Kind.LoadCount n) doom g.freeing t tt) (ap (λ (z : View). known_row z root) t.2)
      (subst (λ z. IsOut nodes z root) (sym t.2) (out_still nodes v root g.root_out (count_loaded nodes v n t.0) refl refl refl))
  gives_on w (Kind.LoadKey n) t c =
      gives_same w (freeing_goes_on nodes root dying start v w 0 changes (Kind.LoadKey n) doom g.freeing t tt) (ap (λ (z : View). known_row z root) t.1)
      (subst (λ z. IsOut nodes z root) (sym t.1) (out_still nodes v root g.root_out (key_loaded v n t.0) refl refl refl))
  gives_on w (Kind.SetKey n key) t c = absurd c
  gives_on w (Kind.Make n row) t c = absurd c
  gives_on w (Kind.Redefine n row over) t c = absurd c
  gives_on w (Kind.Free n) t c =
      let stored : stored_by v (Kind.Free n) ≡ (record { node = n; old = t.0; new = Free }) ∷ [] = ap (λ o. change_of n o Free) t.2 in
      let f : IsFreeing nodes root dying start 0 (changes ++ (record { node = n; old = t.0; new = Free }) ∷ []) w =
      subst (λ cs. IsFreeing nodes root dying start 0 (changes ++ cs) w) stored (freeing_goes_on nodes root dying start v w 0 changes (Kind.Free n) doom g.freeing t tt) in
      let none : own_refs nodes v n + own_pins v n ≡ 0 = t.4 in
      let other : root ≢ n = λ e. both_ways (has_node v.idle root) g.root_out.idle (ap (λ k. has_node v.idle k) e ∙ t.5) in
      subst (λ cs. IsGivenUp nodes root dying start (changes ++ cs) w) (sym stored)
      (gives_freed w n t.0 f (subst (λ (z : View). known_row z root ≡ known_row v root) (sym t.6) (look_there root n Free v.rows other))
      (subst (λ z. IsOut nodes z root) (sym t.6) (out_freed nodes v root g.root_out n t.0 t.1 t.2)) (omega arith))

pub giving_up_goes_on : GivingUpGoesOn
giving_up_goes_on nodes root dying start v w changes e doom g t c = gives_on nodes root dying start v changes doom g w e t c

pub given_up_tells : GivenUpTells
given_up_tells nodes root dying start v changes g =
    let same : ands_in nodes start (left dying changes) ≡ ands_in nodes start dying = ands_same nodes start (left dying changes) dying (λ m. all_left m (dying m) refl) in
    let count : ands_freed dying changes + ands_in nodes start (left dying changes) ≡ ands_in nodes start dying = g.freeing.counted in
    go v.difference start.difference (ands_freed dying changes) (late dying changes) (ands_before (redefines changes)) (ands_after (redefines changes))
    (differences_tell start v 0 changes dying g.freeing.told) (omega arith) (ap ands_before g.frees_alone) (ap ands_after g.frees_alone)
  where
    all_left : (m : ℕ) (d : Bool) → dying m ≡ d → left dying changes m ≡ dying m
    all_left m true e = and_both (dying m) (not (frees changes m)) e (not_false (frees changes m) (g.none m e)) ∙ sym e
    all_left m false e = ap (λ b. b && not (frees changes m)) e ∙ sym e

    go : (x s : ℤ) (f l b a : ℕ) → x +ℤ pos (f + l + b) ≡ s +ℤ pos (0 + a) → f ≡ 0 → b ≡ 0 → a ≡ 0 → x +ℤ pos l ≡ s
    go x s f l b a p q e h = omega (arith, ints)

freed_of_none : (cs : List Change) → ands_freed (λ n. false) cs ≡ 0
freed_of_none [] = refl
freed_of_none (c ∷ cs) = go (is_free c.new) (freed_of_none cs)
  where
    go : (b : Bool) → ands_freed (λ n. false) cs ≡ 0 → (if b && false then and_count c.old else 0) + ands_freed (λ n. false) cs ≡ 0
    go true ih = omega arith
    go false ih = omega arith

pub early_tells : EarlyTells
early_tells start v changes told alone =
    go v.difference start.difference (ands_freed (λ n. false) changes) (late (λ n. false) changes) (ands_before (redefines changes)) (ands_after (redefines changes))
    (differences_tell start v 0 changes (λ n. false) told) (freed_of_none changes) (ap ands_before alone) (ap ands_after alone)
  where
    go : (x s : ℤ) (f l b a : ℕ) → x +ℤ pos (f + l + b) ≡ s +ℤ pos (0 + a) → f ≡ 0 → b ≡ 0 → a ≡ 0 → x +ℤ pos l ≡ s
    go x s f l b a p q e h = omega (arith, ints)

-- ---- the measure of freeing
free_less : (nodes : ℕ) (v w : View) (n : ℕ) → Turns nodes v (Kind.Free n) w → gates_known nodes w + 1 ≡ gates_known nodes v
free_less nodes v w n t =
    let change : gates_known nodes (freed v n t.0) + one_gate (known_row v n) ≡ gates_known nodes v + one_gate (known_row (freed v n t.0) n) =
    sum_change nodes n (λ i. one_gate (known_row (freed v n t.0) i)) (λ i. one_gate (known_row v i)) t.1 (λ i ne. ap one_gate (look_there i n Free v.rows ne)) in
    let was : one_gate (known_row v n) ≡ 1 = ap one_gate t.2 ∙ gate_one t.0 t.3 in
    let is : one_gate (known_row (freed v n t.0) n) ≡ 0 = ap one_gate (look_here n Free v.rows) in
    let same : gates_known nodes w ≡ gates_known nodes (freed v n t.0) = ap (gates_known nodes) t.6 in
    omega arith
  where
    gate_one : (r : Row) → is_derived r ≡ true → one_gate (Some r) ≡ 1
    gate_one Free h = absurd (cc)
    gate_one Source h = absurd (cc)
    gate_one (And a b) h = refl
    gate_one (Alias a) h = refl

release_same : (nodes : ℕ) (v w : View) (n : ℕ) → Turns nodes v (Kind.Release n) w → known_row v n ≡ Some Free → gates_known nodes w ≡ gates_known nodes v
release_same nodes v w n t free = ap (gates_known nodes) t ∙ sum_same nodes (λ i. one_gate (known_row (released v n) i)) (λ i. one_gate (known_row v i)) (λ i lt. elim (cases_eq i n) [
  | inl e ↦ subst (λ k. one_gate (look k (kept (differs n) v.rows)) ≡ one_gate (known_row v k)) (sym e) (ap one_gate (look_dropped (differs n) n v.rows (same_test n)) ∙ sym (ap one_gate free))
  | inr ne ↦ ap one_gate (look_kept (differs n) i v.rows (other_test n i ne))
])

pub gates_fall : GatesFall
gates_fall nodes v w = (λ n t. free_less nodes v w n t, λ n t. ap (gates_known nodes) t.3, λ n t free. release_same nodes v w n t free)
