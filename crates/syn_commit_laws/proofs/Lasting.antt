-- The dying rows that are left, over each event of a commit.
use Rattle.std.proofs.Common.{◌≡◌, ◌≢◌, ℕ, ◌+◌, ◌<◌, ◌≤◌, ◌==◌, ◌&&◌, Bool, true, false, if◌then◌else◌, List, [], ◌∷◌, ◌++◌, Option, Some, None, refl, sym, ap, ◌∙◌, subst, arith, inl, inr, eq-zero-or-pos}
use Rattle.std.proofs.lemmas.Bool.{cases_Bool, cases_eq, eq-eqb, both_ways, false_from_ne_true}
use Rattle.syn_rows.specs.declared.Row.{Row}
use Rattle.syn_rows.specs.declared.Row.TheVariants.{Free}
use Rattle.syn_rows.specs.Rows.{refs_of}
use Rattle.syn_rows.specs.References.{hits, refs, times}
use Rattle.syn_core_laws.specs.declared.View.{View}
use Rattle.syn_rows.specs.Nodes.{has_node}
use Rattle.syn_core_laws.specs.Lists.{only, without_one, without_each, look, kept}
use Rattle.syn_core_laws.specs.Views.{is_derived_known, known_row, refs_known, own_refs, own_pins, differs, stays_sole, is_sole, released, pinned, unpinned, count_loaded, key_loaded, key_set, made, redefined, freed}
use Rattle.syn_rows.proofs.Nodes.{has_here, has_there}
use Rattle.syn_core_laws.proofs.Listing.{and_both, other_test, same_test, has_only, only_has, look_here, look_there, look_kept, look_dropped}
use Rattle.syn_core_laws.proofs.Counting.{sum_same, sum_change, hits_same, hits_other, times_has, times_append, times_less, times_less_each}
use Rattle.syn_commit_laws.specs.Dying.{AreDoomed}
use Rattle.syn_commit_laws.specs.Turning.{IsServed, Spares}
use Rattle.syn_commit_laws.specs.Freeing.{AreLeft, IsGone}
use Rattle.syn_commit_laws.proofs.Sums.{sum_some}

has_if : (m n : ℕ) (b : Bool) (xs : List ℕ) → has_node xs m ≡ true → has_node (if b then n ∷ xs else xs) m ≡ true
has_if m n true xs h = has_there n m xs h
has_if m n false xs h = h

module _ (nodes root : ℕ) (dying still : ℕ → Bool) (start v : View) (doom : AreDoomed nodes root dying start) (a : AreLeft nodes root dying still start v) where
  -- a row that is left is a gate, and not the root's
  left_gate : (m : ℕ) → still m ≡ true → is_derived_known (known_row v m) ≡ true
  left_gate m h = ap is_derived_known (a.stays m h) ∙ doom.gates m (a.among m h)

  left_other : (m : ℕ) → dying m ≡ true → m ≢ root
  left_other m h e = both_ways (dying m) (ap dying e ∙ doom.root_stays) h

  not_free : (m n : ℕ) → still m ≡ true → known_row v n ≡ Some Free → m ≢ n
  not_free m n h free e = both_ways (is_derived_known (known_row v m)) (ap (λ k. is_derived_known (known_row v k)) e ∙ ap is_derived_known free) (left_gate m h)

  -- what is gone stays so where neither its row nor whether it is held changes
  gone_still : (w : View) (m : ℕ) → has_node w.held m ≡ has_node v.held m → known_row w m ≡ known_row v m → IsGone v m → IsGone w m
  gone_still w m held row (inl free) = inl (row ∙ free)
  gone_still w m held row (inr off) = inr (row ∙ off.0, held ∙ off.1)

  -- known rows stay
  rows_stay : (w : View) → w.held ≡ v.held → ((n : ℕ) → known_row w n ≡ known_row v n) → ((m : ℕ) → has_node v.sole m ≡ true → has_node w.sole m ≡ true)
      → ((m : ℕ) → still m ≡ true → own_refs nodes v m + own_pins w m ≡ 0 → has_node w.idle m ≡ true)
      → AreLeft nodes root dying still start w
  rows_stay w held rows soles idles = record {
    among = a.among;
    soles = λ m h. soles m (a.soles m h);
    stays = λ m h. rows m ∙ a.stays m h;
    only = λ m h n lt le. a.only m h n lt (subst (λ o. 1 ≤ refs_known m o) (rows n) le);
    idles = λ m h e.
        let same : own_refs nodes w m ≡ own_refs nodes v m = sum_same nodes (λ n. refs_known m (known_row w n)) (λ n. refs_known m (known_row v n)) (λ n lt. ap (refs_known m) (rows n)) in
        idles m h (omega arith);
    gone = λ m d g. gone_still w m (ap (λ ns. has_node ns m) held) (rows m) (a.gone m d g);
  }

  pub left_pinned : (n : ℕ) → AreLeft nodes root dying still start (pinned v n)
  left_pinned n = rows_stay (pinned v n) refl (λ k. refl) (λ m s. s) (λ m h e.
      let ne : m ≢ n = λ same. let one : hits m n ≡ 1 = subst (λ k. hits m k ≡ 1) same (hits_same m) in absurd (omega arith) in
      only_has (differs n) m v.idle (a.idles m h (omega arith)) (other_test n m ne))

  pub left_unpinned : (n count : ℕ) → has_node v.pins n ≡ true → (has_node v.sole n ≡ true → count ≡ own_refs nodes v n + own_pins v n) → AreLeft nodes root dying still start (unpinned v n count)
  left_unpinned n count own told = rows_stay (unpinned v n count) refl (λ k. refl) (λ m s. s) (λ m h e.
      let fewer : times m (without_one n v.pins) + hits m n ≡ times m v.pins = times_less m n v.pins (times_has n v.pins own) in
      elim (cases_eq m n) [
        | inl same ↦
            let one : hits m n ≡ 1 = subst (λ k. hits m k ≡ 1) same (hits_same m) in
            let all : own_refs nodes v m + own_pins v m ≡ 1 = omega arith in
            let here : count ≡ 1 = told (subst (λ k. has_node v.sole k ≡ true) same (a.soles m h)) ∙ subst (λ k. own_refs nodes v k + own_pins v k ≡ 1) same all in
            let gate : is_derived_known (known_row v n) ≡ true = subst (λ k. is_derived_known (known_row v k) ≡ true) same (left_gate m h) in
            ap (λ b. has_node (if b then n ∷ v.idle else v.idle) m) (and_both (count == 1) (is_derived_known (known_row v n)) (eq-eqb count 1 here) gate)
            ∙ subst (λ k. has_node (n ∷ v.idle) k ≡ true) (sym same) (has_here n v.idle)
        | inr ne ↦
            let none : hits m n ≡ 0 = hits_other m n ne in
            has_if m n ((count == 1) && is_derived_known (known_row v n)) v.idle (a.idles m h (omega arith))
      ])

  pub left_counted : (n x : ℕ) → AreLeft nodes root dying still start (count_loaded nodes v n x)
  left_counted n x = rows_stay (count_loaded nodes v n x) refl (λ k. refl) (λ m s. has_if m n (is_sole nodes v n x) v.sole s) (λ m h e. a.idles m h e)

  pub left_keyed : (n key : ℕ) → AreLeft nodes root dying still start (key_loaded v n key)
  left_keyed n key = rows_stay (key_loaded v n key) refl (λ k. refl) (λ m s. s) (λ m h e. a.idles m h e)

  pub left_key_set : (n key : ℕ) → AreLeft nodes root dying still start (key_set v n key)
  left_key_set n key = rows_stay (key_set v n key) refl (λ k. refl) (λ m s. s) (λ m h e. a.idles m h e)

  -- a free node is let go
  pub left_released : (n : ℕ) → known_row v n ≡ Some Free → AreLeft nodes root dying still start (released v n)
  left_released n free = record {
    among = a.among;
    soles = λ m h.
        let none : refs_known m (known_row v n) ≡ 0 = ap (refs_known m) free in
        only_has (stays_sole v n) m v.sole (a.soles m h) (and_both (differs n m) (refs_known m (known_row v n) == 0) (other_test n m (not_free m n h free)) (eq-eqb (refs_known m (known_row v n)) 0 none));
    stays = λ m h. look_kept (differs n) m v.rows (other_test n m (not_free m n h free)) ∙ a.stays m h;
    only = λ m h k lt le. a.only m h k lt (subst (λ x. 1 ≤ x) (refs_stay m k) le);
    idles = λ m h e.
        let same : own_refs nodes (released v n) m ≡ own_refs nodes v m = sum_same nodes (λ k. refs_known m (look k (kept (differs n) v.rows))) (λ k. refs_known m (known_row v k)) (λ k lt. refs_stay m k) in
        a.idles m h (omega arith);
    gone = λ m d g. elim (cases_eq m n) [
      | inl e ↦ inr (subst (λ k. look k (kept (differs n) v.rows) ≡ None) (sym e) (look_dropped (differs n) n v.rows (same_test n)), not_held m (λ h. both_ways (differs n m) (ap (differs n) e ∙ same_test n) (has_only (differs n) m v.held h).1))
      | inr ne ↦ elim (a.gone m d g) [
        | inl is ↦ inl (look_kept (differs n) m v.rows (other_test n m ne) ∙ is)
        | inr off ↦ inr (look_kept (differs n) m v.rows (other_test n m ne) ∙ off.0, not_held m (λ h. both_ways (has_node v.held m) off.1 (has_only (differs n) m v.held h).0))
      ]
    ];
  }
    where
      not_held : (m : ℕ) → (has_node (only (differs n) v.held) m ≡ true → ⊥) → has_node (only (differs n) v.held) m ≡ false
      not_held m h = false_from_ne_true (has_node (only (differs n) v.held) m) h

      refs_stay : (m k : ℕ) → refs_known m (look k (kept (differs n) v.rows)) ≡ refs_known m (known_row v k)
      refs_stay m k = elim (cases_eq k n) [
        | inl e ↦ subst (λ z. refs_known m (look z (kept (differs n) v.rows)) ≡ refs_known m (known_row v z)) (sym e) (ap (refs_known m) (look_dropped (differs n) n v.rows (same_test n)) ∙ sym (ap (refs_known m) free))
        | inr ne ↦ ap (refs_known m) (look_kept (differs n) k v.rows (other_test n k ne))
      ]

  -- a row is stored that the seat knew, one node's references against the seat's pins
  stored_refs : (n m : ℕ) (old row : Row) (w : View) → n < nodes → known_row v n ≡ Some old → known_row w n ≡ Some row → ((k : ℕ) → k ≢ n → known_row w k ≡ known_row v k)
      → own_refs nodes w m + refs m old ≡ own_refs nodes v m + refs m row
  stored_refs n m old row w lt was is others =
      let change : own_refs nodes w m + refs_known m (known_row v n) ≡ own_refs nodes v m + refs_known m (known_row w n) =
      sum_change nodes n (λ k. refs_known m (known_row w k)) (λ k. refs_known m (known_row v k)) lt (λ k ne. ap (refs_known m) (others k ne)) in
      let one : refs_known m (known_row v n) ≡ refs m old = ap (refs_known m) was in
      let two : refs_known m (known_row w n) ≡ refs m row = ap (refs_known m) is in
      omega arith

  -- a row is made in a node that doesn't die, over nodes that don't
  pub left_made : (n : ℕ) (row : Row) → n < nodes → known_row v n ≡ Some Free → IsServed v row → dying n ≡ false → Spares dying row → AreLeft nodes root dying still start (made v n row)
  left_made n row lt free served live spares = record {
    among = a.among;
    soles = λ m h. a.soles m h;
    stays = λ m h. look_there m n row v.rows (not_free m n h free) ∙ a.stays m h;
    only = λ m h k lt le. elim (cases_eq k n) [
      | inl e ↦
          let here : refs_known m (look k ((n, row) ∷ v.rows)) ≡ refs m row = ap (refs_known m) (subst (λ z. look z ((n, row) ∷ v.rows) ≡ Some row) (sym e) (look_here n row v.rows)) in
          let none : refs m row ≡ 0 = spares m (a.among m h) in
          absurd (omega arith)
      | inr ne ↦ a.only m h k lt (subst (λ o. 1 ≤ refs_known m o) (look_there k n row v.rows ne) le)
    ];
    idles = λ m h e.
        let refs_move : own_refs nodes (made v n row) m + refs m Free ≡ own_refs nodes v m + refs m row = stored_refs n m Free row (made v n row) lt free (look_here n row v.rows) (λ k ne. look_there k n row v.rows ne) in
        let pins_move : times m (without_each (refs_of row) v.pins) + times m (refs_of row) ≡ times m v.pins = times_less_each m (refs_of row) v.pins served in
        let none : times m (refs_of row) ≡ 0 = spares m (a.among m h) in
        has_there n m v.idle (a.idles m h (omega arith));
    gone = λ m d g. gone_still (made v n row) m refl (look_there m n row v.rows (λ e. both_ways (dying m) (ap dying e ∙ live) d)) (a.gone m d g);
  }

  -- the root gets another row
  pub left_redefined : (n : ℕ) (old row : Row) → n < nodes → known_row v n ≡ Some old → IsServed v row → n ≡ root → AreLeft nodes root dying still start (redefined v n old row)
  left_redefined n old row lt was served is = record {
    among = a.among;
    soles = λ m h. a.soles m h;
    stays = λ m h. look_there m n row v.rows (other m (a.among m h)) ∙ a.stays m h;
    only = λ m h k lt le. elim (cases_eq k n) [
      | inl e ↦ inl (e ∙ is)
      | inr ne ↦ a.only m h k lt (subst (λ o. 1 ≤ refs_known m o) (look_there k n row v.rows ne) le)
    ];
    idles = λ m h e.
        let refs_move : own_refs nodes (redefined v n old row) m + refs m old ≡ own_refs nodes v m + refs m row = stored_refs n m old row (redefined v n old row) lt was (look_here n row v.rows) (λ k ne. look_there k n row v.rows ne) in
        let pins_move : times m (without_each (refs_of row) v.pins) + times m (refs_of row) ≡ times m v.pins = times_less_each m (refs_of row) v.pins served in
        let pins_are : times m (refs_of old ++ without_each (refs_of row) v.pins) ≡ times m (refs_of old) + times m (without_each (refs_of row) v.pins) = times_append m (refs_of old) (without_each (refs_of row) v.pins) in
        a.idles m h (omega arith);
    gone = λ m d g. gone_still (redefined v n old row) m refl (look_there m n row v.rows (other m d)) (a.gone m d g);
  }
    where
      other : (m : ℕ) → dying m ≡ true → m ≢ n
      other m h e = left_other m h (e ∙ is)

  -- a row on the zero list is freed
  pub left_freed : (after : ℕ → Bool) (n : ℕ) (old : Row) → n < nodes → known_row v n ≡ Some old
      → ((m : ℕ) → after m ≡ true → (still m ≡ true) × (m ≢ n)) → ((m : ℕ) → still m ≡ true → m ≢ n → after m ≡ true)
      → AreLeft nodes root dying after start (freed v n old)
  left_freed after n old lt was less rest = record {
    among = λ m h. a.among m (less m h).0;
    soles = λ m h. a.soles m (less m h).0;
    stays = λ m h. look_there m n Free v.rows (less m h).1 ∙ a.stays m (less m h).0;
    only = λ m h k lt le. elim (cases_eq k n) [
      | inl e ↦
          let here : refs_known m (look k ((n, Free) ∷ v.rows)) ≡ 0 = ap (refs_known m) (subst (λ z. look z ((n, Free) ∷ v.rows) ≡ Some Free) (sym e) (look_here n Free v.rows)) in
          absurd (omega arith)
      | inr ne ↦ elim (a.only m (less m h).0 k lt (subst (λ o. 1 ≤ refs_known m o) (look_there k n Free v.rows ne) le)) [
        | inl e ↦ inl e
        | inr s ↦ inr (rest k s ne)
      ]
    ];
    idles = λ m h e.
        let refs_move : own_refs nodes (freed v n old) m + refs m old ≡ own_refs nodes v m + refs m Free = stored_refs n m old Free (freed v n old) lt was (look_here n Free v.rows) (λ k ne. look_there k n Free v.rows ne) in
        let pins_are : times m (refs_of old ++ v.pins) ≡ times m (refs_of old) + times m v.pins = times_append m (refs_of old) v.pins in
        only_has (differs n) m v.idle (a.idles m (less m h).0 (omega arith)) (other_test n m (less m h).1);
    gone = λ m d g. elim (cases_eq m n) [
      | inl e ↦ inl (subst (λ z. look z ((n, Free) ∷ v.rows) ≡ Some Free) (sym e) (look_here n Free v.rows))
      | inr ne ↦ gone_still (freed v n old) m refl (look_there m n Free v.rows ne) (a.gone m d (elim (cases_Bool (still m)) [
        | inl s ↦ absurd (both_ways (after m) g (rest m s ne))
        | inr s ↦ s
      ]))
    ];
  }

  -- with no pin and no zero list, each row that is left is referred to by one that is left
  pub next_left : v.pins ≡ [] → v.idle ≡ [] → ((row : Row) → known_row v root ≡ Some row → Spares dying row)
      → (m : ℕ) → still m ≡ true → (n : ℕ) × (n < nodes) × (still n ≡ true) × (1 ≤ refs_known m (known_row v n))
  next_left pins idle spares m h = elim (eq-zero-or-pos (own_refs nodes v m)) [
    | inl none ↦
        let no_pins : own_pins v m ≡ 0 = ap (times m) pins in
        absurd (both_ways (has_node v.idle m) (ap (λ ns. has_node ns m) idle) (a.idles m h (omega arith)))
    | inr some_there ↦
        let t : (n : ℕ) × (n < nodes) × (1 ≤ refs_known m (known_row v n)) = sum_some nodes (λ n. refs_known m (known_row v n)) some_there in
        elim (a.only m h t.0 t.1 t.2) [
          | inl e ↦ absurd (spared m (a.among m h) (known_row v root) refl (subst (λ k. 1 ≤ refs_known m (known_row v k)) e t.2))
          | inr s ↦ (t.0, t.1, s, t.2)
        ]
  ]
    where
      spared : (m : ℕ) → dying m ≡ true → (o : Option Row) → known_row v root ≡ o → 1 ≤ refs_known m o → ⊥
      spared m d None e le = absurd (omega arith)
      spared m d (Some r) e le = let none : refs m r ≡ 0 = spares r e m d in absurd (omega arith)

-- so it begins
pub left_first : (nodes root : ℕ) (dying still : ℕ → Bool) (start : View) → AreDoomed nodes root dying start → ((m : ℕ) → still m ≡ dying m) → AreLeft nodes root dying still start start
left_first nodes root dying still start doom same = record {
  among = λ m h. sym (same m) ∙ h;
  soles = λ m h. doom.soles m (sym (same m) ∙ h);
  stays = λ m h. refl;
  only = λ m h n lt le. elim (doom.only m (sym (same m) ∙ h) n lt le) [
    | inl e ↦ inl e
    | inr d ↦ inr (same n ∙ d)
  ];
  idles = λ m h e. let used : 1 ≤ own_refs nodes start m = doom.referred m (sym (same m) ∙ h) in absurd (omega arith);
  gone = λ m d g. absurd (both_ways (dying m) (sym (same m) ∙ g) d);
}

-- the same set, told otherwise
pub left_same : (nodes root : ℕ) (dying still after : ℕ → Bool) (start v : View) → ((m : ℕ) → after m ≡ still m) → AreLeft nodes root dying still start v → AreLeft nodes root dying after start v
left_same nodes root dying still after start v same a = record {
  among = λ m h. a.among m (sym (same m) ∙ h);
  soles = λ m h. a.soles m (sym (same m) ∙ h);
  stays = λ m h. a.stays m (sym (same m) ∙ h);
  only = λ m h n lt le. elim (a.only m (sym (same m) ∙ h) n lt le) [
    | inl e ↦ inl e
    | inr s ↦ inr (same n ∙ s)
  ];
  idles = λ m h e. a.idles m (sym (same m) ∙ h) e;
  gone = λ m d g. a.gone m d (sym (same m) ∙ g);
}
