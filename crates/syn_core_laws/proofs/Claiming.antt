-- Claim, failed claim, release and load row keep the core sound.
use Rattle.std.proofs.Common.{◌≡◌, ◌≢◌, ℕ, suc, ◌<◌, true, false, nat_eq, List, ◌∷◌, length, set, get_or, length-set, Option, Some, None, refl, sym, ap, ◌∙◌, subst, arith, inl, inr}
use Rattle.std.proofs.lemmas.List.{get_or-set_same, get_or-set_other}
use Rattle.std.proofs.lemmas.Bool.{cases_eq, eqb-true}
use mathlib.Core.Option.{some}
use lib.ListN.{get_elem?}
use Rattle.syn_rows.specs.declared.Row.{Row}
use Rattle.syn_rows.specs.Rows.{row_at}
use Rattle.syn_rows.specs.References.{refs, sum_below}
use Rattle.syn_core_laws.specs.declared.View.{View}
use Rattle.syn_rows.specs.Nodes.{has_node}
use Rattle.syn_core_laws.specs.Lists.{only, look, kept}
use Rattle.syn_core_laws.specs.Views.{is_mine, known_row, refs_known, own_refs, differs, stays_sole, claimed, missed, released, row_loaded}
use Rattle.syn_core_laws.specs.Cores.{Core}
use Rattle.syn_core_laws.specs.Sound.{IsSeatSound, IsSound}
use Rattle.syn_core_laws.specs.Events.{sits, claim_stored}
use Rattle.syn_rows.proofs.Nodes.{has_here, has_there, here_or_there}
use Rattle.syn_core_laws.proofs.Listing.{and_left, and_right, or_cases, or_left, or_right, other_test, other_is, has_only, only_has, look_here, look_there, look_kept, look_dropped, kept_look, same_test, number_there, set_there}
use Rattle.syn_core_laws.proofs.Counting.{sum_same}
use Rattle.syn_core_laws.proofs.Seating.{claims_after, claimant_after, sole_unknown}

-- a claim that is, and becomes, none of the seat's
other_claim : (claims : List ℕ) (rows : List Row) (counts keys : List ℕ) (u : View) (n x : ℕ) → n < length claims
    → get_or claims n 0 ≢ suc u.number → (u.number < 64 → x ≢ suc u.number) → IsSeatSound claims rows counts keys u → IsSeatSound (set claims n x) rows counts keys u
other_claim claims rows counts keys u n x lt was is t = record {
  holds = λ m held. elim (cases_eq m n) [
    | inl e ↦ absurd (was (subst (λ k. get_or claims k 0 ≡ suc u.number) e (t.holds m held)))
    | inr ne ↦ get_or-set_other claims n m x 0 ne ∙ t.holds m held
  ];
  holder = λ small m mine. elim (cases_eq m n) [
    | inl e ↦ absurd (is small (sym (get_or-set_same claims n x 0 lt) ∙ subst (λ k. get_or (set claims n x) k 0 ≡ suc u.number) e mine))
    | inr ne ↦ t.holder small m (sym (get_or-set_other claims n m x 0 ne) ∙ mine)
  ];
  knows_rows = t.knows_rows;
  knows_keys = t.knows_keys;
  idles = t.idles;
  few = t.few;
  soles = t.soles;
}

module _ (c : Core) (id : ℕ) (v : View) (s : IsSound c) (at : get_elem? c.seats id ≡ some v) where
  -- two seats with one number are one seat
  pub other_number : v.number < 64 → (j : ℕ) (u : View) → j ≢ id → get_elem? c.seats j ≡ some u → u.number ≢ v.number
  other_number small j u ne there same = ne (sym (s.apart id j v u at there (sym same) small))

  claim_claimant : (n m : ℕ) → get_or (set c.claims n (suc v.number)) m 0 ≢ 0 → (j : ℕ) × (u : View) × (get_elem? (set c.seats id (claimed v n)) j ≡ some u) × (has_node u.held m ≡ true)
  claim_claimant n m e = elim (cases_eq m n) [
    | inl same ↦ (id, claimed v n, set_there c.seats id v (claimed v n) at, subst (λ k. has_node (n ∷ v.held) k ≡ true) (sym same) (has_here n v.held))
    | inr ne ↦ claimant_after c.seats id v (claimed v n) m at (has_there n m v.held) (s.claimant m (λ z. e (get_or-set_other c.claims n m (suc v.number) 0 ne ∙ z)))
  ]

  release_claimant : (n m : ℕ) → n < length c.claims → get_or (set c.claims n 0) m 0 ≢ 0 → (j : ℕ) × (u : View) × (get_elem? (set c.seats id (released v n)) j ≡ some u) × (has_node u.held m ≡ true)
  release_claimant n m inside e = elim (cases_eq m n) [
    | inl same ↦ absurd (e (subst (λ k. get_or (set c.claims n 0) k 0 ≡ 0) (sym same) (get_or-set_same c.claims n 0 0 inside)))
    | inr ne ↦ claimant_after c.seats id v (released v n) m at (λ h. only_has (differs n) m v.held h (other_test n m ne)) (s.claimant m (λ z. e (get_or-set_other c.claims n m 0 0 ne ∙ z)))
  ]

  -- a claim that found the node free
  pub claim_sound : (n : ℕ) → v.number < 64 → n < length c.rows → get_or c.claims n 0 ≡ 0 → IsSound (claim_stored c id (claimed v n) n (suc v.number))
  claim_sound n small lt free =
      let t : IsSeatSound c.claims c.rows c.counts c.keys v = s.seats id v at in
      let inside : n < length c.claims = omega (arith, s.claims_count) in
      let here : get_or (set c.claims n (suc v.number)) n 0 ≡ suc v.number = get_or-set_same c.claims n (suc v.number) 0 inside in
      claims_after c id v (claimed v n) s at refl (set c.claims n (suc v.number)) (length-set c.claims n (suc v.number)) (λ m e. claim_claimant n m e) refl refl
      (λ j u ne there. other_claim c.claims c.rows c.counts c.keys u n (suc v.number) inside (λ e. omega arith) (λ less e. other_number small j u ne there (omega arith)) (s.seats j u there))
      record {
        holds = λ m held. elim (cases_eq m n) [
          | inl e ↦ subst (λ k. get_or (set c.claims n (suc v.number)) k 0 ≡ suc v.number) (sym e) here
          | inr ne ↦ elim (here_or_there n m v.held held) [
            | inl e ↦ absurd (ne e)
            | inr was ↦ get_or-set_other c.claims n m (suc v.number) 0 ne ∙ t.holds m was
          ]
        ];
        holder = λ less m mine. elim (cases_eq m n) [
          | inl e ↦ subst (λ k. has_node (n ∷ v.held) k ≡ true) (sym e) (has_here n v.held)
          | inr ne ↦ has_there n m v.held (t.holder less m (sym (get_or-set_other c.claims n m (suc v.number) 0 ne) ∙ mine))
        ];
        knows_rows = λ m r e. let was = t.knows_rows m r e in (has_there n m v.held was.0, was.1);
        knows_keys = λ m k e.
            let was = t.knows_keys m k e in (
              elim (or_cases (has_node v.held m) (has_node v.pins m) was.0) [
                | inl h ↦ or_left (has_node (n ∷ v.held) m) (has_node v.pins m) (has_there n m v.held h)
                | inr h ↦ or_right (has_node (n ∷ v.held) m) (has_node v.pins m) h
              ],
              was.1,
            );
        idles = t.idles;
        few = t.few;
        soles = λ m e. let was = t.soles m e in (has_there n m v.held was.0, was.1, was.2);
      }

  -- a claim that found the node taken
  pub miss_sound : (n : ℕ) → IsSound (sits c id (missed v n))
  miss_sound n =
      let t : IsSeatSound c.claims c.rows c.counts c.keys v = s.seats id v at in
      claims_after c id v (missed v n) s at refl c.claims refl (λ m e. claimant_after c.seats id v (missed v n) m at (λ h. h) (s.claimant m e)) refl refl (λ j u ne there. s.seats j u there)
      record { holds = t.holds; holder = t.holder; knows_rows = t.knows_rows; knows_keys = t.knows_keys; idles = t.idles; few = t.few; soles = t.soles }

  -- a node that its holder lets go
  pub release_sound : (n : ℕ) → v.number < 64 → has_node v.held n ≡ true → has_node v.idle n ≡ false → IsSound (claim_stored c id (released v n) n 0)
  release_sound n small mine busy =
      let t : IsSeatSound c.claims c.rows c.counts c.keys v = s.seats id v at in
      let was : get_or c.claims n 0 ≡ suc v.number = t.holds n mine in
      let inside : n < length c.claims = number_there c.claims n (λ e. omega arith) in
      claims_after c id v (released v n) s at refl (set c.claims n 0) (length-set c.claims n 0) (λ m e. release_claimant n m inside e) refl refl
      (λ j u ne there. other_claim c.claims c.rows c.counts c.keys u n 0 inside (λ e. other_number small j u ne there (omega arith)) (λ less e. omega arith) (s.seats j u there))
      record {
        holds = λ m held. let h = has_only (differs n) m v.held held in get_or-set_other c.claims n m 0 0 (other_is n m h.1) ∙ t.holds m h.0;
        holder = λ less m e. elim (cases_eq m n) [
          | inl same ↦
              let gone : get_or (set c.claims n 0) m 0 ≡ 0 = subst (λ k. get_or (set c.claims n 0) k 0 ≡ 0) (sym same) (get_or-set_same c.claims n 0 0 inside) in
              absurd (omega arith)
          | inr ne ↦ only_has (differs n) m v.held (t.holder less m (sym (get_or-set_other c.claims n m 0 0 ne) ∙ e)) (other_test n m ne)
        ];
        knows_rows = λ m r e.
            let h = kept_look (differs n) m r v.rows e in
            let k = t.knows_rows m r h.0 in
            (only_has (differs n) m v.held k.0 h.1, k.1);
        knows_keys = λ m k e.
            let h = kept_look (is_mine (record v { held = only (differs n) v.held })) m k v.keys e in
            (h.1, (t.knows_keys m k h.0).1);
        idles = λ m e.
            let h = t.idles m e in
            let ne : m ≢ n = λ same. let no : has_node v.idle m ≡ false = subst (λ k. has_node v.idle k ≡ false) (sym same) busy in absurd (cc) in
            ((h.0.0, look_kept (differs n) m v.rows (other_test n m ne) ∙ h.0.1, h.0.2), h.1);
        few = t.few;
        soles = λ m e.
            let h = has_only (stays_sole v n) m v.sole e in
            let k = t.soles m h.0 in
            let first : differs n m ≡ true = and_left (differs n m) (nat_eq (refs_known m (known_row v n)) 0) h.1 in
            let none : refs_known m (known_row v n) ≡ 0 = eqb-true (refs_known m (known_row v n)) 0 (and_right (differs n m) (nat_eq (refs_known m (known_row v n)) 0) h.1) in
            let same : sum_below (length c.rows) (λ i. refs_known m (look i (kept (differs n) v.rows))) ≡ own_refs (length c.rows) v m =
            sum_same (length c.rows) (λ i. refs_known m (look i (kept (differs n) v.rows))) (λ i. refs_known m (known_row v i)) (λ i lt. elim (cases_eq i n) [
              | inl e ↦ subst (λ k. refs_known m (look k (kept (differs n) v.rows)) ≡ refs_known m (known_row v k)) (sym e) (ap (refs_known m) (look_dropped (differs n) n v.rows (same_test n)) ∙ sym none)
              | inr ne ↦ ap (refs_known m) (look_kept (differs n) i v.rows (other_test n i ne))
            ]) in
            (only_has (differs n) m v.held k.0 first, k.1, omega (arith, k.2));
      }

  -- a load tells nothing new of a sole node
  load_same : (m n : ℕ) → has_node v.sole m ≡ true → (o : Option Row) → known_row v n ≡ o → refs m (row_at c.rows n) ≡ refs_known m o
  load_same m n sole None e = sole_unknown c id v s at m n sole e
  load_same m n sole (Some r) e = ap (refs m) ((s.seats id v at).knows_rows n r e).1

  -- the row of a held node is loaded
  pub load_row_sound : (n : ℕ) → has_node v.held n ≡ true → IsSound (sits c id (row_loaded v n (row_at c.rows n)))
  load_row_sound n mine =
      let t : IsSeatSound c.claims c.rows c.counts c.keys v = s.seats id v at in
      let row : Row = row_at c.rows n in
      claims_after c id v (row_loaded v n row) s at refl c.claims refl (λ m e. claimant_after c.seats id v (row_loaded v n row) m at (λ h. h) (s.claimant m e)) refl refl (λ j u ne there. s.seats j u there)
      record {
        holds = t.holds;
        holder = t.holder;
        knows_rows = λ m r e. elim (cases_eq m n) [
          | inl same ↦
              let is : look m ((n, row) ∷ v.rows) ≡ Some row = subst (λ k. look k ((n, row) ∷ v.rows) ≡ Some row) (sym same) (look_here n row v.rows) in
              let equal : row ≡ r = let x : Some row ≡ Some r = sym is ∙ e in cc in
              (subst (λ k. has_node v.held k ≡ true) (sym same) mine, ap (row_at c.rows) same ∙ equal)
          | inr ne ↦ t.knows_rows m r (sym (look_there m n row v.rows ne) ∙ e)
        ];
        knows_keys = t.knows_keys;
        idles = λ m e.
            let was = t.idles m e in (
              elim (cases_eq m n) [
                | inl same ↦
                    let is : look m ((n, row) ∷ v.rows) ≡ Some row = subst (λ k. look k ((n, row) ∷ v.rows) ≡ Some row) (sym same) (look_here n row v.rows) in
                    let equal : row ≡ was.0.0 = ap (row_at c.rows) (sym same) ∙ (t.knows_rows m was.0.0 was.0.1).1 in
                    (was.0.0, is ∙ ap Some equal, was.0.2)
                | inr ne ↦ (was.0.0, look_there m n row v.rows ne ∙ was.0.1, was.0.2)
              ],
              was.1,
            );
        few = t.few;
        soles = λ m e.
            let was = t.soles m e in
            let same : sum_below (length c.rows) (λ i. refs_known m (look i ((n, row) ∷ v.rows))) ≡ own_refs (length c.rows) v m =
            sum_same (length c.rows) (λ i. refs_known m (look i ((n, row) ∷ v.rows))) (λ i. refs_known m (known_row v i)) (λ i lt. elim (cases_eq i n) [
              | inl e' ↦ subst (λ k. refs_known m (look k ((n, row) ∷ v.rows)) ≡ refs_known m (known_row v k)) (sym e') (ap (refs_known m) (look_here n row v.rows) ∙ load_same m n e (known_row v n) refl)
              | inr ne ↦ ap (refs_known m) (look_there i n row v.rows ne)
            ]) in
            (was.0, was.1, omega (arith, was.2));
      }
