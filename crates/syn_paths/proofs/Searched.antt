-- The search keeps its state.
use Rattle.std.proofs.Common.{◌≡◌, ℕ, zero, suc, ◌+◌, ◌⊎◌, ◌<◌, ◌≤◌, nat_eq, Bool, true, false, List, [], ◌∷◌, ◌++◌, length, length-append, map, drop, nat_lt, get_or, refl, sym, ap, ◌∙◌, subst, inl, inr, arith, Option, None, Some, if◌then◌else◌}
use Rattle.std.proofs.Math.ListN.{set, length-set}
use Rattle.std.specs.List.{sum_by}
use Rattle.std.proofs.lemmas.Bool.{and_parts, both_ways, cases_lt, eq-eqb, ltb-true, or_cases, or_left, or_right}
use Rattle.std.proofs.lemmas.List.{drop_more, get_or_append_left, get_or_at}
use Rattle.std.proofs.lemmas.List.Sums.{sum_by-set}
use Rattle.syn_rows.specs.declared.Row.{Row}
use Rattle.syn_paths.specs.declared.places.Next.{Next}
use Rattle.syn_paths.specs.declared.places.Next.TheVariants.{Off, Last, To}
use Rattle.syn_paths.specs.declared.places.Place.{Place}
use Rattle.syn_paths.specs.declared.places.Place.TheVariants.{In, Out}
use Rattle.syn_paths.specs.declared.places.Step.{Step}
use Rattle.syn_rows.specs.Nodes.{has_node}
use Rattle.syn_rows.specs.Rows.{InOrder}
use Rattle.syn_cones.specs.Cones.{refs_at}
use Rattle.syn_paths.specs.Augmenting.{has_place, same_place}
use Rattle.syn_paths.specs.Checking.{all_within, is_marked, NoneMarked}
use Rattle.syn_paths.specs.Tops.{label_in}
use Rattle.syn_paths.specs.Walking.{unmarked}
use Rattle.syn_paths.specs.Searching.{before, before_by, CameFrom, enter_all, entered, into_out, is_found, is_seen, IsSearching, IsStart, IsTrail, nearer_last, next_at, NextWithin, no_step, node_at, own_out, place_at, search_left, see_in, see_out, State, state, step_at, trail_new, wait_new}
use Rattle.syn_rows.proofs.Nodes.{has_at, has_cases, has_here, has_left, has_one, has_right, has_there, here_or_there}
use Rattle.syn_paths.proofs.Falling.{refers_below}
use Rattle.syn_paths.proofs.Checked.{marked_before, marked_here, marked_still}
use Rattle.syn_paths.proofs.Augmented.{place_same, same_self}

-- lists of places

pub place_head : (p : Place) (ps : List Place) → has_place (p ∷ ps) p ≡ true
place_head p ps = or_left (same_place p p) (has_place ps p) (same_self p)

pub place_tail : (q p : Place) (ps : List Place) → has_place ps p ≡ true → has_place (q ∷ ps) p ≡ true
place_tail q p ps h = or_right (same_place q p) (has_place ps p) h

pub place_either : (q p : Place) (ps : List Place) → has_place (q ∷ ps) p ≡ true → (p ≡ q) ⊎ (has_place ps p ≡ true)
place_either q p ps h = elim (or_cases (same_place q p) (has_place ps p) h) [ inl e ↦ inl (sym (place_same q p e)) | inr t ↦ inr t ]

pub place_left : (xs ys : List Place) (p : Place) → has_place xs p ≡ true → has_place (xs ++ ys) p ≡ true
place_left [] ys p h = absurd (both_ways false refl h)
place_left (x ∷ xs) ys p h = elim (or_cases (same_place x p) (has_place xs p) h) [
  | inl e ↦ or_left (same_place x p) (has_place (xs ++ ys) p) e
  | inr t ↦ place_tail x p (xs ++ ys) (place_left xs ys p t)
]

pub place_right : (xs ys : List Place) (p : Place) → has_place ys p ≡ true → has_place (xs ++ ys) p ≡ true
place_right [] ys p h = h
place_right (x ∷ xs) ys p h = place_tail x p (xs ++ ys) (place_right xs ys p h)

pub place_cases : (xs ys : List Place) (p : Place) → has_place (xs ++ ys) p ≡ true → (has_place xs p ≡ true) ⊎ (has_place ys p ≡ true)
place_cases [] ys p h = inr h
place_cases (x ∷ xs) ys p h = elim (or_cases (same_place x p) (has_place (xs ++ ys) p) h) [
  | inl e ↦ inl (or_left (same_place x p) (has_place xs p) e)
  | inr t ↦ elim (place_cases xs ys p t) [ inl a ↦ inl (place_tail x p xs a) | inr b ↦ inr b ]
]

-- marks of places

seen_here : (ins outs : List ℕ) (stamp : ℕ) (p : Place) → node_at p < length ins → node_at p < length outs → is_seen (see_in ins stamp p) (see_out outs stamp p) stamp p ≡ true
seen_here ins outs stamp (In v) lt less = marked_here ins stamp v lt
seen_here ins outs stamp (Out v) lt less = marked_here outs stamp v less

seen_still : (ins outs : List ℕ) (stamp : ℕ) (p q : Place) → node_at p < length ins → node_at p < length outs → is_seen ins outs stamp q ≡ true → is_seen (see_in ins stamp p) (see_out outs stamp p) stamp q ≡ true
seen_still ins outs stamp (In v) (In w) lt less h = marked_still ins stamp v w lt h
seen_still ins outs stamp (In v) (Out w) lt less h = h
seen_still ins outs stamp (Out v) (In w) lt less h = h
seen_still ins outs stamp (Out v) (Out w) lt less h = marked_still outs stamp v w less h

seen_before : (ins outs : List ℕ) (stamp : ℕ) (p q : Place) → is_seen (see_in ins stamp p) (see_out outs stamp p) stamp q ≡ true → (q ≡ p) ⊎ (is_seen ins outs stamp q ≡ true)
seen_before ins outs stamp (In v) (In w) h = elim (marked_before ins stamp v w h) [ inl e ↦ inl (ap In e) | inr t ↦ inr t ]
seen_before ins outs stamp (In v) (Out w) h = inr h
seen_before ins outs stamp (Out v) (In w) h = inr h
seen_before ins outs stamp (Out v) (Out w) h = elim (marked_before outs stamp v w h) [ inl e ↦ inl (ap Out e) | inr t ↦ inr t ]

pub ins_long : (ins : List ℕ) (stamp : ℕ) (p : Place) → length (see_in ins stamp p) ≡ length ins
ins_long ins stamp (In v) = length-set ins v stamp
ins_long ins stamp (Out v) = refl

pub outs_long : (outs : List ℕ) (stamp : ℕ) (p : Place) → length (see_out outs stamp p) ≡ length outs
outs_long outs stamp (In v) = refl
outs_long outs stamp (Out v) = length-set outs v stamp

-- one more step of the trail

step_old : (trail : List Step) (x : Step) (i : ℕ) → i < length trail → step_at (trail ++ x ∷ []) i ≡ step_at trail i
step_old trail x i lt = get_or_append_left trail (x ∷ []) no_step i lt

step_new : (trail : List Step) (x : Step) → step_at (trail ++ x ∷ []) (length trail) ≡ x
step_new trail x = get_or_at trail x [] no_step (length trail) refl

came_more : (rows : List Row) (next : List Next) (IsBelow : ℕ → Type 0) (trail : List Step) (x : Step) (i : ℕ) (place : Place) (from : Option ℕ) → i ≤ length trail → CameFrom rows next IsBelow trail i place from
    → CameFrom rows next IsBelow (trail ++ x ∷ []) i place from
came_more rows next IsBelow trail x i place None le h = h
came_more rows next IsBelow trail x i place (Some j) le h =
    (h.0, subst (λ (st : Step). has_place (before rows next st.place) place ≡ true) (sym (step_old trail x j (omega (arith, h.0, le)))) h.1)

old_or_new : (trail : List Step) (x : Step) (i : ℕ) → i < length (trail ++ x ∷ []) → (i < length trail) ⊎ (i ≡ length trail)
old_or_new trail x i lt = elim (cases_lt i (length trail)) [
  | inl less ↦ inl less
  | inr past ↦ inr (omega (arith, lt, past, length-append trail (x ∷ [])))
]

-- a place that was marked is entered
enter_known : (rows : List Row) (next : List Next) (IsBelow : ℕ → Type 0) (stamp : ℕ) (s : State) (p : Place) (todo : List Place) → node_at p < length s.ins → node_at p < length s.outs
    → is_seen s.ins s.outs stamp p ≡ true → IsSearching rows next IsBelow stamp s (p ∷ todo) → IsSearching rows next IsBelow stamp (state (see_in s.ins stamp p) (see_out s.outs stamp p) s.trail s.waiting) todo
enter_known rows next IsBelow stamp s p todo lt less known w = record {
  came = w.came;
  once = w.once;
  seen = λ i here. seen_still s.ins s.outs stamp p (place_at s.trail i) lt less (w.seen i here);
  stands = λ q h. elim (seen_before s.ins s.outs stamp p q h) [
    | inl e ↦ w.stands q (subst (λ k. is_seen s.ins s.outs stamp k ≡ true) (sym e) known)
    | inr t ↦ w.stands q t
  ];
  within = λ i here. (omega (arith, (w.within i here).0, ins_long s.ins stamp p), omega (arith, (w.within i here).1, outs_long s.outs stamp p));
  waits = w.waits;
  closed = λ i here. elim (w.closed i here) [ inl h ↦ inl h | inr f ↦ inr (λ q h. later q (f q h)) ];
  begun = λ v h. later (Out v) (w.begun v h);
  inner = w.inner;
}
  where
    later : (q : Place) → (is_seen s.ins s.outs stamp q ≡ true) ⊎ (has_place (p ∷ todo) q ≡ true) → (is_seen (see_in s.ins stamp p) (see_out s.outs stamp p) stamp q ≡ true) ⊎ (has_place todo q ≡ true)
    later q (inl h) = inl (seen_still s.ins s.outs stamp p q lt less h)
    later q (inr h) = elim (place_either p q todo h) [
      | inl e ↦ inl (subst (λ k. is_seen (see_in s.ins stamp p) (see_out s.outs stamp p) stamp k ≡ true) (sym e) (seen_here s.ins s.outs stamp p lt less))
      | inr t ↦ inr t
    ]

-- a place that wasn't
enter_new : (rows : List Row) (next : List Next) (IsBelow : ℕ → Type 0) (stamp : ℕ) (s : State) (p : Place) (from : Option ℕ) (todo : List Place) → node_at p < length s.ins → node_at p < length s.outs
    → CameFrom rows next IsBelow s.trail (length s.trail) p from → is_seen s.ins s.outs stamp p ≡ false → IsSearching rows next IsBelow stamp s (p ∷ todo)
    → IsSearching rows next IsBelow stamp (state (see_in s.ins stamp p) (see_out s.outs stamp p) (s.trail ++ record { place = p; from = from } ∷ []) (s.waiting ++ length s.trail ∷ [])) todo
enter_new rows next IsBelow stamp s p from todo lt less came new w = record {
  came = λ i here. elim (old_or_new s.trail x i here) [
    | inl old ↦ subst (λ (st : Step). CameFrom rows next IsBelow (s.trail ++ x ∷ []) i st.place st.from) (sym (step_old s.trail x i old)) (came_more rows next IsBelow s.trail x i (place_at s.trail i) (step_at s.trail i).from (omega (arith, old)) (w.came i old))
    | inr e ↦ subst (λ k. CameFrom rows next IsBelow (s.trail ++ x ∷ []) k (step_at (s.trail ++ x ∷ []) k).place (step_at (s.trail ++ x ∷ []) k).from) (sym e)
        (subst (λ (st : Step). CameFrom rows next IsBelow (s.trail ++ x ∷ []) (length s.trail) st.place st.from) (sym (step_new s.trail x)) (came_more rows next IsBelow s.trail x (length s.trail) p from (omega arith) came))
  ];
  once = λ i j before here. elim (old_or_new s.trail x j here) [
    | inl old ↦ λ same. w.once i j before old (sym (place_old i (omega (arith, before, old))) ∙ same ∙ place_old j old)
    | inr e ↦ λ same. both_ways (is_seen s.ins s.outs stamp p) new (subst (λ k. is_seen s.ins s.outs stamp k ≡ true) (sym (place_old i (omega (arith, before, e))) ∙ same ∙ place_new j e) (w.seen i (omega (arith, before, e))))
  ];
  seen = λ i here. elim (old_or_new s.trail x i here) [
    | inl old ↦ subst (λ k. is_seen (see_in s.ins stamp p) (see_out s.outs stamp p) stamp k ≡ true) (sym (place_old i old)) (seen_still s.ins s.outs stamp p (place_at s.trail i) lt less (w.seen i old))
    | inr e ↦ subst (λ k. is_seen (see_in s.ins stamp p) (see_out s.outs stamp p) stamp k ≡ true) (sym (place_new i e)) (seen_here s.ins s.outs stamp p lt less)
  ];
  stands = λ q h. elim (seen_before s.ins s.outs stamp p q h) [
    | inl e ↦ (length s.trail, omega (arith, length-append s.trail (x ∷ [])), place_new (length s.trail) refl ∙ sym e)
    | inr t ↦ let at = w.stands q t in (at.0, omega (arith, at.1, length-append s.trail (x ∷ [])), place_old at.0 at.1 ∙ at.2)
  ];
  within = λ i here. elim (old_or_new s.trail x i here) [
    | inl old ↦ subst (λ k. (node_at k < length (see_in s.ins stamp p)) × (node_at k < length (see_out s.outs stamp p))) (sym (place_old i old))
        (omega (arith, (w.within i old).0, ins_long s.ins stamp p), omega (arith, (w.within i old).1, outs_long s.outs stamp p))
    | inr e ↦ subst (λ k. (node_at k < length (see_in s.ins stamp p)) × (node_at k < length (see_out s.outs stamp p))) (sym (place_new i e)) (omega (arith, lt, ins_long s.ins stamp p), omega (arith, less, outs_long s.outs stamp p))
  ];
  waits = λ i h. elim (has_cases s.waiting (length s.trail ∷ []) i h) [
    | inl old ↦ omega (arith, w.waits i old, length-append s.trail (x ∷ []))
    | inr one ↦ omega (arith, has_one (length s.trail) i one, length-append s.trail (x ∷ []))
  ];
  closed = λ i here. elim (old_or_new s.trail x i here) [
    | inl old ↦ elim (w.closed i old) [
      | inl h ↦ inl (has_left s.waiting (length s.trail ∷ []) i h)
      | inr f ↦ inr (λ q h. later q (f q (subst (λ k. has_place (before rows next k) q ≡ true) (place_old i old) h)))
    ]
    | inr e ↦ inl (last_waits i e)
  ];
  begun = λ v h. later (Out v) (w.begun v h);
  inner = λ i v here at source. elim (old_or_new s.trail x i here) [
    | inl old ↦ has_left s.waiting (length s.trail ∷ []) i (w.inner i v old (sym (place_old i old) ∙ at) source)
    | inr e ↦ last_waits i e
  ];
}
  where
    x : Step
    x = record { place = p; from = from }

    place_old : (i : ℕ) → i < length s.trail → place_at (s.trail ++ x ∷ []) i ≡ place_at s.trail i
    place_old i old = ap (λ (st : Step). st.place) (step_old s.trail x i old)

    place_new : (i : ℕ) → i ≡ length s.trail → place_at (s.trail ++ x ∷ []) i ≡ p
    place_new i e = ap (λ k. place_at (s.trail ++ x ∷ []) k) e ∙ ap (λ (st : Step). st.place) (step_new s.trail x)

    last_waits : (i : ℕ) → i ≡ length s.trail → has_node (s.waiting ++ length s.trail ∷ []) i ≡ true
    last_waits i e = has_right s.waiting (length s.trail ∷ []) i (subst (λ k. has_node (length s.trail ∷ []) k ≡ true) (sym e) (has_here (length s.trail) []))

    later : (q : Place) → (is_seen s.ins s.outs stamp q ≡ true) ⊎ (has_place (p ∷ todo) q ≡ true) → (is_seen (see_in s.ins stamp p) (see_out s.outs stamp p) stamp q ≡ true) ⊎ (has_place todo q ≡ true)
    later q (inl h) = inl (seen_still s.ins s.outs stamp p q lt less h)
    later q (inr h) = elim (place_either p q todo h) [
      | inl e ↦ inl (subst (λ k. is_seen (see_in s.ins stamp p) (see_out s.outs stamp p) stamp k ≡ true) (sym e) (seen_here s.ins s.outs stamp p lt less))
      | inr t ↦ inr t
    ]

-- either way
pub enter_one : (rows : List Row) (next : List Next) (IsBelow : ℕ → Type 0) (stamp : ℕ) (s : State) (p : Place) (from : Option ℕ) (todo : List Place) → node_at p < length s.ins → node_at p < length s.outs
    → CameFrom rows next IsBelow s.trail (length s.trail) p from → IsSearching rows next IsBelow stamp s (p ∷ todo) → IsSearching rows next IsBelow stamp (entered stamp s p from) todo
enter_one rows next IsBelow stamp s p from todo lt less came w = go (is_seen s.ins s.outs stamp p) refl
  where
    go : (b : Bool) → is_seen s.ins s.outs stamp p ≡ b → IsSearching rows next IsBelow stamp (state (see_in s.ins stamp p) (see_out s.outs stamp p) (trail_new b s.trail p from) (wait_new b s.waiting (length s.trail))) todo
    go true e = enter_known rows next IsBelow stamp s p todo lt less e w
    go false e = enter_new rows next IsBelow stamp s p from todo lt less came e w

-- what stands in the trail stays

trail_still : (b : Bool) (trail : List Step) (p : Place) (from : Option ℕ) (i : ℕ) → i < length trail → (i < length (trail_new b trail p from)) × (place_at (trail_new b trail p from) i ≡ place_at trail i)
trail_still true trail p from i lt = (lt, refl)
trail_still false trail p from i lt = (omega (arith, lt, length-append trail (record { place = p; from = from } ∷ [])), ap (λ (st : Step). st.place) (step_old trail (record { place = p; from = from }) i lt))

-- all of some places that came from one

pub enter_each : (rows : List Row) (next : List Next) (IsBelow : ℕ → Type 0) (stamp : ℕ) (s : State) (places todo : List Place) (i : ℕ) → i < length s.trail
    → ((p : Place) → has_place places p ≡ true → (node_at p < length s.ins) × (node_at p < length s.outs)) → ((p : Place) → has_place places p ≡ true → has_place (before rows next (place_at s.trail i)) p ≡ true)
    → IsSearching rows next IsBelow stamp s (places ++ todo) → IsSearching rows next IsBelow stamp (enter_all stamp s places (Some i)) todo
enter_each rows next IsBelow stamp s [] todo i lt within before_all w = w
enter_each rows next IsBelow stamp s (p ∷ places) todo i lt within before_all w =
    let bounds = within p (place_head p places) in
    let still = trail_still (is_seen s.ins s.outs stamp p) s.trail p (Some i) i lt in
    enter_each rows next IsBelow stamp (entered stamp s p (Some i)) places todo i still.0
    (λ q h. let b = within q (place_tail p q places h) in (omega (arith, b.0, ins_long s.ins stamp p), omega (arith, b.1, outs_long s.outs stamp p)))
    (λ q h. subst (λ k. has_place (before rows next k) q ≡ true) (sym still.1) (before_all q (place_tail p q places h)))
    (enter_one rows next IsBelow stamp s p (Some i) (places ++ todo) bounds.0 bounds.1 (lt, before_all p (place_head p places)) w)

-- one that waits is taken

pub taken : (rows : List Row) (next : List Next) (IsBelow : ℕ → Type 0) (stamp : ℕ) (ins outs : List ℕ) (trail : List Step) (front : List ℕ) (i : ℕ) (todo : List Place) → is_found rows (place_at trail i) ≡ false
    → IsSearching rows next IsBelow stamp (state ins outs trail (front ++ i ∷ [])) todo → IsSearching rows next IsBelow stamp (state ins outs trail front) (before rows next (place_at trail i) ++ todo)
taken rows next IsBelow stamp ins outs trail front i todo lost w = record {
  came = w.came;
  once = w.once;
  seen = w.seen;
  stands = w.stands;
  within = w.within;
  waits = λ j h. w.waits j (has_left front (i ∷ []) j h);
  closed = λ j lt. elim (w.closed j lt) [
    | inl h ↦ elim (has_cases front (i ∷ []) j h) [
      | inl f ↦ inl f
      | inr one ↦ inr (λ p there. inr (place_left (before rows next (place_at trail i)) todo p (subst (λ k. has_place (before rows next (place_at trail k)) p ≡ true) (sym (has_one i j one)) there)))
    ]
    | inr f ↦ inr (λ p there. later p (f p there))
  ];
  begun = λ v h. later (Out v) (w.begun v h);
  inner = λ j v lt at source. elim (has_cases front (i ∷ []) j (w.inner j v lt at source)) [
    | inl f ↦ f
    | inr one ↦ absurd (both_ways (is_found rows (place_at trail i)) lost (subst (λ k. is_found rows k ≡ true) (sym (ap (place_at trail) (has_one i j one) ∙ at)) source))
  ];
}
  where
    later : (q : Place) → (is_seen ins outs stamp q ≡ true) ⊎ (has_place todo q ≡ true) → (is_seen ins outs stamp q ≡ true) ⊎ (has_place (before rows next (place_at trail i) ++ todo) q ≡ true)
    later q (inl h) = inl h
    later q (inr h) = inr (place_right (before rows next (place_at trail i)) todo q h)

-- the search gets shorter

less_at : (ins : List ℕ) (stamp n : ℕ) → n < length ins → sum_by (unmarked stamp) (set ins n stamp) + (if is_marked ins stamp n then 0 else 1) ≡ sum_by (unmarked stamp) ins
less_at ins stamp n lt = go (nat_eq stamp stamp) (eq-eqb stamp stamp refl) (sum_by-set (unmarked stamp) ins n stamp 0 lt)
  where
    go : (c : Bool) → c ≡ true → sum_by (unmarked stamp) (set ins n stamp) + (if is_marked ins stamp n then 0 else 1) ≡ sum_by (unmarked stamp) ins + (if c then 0 else 1)
        → sum_by (unmarked stamp) (set ins n stamp) + (if is_marked ins stamp n then 0 else 1) ≡ sum_by (unmarked stamp) ins
    go true e sum = omega (arith, sum)
    go false e sum = absurd (both_ways false refl e)

less_both : (ins outs : List ℕ) (stamp : ℕ) (p : Place) → node_at p < length ins → node_at p < length outs
    → (sum_by (unmarked stamp) (see_in ins stamp p) + sum_by (unmarked stamp) (see_out outs stamp p)) + (if is_seen ins outs stamp p then 0 else 1) ≡ sum_by (unmarked stamp) ins + sum_by (unmarked stamp) outs
less_both ins outs stamp (In v) lt less = omega (arith, less_at ins stamp v lt)
less_both ins outs stamp (Out v) lt less = omega (arith, less_at outs stamp v less)

less_one : (stamp : ℕ) (s : State) (p : Place) (from : Option ℕ) → node_at p < length s.ins → node_at p < length s.outs → search_left stamp (entered stamp s p from) ≤ search_left stamp s
less_one stamp s p from lt less = go (is_seen s.ins s.outs stamp p) (less_both s.ins s.outs stamp p lt less)
  where
    go : (b : Bool) → (sum_by (unmarked stamp) (see_in s.ins stamp p) + sum_by (unmarked stamp) (see_out s.outs stamp p)) + (if b then 0 else 1) ≡ sum_by (unmarked stamp) s.ins + sum_by (unmarked stamp) s.outs
        → length (wait_new b s.waiting (length s.trail)) + (sum_by (unmarked stamp) (see_in s.ins stamp p) + sum_by (unmarked stamp) (see_out s.outs stamp p)) ≤ length s.waiting + (sum_by (unmarked stamp) s.ins + sum_by (unmarked stamp) s.outs)
    go true sum = omega (arith, sum)
    go false sum = omega (arith, sum, length-append s.waiting (length s.trail ∷ []))

pub less_each : (stamp : ℕ) (s : State) (places : List Place) (from : Option ℕ) → ((p : Place) → has_place places p ≡ true → (node_at p < length s.ins) × (node_at p < length s.outs))
    → search_left stamp (enter_all stamp s places from) ≤ search_left stamp s
less_each stamp s [] from within = omega arith
less_each stamp s (p ∷ places) from within =
    let bounds = within p (place_head p places) in
    omega (
      arith,
      less_one stamp s p from bounds.0 bounds.1,
      less_each stamp (entered stamp s p from) places from (λ q h. let b = within q (place_tail p q places h) in (omega (arith, b.0, ins_long s.ins stamp p), omega (arith, b.1, outs_long s.outs stamp p))),
    )

-- what comes before a place stands in the rows

outs_within : (nodes : List ℕ) (count : ℕ) → ((m : ℕ) → has_node nodes m ≡ true → m < count) → (p : Place) → has_place (map Out nodes) p ≡ true → node_at p < count
outs_within [] count each p h = absurd (both_ways false refl h)
outs_within (n ∷ nodes) count each p h = elim (place_either (Out n) p (map Out nodes) h) [
  | inl e ↦ subst (λ k. node_at k < count) (sym e) (each n (has_here n nodes))
  | inr t ↦ outs_within nodes count (λ m there. each m (has_there n m nodes there)) p t
]

one_within : (q p : Place) (count : ℕ) → node_at q < count → has_place (q ∷ []) p ≡ true → node_at p < count
one_within q p count lt h = elim (place_either q p [] h) [ inl e ↦ subst (λ k. node_at k < count) (sym e) lt | inr t ↦ absurd (both_ways false refl t) ]

own_within : (w : ℕ) (behind : Next) (count : ℕ) → w < count → (p : Place) → has_place (own_out w behind) p ≡ true → node_at p < count
own_within w Off count lt p h = absurd (both_ways false refl h)
own_within w Last count lt p h = one_within (Out w) p count lt h
own_within w (To v) count lt p h = one_within (Out w) p count lt h

into_within : (w : ℕ) (behind : Next) (count : ℕ) → w < count → ((v : ℕ) → behind ≡ To v → v < count) → (p : Place) → has_place (into_out w behind) p ≡ true → node_at p < count
into_within w Off count lt to p h = one_within (In w) p count lt h
into_within w Last count lt to p h = absurd (both_ways false refl h)
into_within w (To v) count lt to p h = one_within (In v) p count (to v refl) h

pub before_within : (rows : List Row) (next : List Next) (count : ℕ) (place : Place) → InOrder rows → NextWithin next count → node_at place < count → (p : Place) → has_place (before rows next place) p ≡ true → node_at p < count
before_within rows next count (In w) order to lt p h = elim (place_cases (own_out w (next_at next w)) (map Out (refs_at rows w)) p h) [
  | inl own ↦ own_within w (next_at next w) count lt p own
  | inr ref ↦ outs_within (refs_at rows w) count (λ m r. omega (arith, lt, refers_below rows w m order r)) p ref
]
before_within rows next count (Out w) order to lt p h = into_within w (next_at next w) count lt (to w) p h

-- the places before a place are the same ones in whichever order

two_swapped : (x y p : Place) → has_place (x ∷ y ∷ []) p ≡ true → has_place (y ∷ x ∷ []) p ≡ true
two_swapped x y p h = elim (or_cases (same_place x p) (has_place (y ∷ []) p) h) [
  | inl e ↦ place_tail y p (x ∷ []) (or_left (same_place x p) false e)
  | inr t ↦ place_left (y ∷ []) (x ∷ []) p t
]

nearer_has : (near nodes : List ℕ) (p : Place) → has_place (map Out (nearer_last near nodes)) p ≡ true → has_place (map Out nodes) p ≡ true
nearer_has near [] p h = h
nearer_has near (a ∷ []) p h = h
nearer_has near (a ∷ b ∷ []) p h = go (nat_lt (label_in near b) (label_in near a)) h
  where
    go : (c : Bool) → has_place (map Out (if c then a ∷ b ∷ [] else b ∷ a ∷ [])) p ≡ true → has_place (Out a ∷ Out b ∷ []) p ≡ true
    go true there = there
    go false there = two_swapped (Out b) (Out a) p there
nearer_has near (a ∷ b ∷ c ∷ nodes) p h = h

has_nearer : (near nodes : List ℕ) (p : Place) → has_place (map Out nodes) p ≡ true → has_place (map Out (nearer_last near nodes)) p ≡ true
has_nearer near [] p h = h
has_nearer near (a ∷ []) p h = h
has_nearer near (a ∷ b ∷ []) p h = go (nat_lt (label_in near b) (label_in near a))
  where
    go : (c : Bool) → has_place (map Out (if c then a ∷ b ∷ [] else b ∷ a ∷ [])) p ≡ true
    go true = h
    go false = two_swapped (Out a) (Out b) p h
has_nearer near (a ∷ b ∷ c ∷ nodes) p h = h

by_before : (near : List ℕ) (rows : List Row) (next : List Next) (place p : Place) → has_place (before_by near rows next place) p ≡ true → has_place (before rows next place) p ≡ true
by_before near rows next (In w) p h = elim (place_cases (own_out w (next_at next w)) (map Out (nearer_last near (refs_at rows w))) p h) [
  | inl own ↦ place_left (own_out w (next_at next w)) (map Out (refs_at rows w)) p own
  | inr ref ↦ place_right (own_out w (next_at next w)) (map Out (refs_at rows w)) p (nearer_has near (refs_at rows w) p ref)
]
by_before near rows next (Out w) p h = h

before_too : (near : List ℕ) (rows : List Row) (next : List Next) (place p : Place) → has_place (before rows next place) p ≡ true → has_place (before_by near rows next place) p ≡ true
before_too near rows next (In w) p h = elim (place_cases (own_out w (next_at next w)) (map Out (refs_at rows w)) p h) [
  | inl own ↦ place_left (own_out w (next_at next w)) (map Out (nearer_last near (refs_at rows w))) p own
  | inr ref ↦ place_right (own_out w (next_at next w)) (map Out (nearer_last near (refs_at rows w))) p (has_nearer near (refs_at rows w) p ref)
]
before_too near rows next (Out w) p h = h

-- what is to be marked may be more
todo_more : (rows : List Row) (next : List Next) (IsBelow : ℕ → Type 0) (stamp : ℕ) (s : State) (todo wanted : List Place) → ((p : Place) → has_place todo p ≡ true → has_place wanted p ≡ true)
    → IsSearching rows next IsBelow stamp s todo → IsSearching rows next IsBelow stamp s wanted
todo_more rows next IsBelow stamp s todo wanted more w = record {
  came = w.came;
  once = w.once;
  seen = w.seen;
  stands = w.stands;
  within = w.within;
  waits = w.waits;
  closed = λ i lt. elim (w.closed i lt) [ inl h ↦ inl h | inr f ↦ inr (λ p there. later p (f p there)) ];
  begun = λ v h. later (Out v) (w.begun v h);
  inner = w.inner;
}
  where
    later : (q : Place) → (is_seen s.ins s.outs stamp q ≡ true) ⊎ (has_place todo q ≡ true) → (is_seen s.ins s.outs stamp q ≡ true) ⊎ (has_place wanted q ≡ true)
    later q (inl h) = inl h
    later q (inr h) = inr (more q h)

-- one turn of the search

pub turn : (near : List ℕ) (rows : List Row) (next : List Next) (IsBelow : ℕ → Type 0) (stamp : ℕ) (ins outs : List ℕ) (trail : List Step) (front : List ℕ) (i : ℕ) (todo : List Place) → InOrder rows → NextWithin next (length ins)
    → length outs ≡ length ins → is_found rows (place_at trail i) ≡ false → IsSearching rows next IsBelow stamp (state ins outs trail (front ++ i ∷ [])) todo
    → IsSearching rows next IsBelow stamp (enter_all stamp (state ins outs trail front) (before_by near rows next (place_at trail i)) (Some i)) todo
    × (search_left stamp (enter_all stamp (state ins outs trail front) (before_by near rows next (place_at trail i)) (Some i)) < search_left stamp (state ins outs trail (front ++ i ∷ [])))
turn near rows next IsBelow stamp ins outs trail front i todo order to long lost w =
    let here = w.waits i (has_right front (i ∷ []) i (has_here i [])) in
    let place = w.within i here in
    let each = λ (p : Place) (h : has_place (before_by near rows next (place_at trail i)) p ≡ true).
    let lt = before_within rows next (length ins) (place_at trail i) order to place.0 p (by_before near rows next (place_at trail i) p h) in both p lt in
    let begun = todo_more rows next IsBelow stamp (state ins outs trail front) (before rows next (place_at trail i) ++ todo) (before_by near rows next (place_at trail i) ++ todo) more
    (taken rows next IsBelow stamp ins outs trail front i todo lost w) in (
      enter_each rows next IsBelow stamp (state ins outs trail front) (before_by near rows next (place_at trail i)) todo i here each (λ p h. by_before near rows next (place_at trail i) p h) begun,
      omega (arith, less_each stamp (state ins outs trail front) (before_by near rows next (place_at trail i)) (Some i) each, length-append front (i ∷ [])),
    )
  where
    both : (p : Place) → node_at p < length ins → (node_at p < length ins) × (node_at p < length outs)
    both p lt = (lt, omega (arith, lt, long))

    more : (p : Place) → has_place (before rows next (place_at trail i) ++ todo) p ≡ true → has_place (before_by near rows next (place_at trail i) ++ todo) p ≡ true
    more p h = elim (place_cases (before rows next (place_at trail i)) todo p h) [
      | inl b ↦ place_left (before_by near rows next (place_at trail i)) todo p (before_too near rows next (place_at trail i) p b)
      | inr t ↦ place_right (before_by near rows next (place_at trail i)) todo p t
    ]

pub waits_there : (rows : List Row) (next : List Next) (IsBelow : ℕ → Type 0) (stamp : ℕ) (ins outs : List ℕ) (trail : List Step) (front : List ℕ) (i : ℕ) (todo : List Place)
    → IsSearching rows next IsBelow stamp (state ins outs trail (front ++ i ∷ [])) todo → (i < length trail) × (node_at (place_at trail i) < length ins)
waits_there rows next IsBelow stamp ins outs trail front i todo w = let here = w.waits i (has_right front (i ∷ []) i (has_here i [])) in (here, (w.within i here).0)

pub trail_of : (rows : List Row) (next : List Next) (IsBelow : ℕ → Type 0) (stamp : ℕ) (s : State) (todo : List Place) → IsSearching rows next IsBelow stamp s todo → IsTrail rows next IsBelow s.trail
trail_of rows next IsBelow stamp s todo w = record { came = w.came; once = w.once }

-- the search begins

pub out_here : (nodes : List ℕ) (v : ℕ) → has_node nodes v ≡ true → has_place (map Out nodes) (Out v) ≡ true
out_here [] v h = absurd (both_ways false refl h)
out_here (n ∷ nodes) v h = elim (here_or_there n v nodes h) [
  | inl e ↦ subst (λ k. has_place (Out n ∷ map Out nodes) (Out k) ≡ true) (sym e) (place_head (Out n) (map Out nodes))
  | inr t ↦ place_tail (Out n) (Out v) (map Out nodes) (out_here nodes v t)
]

none_seen : (ins outs : List ℕ) (stamp : ℕ) (p : Place) → NoneMarked ins stamp → NoneMarked outs stamp → is_seen ins outs stamp p ≡ true → ⊥
none_seen ins outs stamp (In v) free clear h = both_ways (is_marked ins stamp v) (free v) h
none_seen ins outs stamp (Out v) free clear h = both_ways (is_marked outs stamp v) (clear v) h

pub search_begins : (rows : List Row) (next : List Next) (starts : List ℕ) (ins outs : List ℕ) (stamp : ℕ) → NoneMarked ins stamp → NoneMarked outs stamp
    → IsSearching rows next (IsStart starts) stamp (state ins outs [] []) (map Out starts)
search_begins rows next starts ins outs stamp free clear = record {
  came = λ i lt. absurd (omega (arith, lt));
  once = λ i j before lt. absurd (omega (arith, lt));
  seen = λ i lt. absurd (omega (arith, lt));
  stands = λ p h. absurd (none_seen ins outs stamp p free clear h);
  within = λ i lt. absurd (omega (arith, lt));
  waits = λ i h. absurd (both_ways false refl h);
  closed = λ i lt. absurd (omega (arith, lt));
  begun = λ v h. inr (out_here starts v h);
  inner = λ i v lt at source. absurd (omega (arith, lt));
}

all_at : (count : ℕ) (xs : List ℕ) (i : ℕ) → all_within count xs ≡ true → i < length xs → get_or xs i 0 < count
all_at count [] i h lt = absurd (omega (arith, lt))
all_at count (x ∷ xs) zero h lt = ltb-true x count (and_parts (nat_lt x count) (all_within count xs) h).0
all_at count (x ∷ xs) (suc i) h lt = all_at count xs i (and_parts (nat_lt x count) (all_within count xs) h).1 (omega (arith, lt))

-- one more start
pub start_more : (rows : List Row) (next : List Next) (starts : List ℕ) (stamp : ℕ) (ins outs : List ℕ) (trail : List Step) (at : ℕ) → at < length starts → all_within (length ins) starts ≡ true → length outs ≡ length ins
    → IsSearching rows next (IsStart starts) stamp (state ins outs trail []) (map Out (drop at starts))
    → IsSearching rows next (IsStart starts) stamp (entered stamp (state ins outs trail []) (Out (get_or starts at 0)) None) (map Out (drop (at + 1) starts))
start_more rows next starts stamp ins outs trail at lt within long w =
    let less = all_at (length ins) starts at within lt in
    enter_one rows next (IsStart starts) stamp (state ins outs trail []) (Out (get_or starts at 0)) None (map Out (drop (at + 1) starts)) less (omega (arith, less, long)) (has_at starts at (get_or starts at 0) lt refl)
    (subst (λ l. IsSearching rows next (IsStart starts) stamp (state ins outs trail []) (map Out l)) (drop_more starts at 0 lt) w)
