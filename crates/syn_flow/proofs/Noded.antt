-- What is chosen for a node is right for all labels that go on from it.
use Rattle.std.proofs.Common.{◌≡◌, ℕ, zero, suc, ◌+◌, ◌⊎◌, ◌<◌, ◌≤◌, nat_lt, true, false, List, [], ◌∷◌, ◌++◌, length, length-append, refl, sym, ap, ◌∙◌, subst, inl, inr, arith}
use Rattle.std.specs.List.{list_all}
use Rattle.std.proofs.lemmas.Bool.{and_from, and_parts, both_ways, cases_lt, false_from_ne_true, lt-ltb}
use Rattle.std.proofs.lemmas.List.{get_or_append_left, get_or_at, get_or_past}
use Rattle.syn_rows.specs.declared.Lit.{Lit}
use Rattle.syn_rows.specs.declared.Row.{Row}
use Rattle.syn_rows.specs.declared.Row.TheVariants.{Free, Source, And, Alias}
use Rattle.syn_rows.specs.Nodes.{has_node}
use Rattle.syn_rows.specs.Rows.{InOrder, node_of, refs_of, row_at}
use Rattle.syn_rows.specs.Reach.{is_and}
use Rattle.syn_hashed.specs.Hashed.{is_gate, IsHashed}
use Rattle.syn_cones.specs.Cones.{Refers}
use Rattle.syn_cones.specs.Leaves.{are_below, rise_above}
use Rattle.syn_cones.specs.Walk.{rises}
use Rattle.syn_covering.specs.Cuts.{IsLutCut}
use Rattle.syn_paths.specs.Tops.{fan_in_label, FallsBelow, IsInTop, IsLowFor, label_in}
use Rattle.syn_paths.specs.Paths.{ArePathsInto}
use Rattle.syn_paths.specs.LeastCuts.{IsLeastCut}
use Rattle.syn_paths.specs.Outcomes.{IsOwnCut}
use Rattle.syn_flow.specs.Witness.{IsLabelOver, IsShownAt, Shown}
use Rattle.syn_flow.specs.Labels.{IsFlowLabel}
use Rattle.syn_flow.specs.Labelling.{AreLabelled, cut_at, IsChoice, IsNode}
use Rattle.syn_rows.proofs.Nodes.{has_here, has_there}
use Rattle.syn_hashed.proofs.Orders.{hashed_in_order}
use Rattle.syn_hashed.proofs.Dropped.{gate_parts, IsGate}
use Rattle.syn_cones.proofs.Swapping.{fan_ins_are_cut}
use Rattle.syn_cones.proofs.Walking.{refers_row}
use Rattle.syn_paths.proofs.Falling.{greatest_over, refers_below}
use Rattle.syn_paths.proofs.Sounded.{outside_many}
use Rattle.syn_paths.proofs.Least.{above_all}
use Rattle.syn_paths.proofs.Owned.{hashed_gate, two_leaves}
use Rattle.syn_flow.proofs.Agreeing.{agree_back, AgreeBelow, same_fan_in, same_least, same_outside, same_paths}

-- the two fan-ins are a cut that a LUT may read

fan_ins_rise : (n : ℕ) (a b : Lit) → IsGate n a b → node_of a < node_of b
fan_ins_rise n a b g = omega (arith, g.rising, g.apart)

pub fan_ins_lut : (k count : ℕ) (rows : List Row) (n : ℕ) → IsHashed count rows → 2 ≤ k → is_and (row_at rows n) ≡ true → IsLutCut k rows n (refs_of (row_at rows n))
fan_ins_lut k count rows n hashed many gate = go (row_at rows n) refl (hashed_gate count rows hashed n gate)
  where
    go : (row : Row) → row_at rows n ≡ row → is_gate n row ≡ true → IsLutCut k rows n (refs_of row)
    go Free e g = absurd (both_ways false refl g)
    go Source e g = absurd (both_ways false refl g)
    go (And a b) e g =
        let parts = gate_parts n a b g in
        record {
          cut = fan_ins_are_cut rows n a b e;
          rising = and_from (nat_lt 0 (node_of a)) (rise_above (node_of a) (node_of b ∷ [])) (lt-ltb 0 (node_of a) (omega (arith, parts.above)))
              (and_from (nat_lt (node_of a) (node_of b)) true (lt-ltb (node_of a) (node_of b) (fan_ins_rise n a b parts)) refl);
          below = and_from (nat_lt (node_of a) n) (are_below n (node_of b ∷ [])) (lt-ltb (node_of a) n (omega (arith, parts.rising, parts.below))) (and_from (nat_lt (node_of b) n) true (lt-ltb (node_of b) n parts.below) refl);
          two = omega arith;
          few = omega (arith, many);
        }
    go (Alias a) e g = absurd (both_ways false refl g)

-- and so is the least cut

rise_of : (low : ℕ) (ns : List ℕ) → rises ns ≡ true → ((v : ℕ) → has_node ns v ≡ true → low < v) → rise_above low ns ≡ true
rise_of low [] h each = refl
rise_of low (n ∷ ns) h each =
    let parts = and_parts (list_all (nat_lt n) ns) (rises ns) h in
    and_from (nat_lt low n) (rise_above n ns) (lt-ltb low n (each n (has_here n ns))) (rise_of n ns parts.1 (λ v there. above_all n v ns parts.0 there))

all_below : (high : ℕ) (ns : List ℕ) → ((v : ℕ) → has_node ns v ≡ true → v < high) → are_below high ns ≡ true
all_below high [] each = refl
all_below high (n ∷ ns) each = and_from (nat_lt n high) (are_below high ns) (lt-ltb n high (each n (has_here n ns))) (all_below high ns (λ v there. each v (has_there n v ns there)))

pub own_lut : (k count : ℕ) (rows : List Row) (labels : List ℕ) (n level : ℕ) (leaves : List ℕ) → IsHashed count rows → is_and (row_at rows n) ≡ true → IsOwnCut rows labels n level k leaves → IsLutCut k rows n leaves
own_lut k count rows labels n level leaves hashed gate own = record {
  cut = own.least.outside.cut;
  rising = rise_of 0 leaves own.least.rise (λ v there. (own.within v there).0);
  below = all_below n leaves (λ v there. (own.within v there).1);
  two = two_leaves count rows hashed n gate leaves own.least.outside.cut (false_from_ne_true (has_node leaves n) (λ there. own.least.outside.outside n there (inl refl)));
  few = own.few;
}

-- what is chosen is right

module _ (k count : ℕ) (rows : List Row) (labels : List ℕ) (n label : ℕ) (cut : List ℕ) (lists : List (List ℕ)) (shown : List Shown) (g : ℕ → ℕ) (hashed : IsHashed count rows) (many : 2 ≤ k) (gate : is_and (row_at rows n) ≡ true) (falls : FallsBelow rows (label_in labels) n) (same : AgreeBelow n (label_in labels) g) (at : g n ≡ label) where
  order : InOrder rows
  order = hashed_in_order count rows hashed

  fan_in : fan_in_label rows (label_in labels) n ≡ fan_in_label rows g n
  fan_in = same_fan_in rows n (label_in labels) g order gate same

  refs_low : (p : ℕ) → fan_in_label rows g n ≡ p → (v : ℕ) → has_node (refs_of (row_at rows n)) v ≡ true → g v ≤ p
  refs_low p is v h = omega (arith, is, greatest_over g (refs_of (row_at rows n)) v h)

  low_for : (p : ℕ) → fan_in_label rows (label_in labels) n ≡ p → IsLowFor rows (label_in labels) n p
  low_for p is m r = omega (arith, is, greatest_over (label_in labels) (refs_of (row_at rows n)) m (refers_row rows n m r))

  first : fan_in_label rows g n ≡ 0 → label ≡ 1 → cut ≡ refs_of (row_at rows n) → IsNode k rows g shown n cut
  first is one refs = record {
    flow = subst (IsFlowLabel k rows g n) (sym is) (at ∙ one);
    over = subst (IsLabelOver k rows g shown n) (sym is) (at ∙ one);
    chosen = record { kept = λ e. absurd (omega (arith, e, is, at, one)); rose = λ ne. refs };
    lut = subst (IsLutCut k rows n) (sym refs) (fan_ins_lut k count rows n hashed many gate);
    less = λ v h. omega (arith, at, one, refs_low 0 is v (subst (λ (l : List ℕ). has_node l v ≡ true) refs h));
  }

  kept_one : (p : ℕ) → fan_in_label rows g n ≡ suc p → label ≡ suc p → IsOwnCut rows labels n (suc p) k cut → IsNode k rows g shown n cut
  kept_one p is e own = record {
    flow = subst (IsFlowLabel k rows g n) (sym is) (inl (at ∙ e, (cut, same_outside rows n (suc p) (label_in labels) g order same cut own.least.outside, own.few)));
    over = subst (IsLabelOver k rows g shown n) (sym is) (inl (at ∙ e));
    chosen = record {
      kept = λ stays. subst (λ l. IsLeastCut rows g n l cut) (sym (at ∙ e)) (same_least rows n (suc p) (label_in labels) g order same cut own.least);
      rose = λ ne. absurd (ne (at ∙ e ∙ sym is));
    };
    lut = own_lut k count rows labels n (suc p) cut hashed gate own;
    less = λ v h. let w = own.within v h in let here = same v w.1 in omega (arith, here, w.2, at, e);
  }

  rose_one : (p : ℕ) → fan_in_label rows g n ≡ suc p → label ≡ suc (suc p) → cut ≡ refs_of (row_at rows n) → ArePathsInto rows (IsInTop rows (label_in labels) n (suc p)) (k + 1) lists → (i : ℕ) → IsShownAt shown n lists i → IsNode k rows g shown n cut
  rose_one p is e refs paths i there = record {
    flow = subst (IsFlowLabel k rows g n) (sym is) (inr (
      at ∙ e,
      λ leaves c.
          let many_here = outside_many rows (label_in labels) n (suc p) (k + 1) lists order falls (low_for (suc p) (fan_in ∙ is)) paths leaves (same_outside rows n (suc p) g (label_in labels) order (agree_back n (label_in labels) g same) leaves c) in
          omega (arith, many_here),
    ));
    over = subst (IsLabelOver k rows g shown n) (sym is) (inr (at ∙ e, (lists, i, there, subst (λ c. ArePathsInto rows (IsInTop rows g n (suc p)) c lists) more (same_paths rows n (suc p) (k + 1) (label_in labels) g order same lists paths))));
    chosen = record { kept = λ stays. absurd (omega (arith, stays, is, at, e)); rose = λ ne. refs };
    lut = subst (IsLutCut k rows n) (sym refs) (fan_ins_lut k count rows n hashed many gate);
    less = λ v h. omega (arith, at, e, refs_low (suc p) is v (subst (λ (l : List ℕ). has_node l v ≡ true) refs h));
  }
    where
      more : k + 1 ≡ suc k
      more = omega arith

  pub node_right : (p : ℕ) → fan_in_label rows (label_in labels) n ≡ p → IsChoice k rows labels n label cut lists p → (0 < p → label ≡ suc p → (i : ℕ) × IsShownAt shown n lists i) → IsNode k rows g shown n cut
  node_right zero is choice there = first (sym fan_in ∙ is) choice.0 choice.1
  node_right (suc p) is (inl (e, own)) there = kept_one p (sym fan_in ∙ is) e own
  node_right (suc p) is (inr (e, refs, paths)) there = let at_i = there (omega arith) e in rose_one p (sym fan_in ∙ is) e refs paths at_i.0 at_i.1

-- more may be shown

shown_still : (shown : List Shown) (x : Shown) (n : ℕ) (lists : List (List ℕ)) (i : ℕ) → IsShownAt shown n lists i → IsShownAt (shown ++ x ∷ []) n lists i
shown_still shown x n lists i (lt, at) = (omega (arith, lt, length-append shown (x ∷ [])), get_or_append_left shown (x ∷ []) (record { node = 0; lists = [] }) i lt ∙ at)

pub shown_last : (shown : List Shown) (n : ℕ) (lists : List (List ℕ)) → IsShownAt (shown ++ record { node = n; lists = lists } ∷ []) n lists (length shown)
shown_last shown n lists = (omega (arith, length-append shown (record { node = n; lists = lists } ∷ [])), get_or_at shown (record { node = n; lists = lists }) [] (record { node = 0; lists = [] }) (length shown) refl)

over_still : (k : ℕ) (rows : List Row) (g : ℕ → ℕ) (shown : List Shown) (x : Shown) (n p : ℕ) → IsLabelOver k rows g shown n p → IsLabelOver k rows g (shown ++ x ∷ []) n p
over_still k rows g shown x n zero h = h
over_still k rows g shown x n (suc p) (inl e) = inl e
over_still k rows g shown x n (suc p) (inr (e, (lists, i, there, paths))) = inr (e, (lists, i, shown_still shown x n lists i there, paths))

pub node_still : (k : ℕ) (rows : List Row) (g : ℕ → ℕ) (shown : List Shown) (x : Shown) (n : ℕ) (cut : List ℕ) → IsNode k rows g shown n cut → IsNode k rows g (shown ++ x ∷ []) n cut
node_still k rows g shown x n cut h = record { flow = h.flow; over = over_still k rows g shown x n (fan_in_label rows g n) h.over; chosen = h.chosen; lut = h.lut; less = h.less }

-- one node more

module _ (k : ℕ) (rows : List Row) (n : ℕ) (labels : List ℕ) (cuts : List (List ℕ)) (shown more : List Shown) (label : ℕ) (cut : List ℕ) (order : InOrder rows) (a : AreLabelled k rows n labels cuts shown) where
  old : (m : ℕ) → m < n → label_in (labels ++ label ∷ []) m ≡ label_in labels m
  old m lt = get_or_append_left labels (label ∷ []) 0 m (omega (arith, lt, a.count))

  new : label_in (labels ++ label ∷ []) n ≡ label
  new = get_or_at labels label [] 0 n a.count

  past : (m : ℕ) → n < m → label_in (labels ++ label ∷ []) m ≡ 0
  past m lt = get_or_past (labels ++ label ∷ []) m 0 (omega (arith, lt, a.count, length-append labels (label ∷ [])))

  old_cut : (m : ℕ) → m < n → cut_at (cuts ++ cut ∷ []) m ≡ cut_at cuts m
  old_cut m lt = get_or_append_left cuts (cut ∷ []) [] m (omega (arith, lt, a.cuts_count))

  new_cut : cut_at (cuts ++ cut ∷ []) n ≡ cut
  new_cut = get_or_at cuts cut [] [] n a.cuts_count

  before : (m : ℕ) → m < suc n → (m < n) ⊎ (m ≡ n)
  before m lt = elim (cases_lt m n) [ inl less ↦ inl less | inr ge ↦ inr (omega (arith, lt, ge)) ]

  pub labelled_more : ((m : ℕ) (c : List ℕ) (g : ℕ → ℕ) → IsNode k rows g shown m c → IsNode k rows g more m c) → label ≤ n → ((y : ℕ) → Refers rows n y → label_in labels y ≤ label) → (is_and (row_at rows n) ≡ false → label ≡ 0)
      → (is_and (row_at rows n) ≡ true → (g : ℕ → ℕ) → AgreeBelow n (label_in labels) g → g n ≡ label → IsNode k rows g more n cut) → AreLabelled k rows (suc n) (labels ++ label ∷ []) (cuts ++ cut ∷ []) more
  labelled_more still small falls other node = record {
    count = omega (arith, a.count, length-append labels (label ∷ []));
    cuts_count = omega (arith, a.cuts_count, length-append cuts (cut ∷ []));
    falls = λ x y lt r. elim (before x lt) [
      | inl less ↦
          let under = refers_below rows x y order r in
          omega (arith, old x less, old y (omega (arith, under, less)), a.falls x y less r)
      | inr e ↦
          let here : Refers rows n y = subst (λ k. Refers rows k y) e r in
          let at : label_in (labels ++ label ∷ []) x ≡ label = ap (label_in (labels ++ label ∷ [])) e ∙ new in
          omega (arith, at, old y (refers_below rows n y order here), falls y here)
    ];
    others = λ m no. elim (cases_lt m n) [
      | inl less ↦ old m less ∙ a.others m no
      | inr ge ↦ elim (cases_lt n m) [
        | inl beyond ↦ past m beyond
        | inr le ↦
            let e : m ≡ n = omega (arith, ge, le) in
            ap (label_in (labels ++ label ∷ [])) e ∙ new ∙ other (subst (λ k. is_and (row_at rows k) ≡ false) e no)
      ]
    ];
    low = λ m. elim (cases_lt m n) [
      | inl less ↦ omega (arith, old m less, a.low m)
      | inr ge ↦ elim (cases_lt n m) [
        | inl beyond ↦ omega (arith, past m beyond)
        | inr le ↦
            let e : m ≡ n = omega (arith, ge, le) in
            let at : label_in (labels ++ label ∷ []) m ≡ label = ap (label_in (labels ++ label ∷ [])) e ∙ new in
            omega (arith, at, small, e)
      ]
    ];
    nodes = λ m lt gate g agree. elim (before m lt) [
      | inl less ↦ subst (IsNode k rows g more m) (sym (old_cut m less)) (still m (cut_at cuts m) g (a.nodes m less gate g (λ j le. sym (old j (omega (arith, le, less))) ∙ agree j le)))
      | inr e ↦ subst (λ j. IsNode k rows g more j (cut_at (cuts ++ cut ∷ []) j)) (sym e) (subst (IsNode k rows g more n) (sym new_cut)
          (node (subst (λ j. is_and (row_at rows j) ≡ true) e gate) g (λ j below. sym (old j below) ∙ agree j (omega (arith, below, e))) (sym (agree n (omega (arith, e))) ∙ new)))
    ];
  }
