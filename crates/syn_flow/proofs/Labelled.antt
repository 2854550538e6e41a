-- The labelling goes on node by node, and is the labelling by flow at the end.
use Rattle.std.proofs.Common.{◌≡◌, ℕ, zero, suc, ◌+◌, ◌<◌, ◌≤◌, true, false, List, [], ◌∷◌, ◌++◌, length, map, refl, sym, ap, ◌∙◌, subst, inl, inr, arith}
use Rattle.std.proofs.lemmas.Bool.{both_ways}
use Rattle.std.proofs.lemmas.List.{map-append}
use Rattle.arrayvec.specs.ArrayVec.{ArrayVec}
use Rattle.syn_rows.specs.declared.Lit.{Lit}
use Rattle.syn_rows.specs.declared.Row.{Row}
use Rattle.syn_rows.specs.declared.Row.TheVariants.{Free, Source, And, Alias}
use Rattle.syn_rows.specs.Nodes.{has_node}
use Rattle.syn_rows.specs.Rows.{InOrder, node_of, refs_of, row_at}
use Rattle.syn_rows.specs.Reach.{is_and}
use Rattle.syn_hashed.specs.Hashed.{IsHashed}
use Rattle.syn_lutnet.specs.LutData.{greatest}
use Rattle.syn_covering.specs.Cuts.{AreDepths, AreLutCuts}
use Rattle.syn_paths.specs.Tops.{fan_in_label, IsInTop, IsLowFor, label_in}
use Rattle.syn_paths.specs.Paths.{ArePathsInto}
use Rattle.syn_paths.specs.Outcomes.{IsOwnCut}
use Rattle.syn_flow.specs.Witness.{AreBorneOut, IsShownAt, Shown}
use Rattle.syn_flow.specs.Labels.{AreFlowLabels, IsChosenCut}
use Rattle.syn_flow.specs.Labelling.{AreLabelled, cut_at, IsChoice, IsLabelling, IsNode, leaves_of}
use Rattle.syn_flow.specs.declared.labels.Labelling.{Labelling}
use Rattle.syn_flow.specs.declared.witness.Paths.{Paths}
use Rattle.syn_flow.specs.Flows.{shown_of}
use Rattle.syn_rows.proofs.Nodes.{has_here, has_there}
use Rattle.syn_hashed.proofs.Orders.{hashed_in_order}
use Rattle.syn_cones.proofs.Walking.{refers_row}
use Rattle.syn_paths.proofs.Falling.{and_refs, greatest_over, refers_below}
use Rattle.syn_paths.proofs.Owned.{and_there, only_ands}
use Rattle.syn_flow.proofs.Bounding.{bound_cuts}
use Rattle.syn_flow.proofs.Noded.{labelled_more, node_right, node_still, shown_last}

-- the greatest of some is less where each is
pub greatest_less : (f : ℕ → ℕ) (xs : List ℕ) (high : ℕ) → 0 < length xs → ((v : ℕ) → has_node xs v ≡ true → f v < high) → greatest f xs < high
greatest_less f [] high some each = absurd (omega (arith, some))
greatest_less f (x ∷ []) high some each = omega (arith, each x (has_here x []))
greatest_less f (x ∷ y ∷ ys) high some each =
    omega (arith, each x (has_here x (y ∷ ys)), greatest_less f (y ∷ ys) high (omega arith) (λ v h. each v (has_there x v (y ∷ ys) h)))

and_some : (row : Row) → is_and row ≡ true → 0 < length (refs_of row)
and_some Free h = absurd (both_ways false refl h)
and_some Source h = absurd (both_ways false refl h)
and_some (And a b) h = omega arith
and_some (Alias a) h = absurd (both_ways false refl h)

-- the greatest label of a fan-in is below the node
pub level_low : (k : ℕ) (rows : List Row) (n : ℕ) (labels : List ℕ) (cuts : List (List ℕ)) (shown : List Shown) → InOrder rows → is_and (row_at rows n) ≡ true → AreLabelled k rows n labels cuts shown → fan_in_label rows (label_in labels) n < n
level_low k rows n labels cuts shown order gate a =
    greatest_less (label_in labels) (refs_of (row_at rows n)) n (and_some (row_at rows n) gate) (λ v h. omega (arith, a.low v, refers_below rows n v order (and_refs rows n v order gate h)))

choice_high : (k : ℕ) (rows : List Row) (labels : List ℕ) (n label : ℕ) (cut : List ℕ) (lists : List (List ℕ)) (p : ℕ) → IsChoice k rows labels n label cut lists p → (p ≤ label) × (label ≤ suc p)
choice_high k rows labels n label cut lists zero c = (omega arith, omega (arith, c.0))
choice_high k rows labels n label cut lists (suc p) (inl c) = (omega (arith, c.0), omega (arith, c.0))
choice_high k rows labels n label cut lists (suc p) (inr c) = (omega (arith, c.0), omega (arith, c.0))

-- an AND more
pub label_more : (k count : ℕ) (rows : List Row) (n : ℕ) (labels : List ℕ) (cuts : List (List ℕ)) (shown more : List Shown) (label : ℕ) (cut : List ℕ) (lists : List (List ℕ)) (p : ℕ) → IsHashed count rows → 2 ≤ k → is_and (row_at rows n) ≡ true
    → AreLabelled k rows n labels cuts shown → fan_in_label rows (label_in labels) n ≡ p → IsChoice k rows labels n label cut lists p → (0 < p → label ≡ suc p → (i : ℕ) × IsShownAt more n lists i)
    → ((m : ℕ) (c : List ℕ) (g : ℕ → ℕ) → IsNode k rows g shown m c → IsNode k rows g more m c) → AreLabelled k rows (suc n) (labels ++ label ∷ []) (cuts ++ cut ∷ []) more
label_more k count rows n labels cuts shown more label cut lists p hashed many gate a is choice there still =
    let order = hashed_in_order count rows hashed in
    let high = choice_high k rows labels n label cut lists p choice in
    labelled_more k rows n labels cuts shown more label cut order a still (omega (arith, high.1, is, level_low k rows n labels cuts shown order gate a))
    (λ y r. omega (arith, greatest_over (label_in labels) (refs_of (row_at rows n)) y (refers_row rows n y r), is, high.0)) (λ no. absurd (both_ways (is_and (row_at rows n)) no gate))
    (λ and g same at. node_right k count rows labels n label cut lists more g hashed many gate a.falls same at p is choice there)

kept_choice : (k : ℕ) (rows : List Row) (labels : List ℕ) (n : ℕ) (cut : List ℕ) (level : ℕ) → 0 < level → IsOwnCut rows labels n level k cut → IsChoice k rows labels n level cut [] level
kept_choice k rows labels n cut zero some own = absurd (omega (arith, some))
kept_choice k rows labels n cut (suc p) some own = inl (refl, own)

rose_choice : (k : ℕ) (rows : List Row) (labels : List ℕ) (n : ℕ) (cut : List ℕ) (lists : List (List ℕ)) (level : ℕ) → 0 < level → cut ≡ refs_of (row_at rows n) → ArePathsInto rows (IsInTop rows (label_in labels) n level) (k + 1) lists
    → IsChoice k rows labels n (level + 1) cut lists level
rose_choice k rows labels n cut lists zero some refs paths = absurd (omega (arith, some))
rose_choice k rows labels n cut lists (suc p) some refs paths = inr (omega arith, refs, paths)

-- over sources alone, with the least cut, or with paths

pub label_first : (k count : ℕ) (rows : List Row) (n : ℕ) (labels : List ℕ) (cuts : List (List ℕ)) (shown : List Shown) (cut : List ℕ) → IsHashed count rows → 2 ≤ k → is_and (row_at rows n) ≡ true → AreLabelled k rows n labels cuts shown
    → fan_in_label rows (label_in labels) n ≡ 0 → cut ≡ refs_of (row_at rows n) → AreLabelled k rows (suc n) (labels ++ 1 ∷ []) (cuts ++ cut ∷ []) shown
label_first k count rows n labels cuts shown cut hashed many gate a is refs =
    label_more k count rows n labels cuts shown shown 1 cut [] 0 hashed many gate a is (refl, refs) (λ some e. absurd (omega (arith, some))) (λ m c g h. h)

pub label_kept : (k count : ℕ) (rows : List Row) (n : ℕ) (labels : List ℕ) (cuts : List (List ℕ)) (shown : List Shown) (level : ℕ) (cut : List ℕ) → IsHashed count rows → 2 ≤ k → is_and (row_at rows n) ≡ true → AreLabelled k rows n labels cuts shown
    → fan_in_label rows (label_in labels) n ≡ level → 0 < level → IsOwnCut rows labels n level k cut → AreLabelled k rows (suc n) (labels ++ level ∷ []) (cuts ++ cut ∷ []) shown
label_kept k count rows n labels cuts shown level cut hashed many gate a is some own =
    label_more k count rows n labels cuts shown shown level cut [] level hashed many gate a is (kept_choice k rows labels n cut level some own) (λ more e. absurd (omega (arith, e))) (λ m c g h. h)

pub label_rose : (k count : ℕ) (rows : List Row) (n : ℕ) (labels : List ℕ) (cuts : List (List ℕ)) (shown : List Shown) (level : ℕ) (cut : List ℕ) (lists : List (List ℕ)) → IsHashed count rows → 2 ≤ k → is_and (row_at rows n) ≡ true
    → AreLabelled k rows n labels cuts shown → fan_in_label rows (label_in labels) n ≡ level → 0 < level → cut ≡ refs_of (row_at rows n) → ArePathsInto rows (IsInTop rows (label_in labels) n level) (k + 1) lists
    → AreLabelled k rows (suc n) (labels ++ (level + 1) ∷ []) (cuts ++ cut ∷ []) (shown ++ record { node = n; lists = lists } ∷ [])
label_rose k count rows n labels cuts shown level cut lists hashed many gate a is some refs paths =
    label_more k count rows n labels cuts shown (shown ++ record { node = n; lists = lists } ∷ []) (level + 1) cut lists level hashed many gate a is (rose_choice k rows labels n cut lists level some refs paths)
    (λ more e. (length shown, shown_last shown n lists)) (λ m c g h. node_still k rows g shown (record { node = n; lists = lists }) m c h)

-- the level is the greatest label of the two fan-ins
pub level_from : (rows : List Row) (labels : List ℕ) (n : ℕ) (a b : Lit) (level : ℕ) (ls ns : List ℕ) → level ≡ greatest (label_in ls) ns → ls ≡ labels → ns ≡ node_of a ∷ node_of b ∷ [] → row_at rows n ≡ And a b → fan_in_label rows (label_in labels) n ≡ level
level_from rows labels n a b level ls ns e same nodes row =
    ap (λ (r : Row). greatest (label_in labels) (refs_of r)) row ∙ sym (e ∙ ap (λ (l : List ℕ). greatest (label_in l) ns) same ∙ ap (λ (l : List ℕ). greatest (label_in labels) l) nodes)

pub level_for : (rows : List Row) (label : ℕ → ℕ) (n level : ℕ) → fan_in_label rows label n ≡ level → IsLowFor rows label n level
level_for rows label n level is m r = omega (arith, is, greatest_over label (refs_of (row_at rows n)) m (refers_row rows n m r))

pub not_and : (row : Row) → ((a b : Lit) → row ≡ And a b → ⊥) → is_and row ≡ false
not_and Free none = refl
not_and Source none = refl
not_and (And a b) none = absurd (none a b refl)
not_and (Alias a) none = refl

-- what is pushed
pub pushed : (k : ℕ) (rows : List Row) (n : ℕ) (old new : Labelling) (label : ℕ) (cut : ArrayVec ℕ) (shown : List Shown) → new.labels.items ≡ old.labels.items ++ label ∷ [] → new.cuts.items ≡ old.cuts.items ++ cut ∷ [] → map shown_of new.paths.items ≡ shown
    → AreLabelled k rows (suc n) (old.labels.items ++ label ∷ []) (leaves_of old.cuts.items ++ cut.items ∷ []) shown → IsLabelling k rows (n + 1) new
pushed k rows n old new label cut shown labels cuts paths a =
    let one : suc n ≡ n + 1 = omega arith in
    let leaves : leaves_of new.cuts.items ≡ leaves_of old.cuts.items ++ cut.items ∷ [] = ap leaves_of cuts ∙ map-append (λ (c : ArrayVec ℕ). c.items) old.cuts.items (cut ∷ []) in
    subst (λ m. AreLabelled k rows m new.labels.items (leaves_of new.cuts.items) (map shown_of new.paths.items)) one
    (subst (λ (l : List ℕ). AreLabelled k rows (suc n) l (leaves_of new.cuts.items) (map shown_of new.paths.items)) (sym labels)
    (subst (λ (l : List (List ℕ)). AreLabelled k rows (suc n) (old.labels.items ++ label ∷ []) l (map shown_of new.paths.items)) (sym leaves)
    (subst (λ (l : List Shown). AreLabelled k rows (suc n) (old.labels.items ++ label ∷ []) (leaves_of old.cuts.items ++ cut.items ∷ []) l) (sym paths) a)))

-- a node more that is no AND
pub label_other : (k count : ℕ) (rows : List Row) (n : ℕ) (labels : List ℕ) (cuts : List (List ℕ)) (shown : List Shown) → IsHashed count rows → is_and (row_at rows n) ≡ false → AreLabelled k rows n labels cuts shown
    → AreLabelled k rows (suc n) (labels ++ 0 ∷ []) (cuts ++ [] ∷ []) shown
label_other k count rows n labels cuts shown hashed other a =
    labelled_more k rows n labels cuts shown shown 0 [] (hashed_in_order count rows hashed) a (λ m c g h. h) (omega arith) (λ y r. absurd (both_ways (is_and (row_at rows n)) other (only_ands count rows hashed n y r))) (λ no. refl)
    (λ gate g same at. absurd (both_ways (is_and (row_at rows n)) other gate))

-- no node yet
pub label_none : (k : ℕ) (rows : List Row) → AreLabelled k rows 0 [] [] []
label_none k rows = record {
  count = refl;
  cuts_count = refl;
  falls = λ n m lt r. absurd (omega (arith, lt));
  others = λ m no. refl;
  low = λ m. omega arith;
  nodes = λ m lt gate g agree. absurd (omega (arith, lt));
}

pub none_labelled : (k : ℕ) (rows : List Row) (l : Labelling) → l.labels.items ≡ [] → l.cuts.items ≡ [] → l.paths.items ≡ [] → IsLabelling k rows 0 l
none_labelled k rows l labels cuts paths =
    subst (λ (x : List ℕ). AreLabelled k rows 0 x (leaves_of l.cuts.items) (map shown_of l.paths.items)) (sym labels)
    (subst (λ (x : List (ArrayVec ℕ)). AreLabelled k rows 0 [] (leaves_of x) (map shown_of l.paths.items)) (sym cuts)
    (subst (λ (x : List Paths). AreLabelled k rows 0 [] [] (map shown_of x)) (sym paths) (label_none k rows)))

-- at the end

module _ (k count : ℕ) (rows : List Row) (labels : List ℕ) (cuts : List (List ℕ)) (shown : List Shown) (hashed : IsHashed count rows) (a : AreLabelled k rows (length rows) labels cuts shown) where
  pub each_node : (n : ℕ) → is_and (row_at rows n) ≡ true → IsNode k rows (label_in labels) shown n (cut_at cuts n)
  each_node n gate = a.nodes n (and_there rows n gate) gate (label_in labels) (λ m le. refl)

  pub flow_labels : AreFlowLabels k rows (label_in labels)
  flow_labels = record { others = a.others; ands = λ n gate. (each_node n gate).flow }

  pub borne_out : AreBorneOut k rows (label_in labels) shown
  borne_out = record { others = a.others; ands = λ n gate. (each_node n gate).over }

  pub chosen_cuts : (n : ℕ) → is_and (row_at rows n) ≡ true → IsChosenCut rows (label_in labels) n (cut_at cuts n)
  chosen_cuts n gate = (each_node n gate).chosen

  pub lut_cuts : (most : ℕ) → k ≤ most → AreLutCuts most rows (cut_at cuts)
  lut_cuts most le n gate =
      let l = (each_node n gate).lut in
      record { cut = l.cut; rising = l.rising; below = l.below; two = l.two; few = omega (arith, l.few, le) }

  pub depths : AreDepths rows (label_in labels) (cut_at cuts)
  depths = record {
    others = a.others;
    ands = λ n gate.
        let node = each_node n gate in
        omega (
          arith,
          greatest_less (label_in labels) (cut_at cuts n) (label_in labels n) (omega (arith, node.lut.two)) node.less,
          bound_cuts k count rows (label_in labels) shown hashed borne_out n (cut_at cuts n) gate node.lut.cut node.lut.few,
        );
  }
