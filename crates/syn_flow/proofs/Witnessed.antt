-- The tests of a certificate are exact.
use Rattle.std.proofs.Common.{◌≡◌, ◌≢◌, ◌↔◌, ℕ, zero, suc, ◌+◌, ◌⊎◌, ◌<◌, ◌≤◌, nat_eq, nat_lt, Bool, true, false, List, length, map, replicate, refl, sym, ap, ◌∙◌, subst, inl, inr, arith}
use Rattle.std.proofs.Math.ListN.{set}
use Rattle.std.proofs.lemmas.Bool.{and_from, and_parts, both_ways, cases_Bool, cases_lt, eq-eqb, eqb-true, ltb-true, lt-ltb, or_cases, or_left, or_right}
use Rattle.std.proofs.lemmas.List.{get_or_past, get_or-replicate, get_or-set_other, get_or-set_same, length-map, length-replicate}
use Rattle.syn_rows.specs.declared.Row.{Row}
use Rattle.syn_rows.specs.declared.Row.TheVariants.{Free, Source, And, Alias}
use Rattle.syn_rows.specs.Rows.{refs_of, row_at}
use Rattle.syn_rows.specs.Reach.{is_and}
use Rattle.syn_rows.specs.Values.{value_in}
use Rattle.syn_hashed.specs.Hashed.{IsHashed}
use Rattle.syn_lutnet.specs.LutData.{greatest}
use Rattle.syn_paths.specs.Tops.{fan_in_label, FallsBelow, IsInTop, label_in}
use Rattle.syn_paths.specs.Paths.{ArePathsInto}
use Rattle.syn_flow.specs.declared.witness.FlowProof.{FlowProof}
use Rattle.syn_flow.specs.declared.witness.Paths.{Paths}
use Rattle.syn_flow.specs.Flows.{IsWitness, shown_of}
use Rattle.syn_flow.specs.Witness.{AreBorneOut, IsLabelOver, Shown}
use Rattle.syn_flow.specs.Checks.{AllFit, AllMarked, AreNoted, fits_row, is_over, IsGood, IsNotedBy, rises_over, rises_row, shown_at}
use Rattle.syn_cones.proofs.Walking.{refers_row}
use Rattle.syn_paths.proofs.Falling.{greatest_over}
use Rattle.syn_paths.proofs.Owned.{and_there, only_ands}

-- labels as numbers

abbrev pub IsNumber : ℕ → ℕ → Type 0
IsNumber zero label = label ≡ 1
IsNumber (suc p) label = (label ≡ suc p) ⊎ (label ≡ suc (suc p))

over_is : (p label : ℕ) → is_over p label ≡ true → IsNumber p label
over_is zero label h = eqb-true label 1 h
over_is (suc p) label h = elim (or_cases (nat_eq label (suc p)) (nat_eq label (suc (suc p))) h) [ inl e ↦ inl (eqb-true label (suc p) e) | inr e ↦ inr (eqb-true label (suc (suc p)) e) ]

over_from : (p label : ℕ) → IsNumber p label → is_over p label ≡ true
over_from zero label e = eq-eqb label 1 e
over_from (suc p) label (inl e) = or_left (nat_eq label (suc p)) (nat_eq label (suc (suc p))) (eq-eqb label (suc p) e)
over_from (suc p) label (inr e) = or_right (nat_eq label (suc p)) (nat_eq label (suc (suc p))) (eq-eqb label (suc (suc p)) e)

number_high : (p label : ℕ) → IsNumber p label → p ≤ label
number_high zero label h = omega arith
number_high (suc p) label (inl e) = omega (arith, e)
number_high (suc p) label (inr e) = omega (arith, e)

pub rises_is : (p label : ℕ) → rises_over p label ≡ true → (0 < p) × (label ≡ suc p)
rises_is p label h = let parts = and_parts (nat_lt 0 p) (nat_eq label (suc p)) h in (ltb-true 0 p parts.0, eqb-true label (suc p) parts.1)

rises_from : (p label : ℕ) → 0 < p → label ≡ suc p → rises_over p label ≡ true
rises_from p label some e = and_from (nat_lt 0 p) (nat_eq label (suc p)) (lt-ltb 0 p some) (eq-eqb label (suc p) e)

-- row by row

fits_and : (label : ℕ → ℕ) (n : ℕ) (row : Row) → is_and row ≡ true → fits_row label n row ≡ is_over (greatest label (refs_of row)) (label n)
fits_and label n Free h = absurd (both_ways false refl h)
fits_and label n Source h = absurd (both_ways false refl h)
fits_and label n (And a b) h = refl
fits_and label n (Alias a) h = absurd (both_ways false refl h)

fits_other : (label : ℕ → ℕ) (n : ℕ) (row : Row) → is_and row ≡ false → fits_row label n row ≡ nat_eq (label n) 0
fits_other label n Free h = refl
fits_other label n Source h = refl
fits_other label n (And a b) h = absurd (both_ways true h refl)
fits_other label n (Alias a) h = refl

rises_and : (label : ℕ → ℕ) (n : ℕ) (row : Row) → is_and row ≡ true → rises_row label n row ≡ rises_over (greatest label (refs_of row)) (label n)
rises_and label n Free h = absurd (both_ways false refl h)
rises_and label n Source h = absurd (both_ways false refl h)
rises_and label n (And a b) h = refl
rises_and label n (Alias a) h = absurd (both_ways false refl h)

and_risen : (label : ℕ → ℕ) (n : ℕ) (row : Row) → rises_row label n row ≡ true → is_and row ≡ true
and_risen label n Free h = absurd (both_ways false refl h)
and_risen label n Source h = absurd (both_ways false refl h)
and_risen label n (And a b) h = refl
and_risen label n (Alias a) h = absurd (both_ways false refl h)

-- a node whose label rises: its level is the greatest label of its fan-ins, one less than its own
pub risen_is : (rows : List Row) (label : ℕ → ℕ) (n : ℕ) → rises_row label n (row_at rows n) ≡ true → (is_and (row_at rows n) ≡ true) × (0 < fan_in_label rows label n) × (label n ≡ suc (fan_in_label rows label n))
risen_is rows label n h =
    let gate = and_risen label n (row_at rows n) h in
    let is = rises_is (fan_in_label rows label n) (label n) (sym (rises_and label n (row_at rows n) gate) ∙ h) in
    (gate, is.0, is.1)

-- all labels fit

fit_others : (rows : List Row) (labels : List ℕ) → length labels ≡ length rows → AllFit rows (label_in labels) → (n : ℕ) → is_and (row_at rows n) ≡ false → label_in labels n ≡ 0
fit_others rows labels long fit n other = elim (cases_lt n (length rows)) [
  | inl lt ↦ eqb-true (label_in labels n) 0 (sym (fits_other (label_in labels) n (row_at rows n) other) ∙ fit n lt)
  | inr past ↦ get_or_past labels n 0 (omega (arith, past, long))
]

fit_ands : (rows : List Row) (label : ℕ → ℕ) → AllFit rows label → (n : ℕ) → is_and (row_at rows n) ≡ true → IsNumber (fan_in_label rows label n) (label n)
fit_ands rows label fit n gate = over_is (fan_in_label rows label n) (label n) (sym (fits_and label n (row_at rows n) gate) ∙ fit n (and_there rows n gate))

pub fit_falls : (count : ℕ) (rows : List Row) (label : ℕ → ℕ) → IsHashed count rows → AllFit rows label → (root : ℕ) → FallsBelow rows label root
fit_falls count rows label hashed fit root n m lt r =
    omega (arith, greatest_over label (refs_of (row_at rows n)) m (refers_row rows n m r), number_high (fan_in_label rows label n) (label n) (fit_ands rows label fit n (only_ands count rows hashed n m r)))

-- borne out, they fit
pub borne_fit : (k : ℕ) (rows : List Row) (label : ℕ → ℕ) (shown : List Shown) → AreBorneOut k rows label shown → AllFit rows label
borne_fit k rows label shown out n lt = elim (cases_Bool (is_and (row_at rows n))) [
  | inl gate ↦ fits_and label n (row_at rows n) gate ∙ over_from (fan_in_label rows label n) (label n) (by (fan_in_label rows label n) (out.ands n gate))
  | inr other ↦ fits_other label n (row_at rows n) other ∙ eq-eqb (label n) 0 (out.others n other)
]
  where
    by : (p : ℕ) → IsLabelOver k rows label shown n p → IsNumber p (label n)
    by zero h = h
    by (suc p) (inl e) = inl e
    by (suc p) (inr r) = inr r.0

-- Where all labels fit, those that rise are marked exactly where all are borne out.
pub noted_exact : (k : ℕ) (rows : List Row) (labels : List ℕ) (shown : List Shown) (marks : List Bool) → length labels ≡ length rows → AllFit rows (label_in labels) → AreNoted k rows (label_in labels) shown (length shown) marks
    → AllMarked rows (label_in labels) marks ↔ AreBorneOut k rows (label_in labels) shown
noted_exact k rows labels shown marks long fit noted = (
  λ marked. record { others = fit_others rows labels long fit; ands = λ n gate. over marked n gate (fan_in_label rows (label_in labels) n) refl (fit_ands rows (label_in labels) fit n gate) },
  λ out n lt risen. let is = risen_is rows (label_in labels) n risen in back out n risen (fan_in_label rows (label_in labels) n) refl is.1 is.2 (out.ands n is.0),
)
  where
    label : ℕ → ℕ
    label = label_in labels

    over : ((n : ℕ) → n < length rows → rises_row (label_in labels) n (row_at rows n) ≡ true → value_in marks n ≡ true) → (n : ℕ) → is_and (row_at rows n) ≡ true → (p : ℕ) → fan_in_label rows (label_in labels) n ≡ p → IsNumber p (label_in labels n)
        → IsLabelOver k rows (label_in labels) shown n p
    over marked n gate zero is e = e
    over marked n gate (suc p) is (inl e) = inl e
    over marked n gate (suc p) is (inr e) =
        let risen = rises_and (label_in labels) n (row_at rows n) gate ∙ rises_from (fan_in_label rows (label_in labels) n) (label_in labels n) (omega (arith, is)) (omega (arith, is, e)) in
        let at = noted.sound n (marked n (and_there rows n gate) risen) in
        inr (
          e,
          (
            (shown_at shown at.0).lists,
            at.0,
            (at.1, ap (λ m. record { node = m; lists = (shown_at shown at.0).lists }) at.2),
            subst (λ level. ArePathsInto rows (IsInTop rows (label_in labels) n level) (suc k) (shown_at shown at.0).lists) is
                (subst (λ m. ArePathsInto rows (IsInTop rows (label_in labels) m (fan_in_label rows (label_in labels) m)) (suc k) (shown_at shown at.0).lists) at.2 at.3.1),
          ),
        )

    back : AreBorneOut k rows (label_in labels) shown → (n : ℕ) → rises_row (label_in labels) n (row_at rows n) ≡ true → (p : ℕ) → fan_in_label rows (label_in labels) n ≡ p → 0 < fan_in_label rows (label_in labels) n
        → label_in labels n ≡ suc (fan_in_label rows (label_in labels) n) → IsLabelOver k rows (label_in labels) shown n (fan_in_label rows (label_in labels) n) → value_in marks n ≡ true
    back out n risen zero is some rose h = absurd (omega (arith, is, some))
    back out n risen (suc p) is some rose h = go (subst (IsLabelOver k rows (label_in labels) shown n) is h)
      where
        go : IsLabelOver k rows (label_in labels) shown n (suc p) → value_in marks n ≡ true
        go (inl e) = absurd (omega (arith, e, rose, is))
        go (inr (e, (lists, i, there, paths))) =
            let good : IsGood k rows (label_in labels) (record { node = n; lists = lists }) = (risen, subst (λ level. ArePathsInto rows (IsInTop rows (label_in labels) n level) (suc k) lists) (sym is) paths) in
            subst (λ (x : Shown). value_in marks x.node ≡ true) there.1 (noted.all i there.0 (subst (IsGood k rows (label_in labels)) (sym there.1) good))

-- what an entry has to be

pub good_there : (k : ℕ) (rows : List Row) (label : ℕ → ℕ) (x : Shown) → IsGood k rows label x → x.node < length rows
good_there k rows label x good = and_there rows x.node (risen_is rows label x.node good.0).0

pub good_exact : (k : ℕ) (rows : List Row) (label : ℕ → ℕ) (n level count : ℕ) (lists : List (List ℕ)) (answer : Bool) → rises_row label n (row_at rows n) ≡ true → level + 1 ≡ label n → count ≡ k + 1
    → (answer ≡ true) ↔ ArePathsInto rows (IsInTop rows label n level) count lists → (answer ≡ true) ↔ IsGood k rows label (record { node = n; lists = lists })
good_exact k rows label n level count lists answer risen at many exact = (
  λ e. (risen, subst (λ l. ArePathsInto rows (IsInTop rows label n l) (suc k) lists) same (subst (λ c. ArePathsInto rows (IsInTop rows label n level) c lists) all (exact.0 e))),
  λ good. exact.1 (subst (λ c. ArePathsInto rows (IsInTop rows label n level) c lists) (sym all) (subst (λ l. ArePathsInto rows (IsInTop rows label n l) (suc k) lists) (sym same) good.1)),
)
  where
    is : (is_and (row_at rows n) ≡ true) × (0 < fan_in_label rows label n) × (label n ≡ suc (fan_in_label rows label n))
    is = risen_is rows label n risen

    same : level ≡ fan_in_label rows label n
    same = omega (arith, at, is.2)

    all : count ≡ suc k
    all = omega (arith, many)

-- one entry more

pub noted_more : (k : ℕ) (rows : List Row) (label : ℕ → ℕ) (shown : List Shown) (i : ℕ) (marks after : List Bool) → AreNoted k rows label shown i marks → IsNotedBy k rows label (shown_at shown i) marks after → AreNoted k rows label shown (suc i) after
noted_more k rows label shown i marks after noted by = record {
  sound = λ n h. elim ((by n).0 h) [
    | inl old ↦ let at = noted.sound n old in (at.0, omega (arith, at.1), at.2, at.3)
    | inr new ↦ (i, omega arith, new.0, new.1)
  ];
  all = λ j lt good. elim (cases_lt j i) [
    | inl less ↦ (by (shown_at shown j).node).1 (inl (noted.all j less good))
    | inr ge ↦
        let e : j ≡ i = omega (arith, lt, ge) in
        subst (λ k. value_in after (shown_at shown k).node ≡ true) (sym e) ((by (shown_at shown i).node).1 (inr (refl, subst (λ m. IsGood k rows label (shown_at shown m)) e good)))
  ];
}

pub noted_none : (k : ℕ) (rows : List Row) (label : ℕ → ℕ) (shown : List Shown) (marks : List Bool) → ((n : ℕ) → value_in marks n ≡ false) → AreNoted k rows label shown 0 marks
noted_none k rows label shown marks none = record {
  sound = λ n h. absurd (both_ways (value_in marks n) (none n) h);
  all = λ i lt. absurd (omega (arith, lt));
}

-- an entry that bears out no label, or one that is marked already, changes nothing
pub note_skipped : (k : ℕ) (rows : List Row) (label : ℕ → ℕ) (x : Shown) (marks : List Bool) → (IsGood k rows label x → value_in marks x.node ≡ true) → IsNotedBy k rows label x marks marks
note_skipped k rows label x marks known n = (λ h. inl h, λ either. elim either [ inl h ↦ h | inr new ↦ subst (λ m. value_in marks m ≡ true) new.0 (known new.1) ])

pub note_marked : (k : ℕ) (rows : List Row) (label : ℕ → ℕ) (x : Shown) (marks : List Bool) → x.node < length marks → IsGood k rows label x → IsNotedBy k rows label x marks (set marks x.node true)
note_marked k rows label x marks lt good n = elim (cases_Bool (nat_eq n x.node)) [
  | inl e ↦
      let same = eqb-true n x.node e in
      (λ h. inr (sym same, good), λ either. subst (λ m. value_in (set marks x.node true) m ≡ true) (sym same) (get_or-set_same marks x.node true false lt))
  | inr e ↦
      let other : n ≢ x.node = λ is. both_ways (nat_eq n x.node) e (eq-eqb n x.node is) in
      let kept = get_or-set_other marks x.node n true false other in
      (λ h. inl (sym kept ∙ h), λ either. elim either [ inl h ↦ kept ∙ h | inr new ↦ absurd (other (sym new.0)) ])
]

pub none_yet : (count n : ℕ) → value_in (replicate count false) n ≡ false
none_yet count n = elim (cases_lt n count) [
  | inl lt ↦ get_or-replicate count n false false lt
  | inr past ↦ get_or_past (replicate count false) n false (omega (arith, past, length-replicate count false))
]

-- the whole certificate

pub unlike_long : (k : ℕ) (rows : List Row) (proof : FlowProof) → length proof.labels ≢ length rows → (false ≡ true) ↔ IsWitness k rows proof
unlike_long k rows proof other = (λ e. absurd (both_ways false refl e), λ w. absurd (other w.count))

pub unlike_fit : (k : ℕ) (rows : List Row) (proof : FlowProof) → (AllFit rows (label_in proof.labels) → ⊥) → (false ≡ true) ↔ IsWitness k rows proof
unlike_fit k rows proof unfit = (λ e. absurd (both_ways false refl e), λ w. absurd (unfit (borne_fit k rows (label_in proof.labels) (map shown_of proof.paths) w.borne_out)))

pub certified : (k : ℕ) (rows : List Row) (proof : FlowProof) (marks : List Bool) (answer : Bool) → length proof.labels ≡ length rows → AllFit rows (label_in proof.labels)
    → AreNoted k rows (label_in proof.labels) (map shown_of proof.paths) (length proof.paths) marks → (answer ≡ true) ↔ AllMarked rows (label_in proof.labels) marks → (answer ≡ true) ↔ IsWitness k rows proof
certified k rows proof marks answer long fit noted marked = (
  λ e. record { count = long; borne_out = exact.0 (marked.0 e) },
  λ w. marked.1 (exact.1 w.borne_out),
)
  where
    all : length proof.paths ≡ length (map shown_of proof.paths)
    all = sym (length-map proof.paths shown_of)

    exact : AllMarked rows (label_in proof.labels) marks ↔ AreBorneOut k rows (label_in proof.labels) (map shown_of proof.paths)
    exact = noted_exact k rows proof.labels (map shown_of proof.paths) marks long fit (subst (λ n. AreNoted k rows (label_in proof.labels) (map shown_of proof.paths) n marks) all noted)

pub certified_by : (k : ℕ) (rows : List Row) (proof : FlowProof) (rs : List Row) (ls : List ℕ) (ps : List Paths) (ms marks : List Bool) (answer : Bool) → rs ≡ rows → ls ≡ proof.labels → ps ≡ proof.paths → ms ≡ marks → length ls ≡ length rs
    → AllFit rs (label_in ls) → AreNoted k rs (label_in ls) (map shown_of ps) (length ps) marks → (answer ≡ true) ↔ AllMarked rs (label_in ls) ms → (answer ≡ true) ↔ IsWitness k rows proof
certified_by k rows proof rs ls ps ms marks answer er el ep em long fit noted marked =
    certified k rows proof marks answer (subst (λ (l : List ℕ). length l ≡ length rows) el (subst (λ (r : List Row). length ls ≡ length r) er long))
    (subst (λ (l : List ℕ). AllFit rows (label_in l)) el (subst (λ (r : List Row). AllFit r (label_in ls)) er fit))
    (subst (λ (p : List Paths). AreNoted k rows (label_in proof.labels) (map shown_of p) (length p) marks) ep
    (subst (λ (l : List ℕ). AreNoted k rows (label_in l) (map shown_of ps) (length ps) marks) el (subst (λ (r : List Row). AreNoted k r (label_in ls) (map shown_of ps) (length ps) marks) er noted)))
    (subst (λ (m : List Bool). (answer ≡ true) ↔ AllMarked rows (label_in proof.labels) m) em
    (subst (λ (l : List ℕ). (answer ≡ true) ↔ AllMarked rows (label_in l) ms) el (subst (λ (r : List Row). (answer ≡ true) ↔ AllMarked r (label_in ls) ms) er marked)))
