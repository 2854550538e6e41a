-- Without a second definition no name is defined twice by what statements say.
use Rattle.std.proofs.Common.{◌≡◌, ℕ, ◌||◌, not, Bool, true, false, if◌then◌else◌, List, [], ◌∷◌, ◌++◌, map, flat_map, bytes_eq, refl, sym, ap, ap₂, ◌∙◌, subst, inl, inr, ◌⊎◌, Option, Some, None}
use Rattle.std.proofs.lemmas.Bool.{both_ways, false_from_ne_true, and_from, and_parts, or_left, or_right, or_cases, not-true}
use Rattle.syn_netlist.specs.Words.{has_word, distinct, without}
use Rattle.syn_netlist.specs.Lists.{Latch, output_of, latch_output}
use Rattle.syn_netlist.specs.Order.{DefinedOnce}
use Rattle.syn_netlist.proofs.Sets.{has_word-append, same_word, word_same}
use Rattle.syn_models.specs.Models as models
use Rattle.syn_models.specs.Models.{Model, alone, clocks_in, inputs_in, latches_in, tables_in}
use Rattle.syn_reader.specs.declared.Kind.{Kind}
use Rattle.syn_reader.specs.declared.Kind.TheVariants as kinds
use Rattle.syn_reader.specs.Statements.{Statement, rows_below}
use Rattle.syn_reader.specs.Shapes.{IsLatch}
use Rattle.syn_reader.specs.Definitions.{Definition, definitions, names_defined, forbids, may_share, first_forbidden}
use Rattle.syn_reader.specs.LineFaults.{checks, first_fault_of_lines}
use Rattle.syn_reader.specs.Marking.{by_kind, forbidden_by}
use Rattle.syn_reader.specs.Saying.{Say, Says}
use Rattle.syn_reader.proofs.Fine.{parts_of}
use Rattle.syn_reader.proofs.TableLines.{defines_last}

-- The names that what is said defines by this kind.
abbrev of_kind : Kind → List models.Statement → List (List ℕ)
of_kind kinds.Inputs said = flat_map (λ s. inputs_in s.kind) said
of_kind kinds.Clock said = flat_map (λ s. clocks_in s.kind) said
of_kind kinds.Latch said = map latch_output (flat_map (λ s. latches_in s.kind) said)
of_kind kinds.Names said = map output_of (flat_map (λ s. tables_in s.kind) said)
of_kind kind said = []

abbrev same_kind : Kind → Kind → Bool
same_kind kinds.Inputs kinds.Inputs = true
same_kind kinds.Clock kinds.Clock = true
same_kind kinds.Latch kinds.Latch = true
same_kind kinds.Names kinds.Names = true
same_kind one other = false

-- What a statement puts in front.
abbrev put : Kind → Kind → List (List ℕ) → List (List ℕ)
put by kind words = if same_kind by kind then names_defined by words else []

pub latch_defines : (words : List (List ℕ)) (latch : Latch) → IsLatch words latch → names_defined kinds.Latch words ≡ latch.output ∷ []
latch_defines words latch is = elim is.spelled [
  | inl e ↦ ap (names_defined kinds.Latch) e
  | inr e ↦ ap (names_defined kinds.Latch) e.0
]

-- Each statement puts its definitions in front of those of its kind.
puts : (line : ℕ) (by kind : Kind) (words : List (List ℕ)) (rows : List (List (List ℕ))) (rest said : List models.Statement) → Says line by words rows rest said → of_kind kind said ≡ put by kind words ++ of_kind kind rest
puts line kinds.Row kind words rows rest said a = ap (of_kind kind) a
puts line kinds.Unknown kind words rows rest said a = absurd a
puts line kinds.Model kind words rows rest said a = ap (of_kind kind) a
puts line kinds.End kind words rows rest said a = ap (of_kind kind) a
puts line kinds.Outputs kinds.Inputs words rows rest said a = ap (of_kind kinds.Inputs) a
puts line kinds.Outputs kinds.Clock words rows rest said a = ap (of_kind kinds.Clock) a
puts line kinds.Outputs kinds.Latch words rows rest said a = ap (of_kind kinds.Latch) a
puts line kinds.Outputs kinds.Names words rows rest said a = ap (of_kind kinds.Names) a
puts line kinds.Outputs kind words rows rest said a = refl
puts line kinds.Subckt kinds.Inputs words rows rest said a = ap (of_kind kinds.Inputs) a.2
puts line kinds.Subckt kinds.Clock words rows rest said a = ap (of_kind kinds.Clock) a.2
puts line kinds.Subckt kinds.Latch words rows rest said a = ap (of_kind kinds.Latch) a.2
puts line kinds.Subckt kinds.Names words rows rest said a = ap (of_kind kinds.Names) a.2
puts line kinds.Subckt kind words rows rest said a = refl
puts line kinds.Inputs kinds.Inputs words rows rest said a = ap (of_kind kinds.Inputs) a
puts line kinds.Inputs kinds.Clock words rows rest said a = ap (of_kind kinds.Clock) a
puts line kinds.Inputs kinds.Latch words rows rest said a = ap (of_kind kinds.Latch) a
puts line kinds.Inputs kinds.Names words rows rest said a = ap (of_kind kinds.Names) a
puts line kinds.Inputs kind words rows rest said a = refl
puts line kinds.Clock kinds.Inputs words rows rest said a = ap (of_kind kinds.Inputs) a
puts line kinds.Clock kinds.Clock words rows rest said a = ap (of_kind kinds.Clock) a
puts line kinds.Clock kinds.Latch words rows rest said a = ap (of_kind kinds.Latch) a
puts line kinds.Clock kinds.Names words rows rest said a = ap (of_kind kinds.Names) a
puts line kinds.Clock kind words rows rest said a = refl
puts line kinds.Latch kinds.Inputs words rows rest said a = ap (of_kind kinds.Inputs) a.2
puts line kinds.Latch kinds.Clock words rows rest said a = ap (of_kind kinds.Clock) a.2
puts line kinds.Latch kinds.Latch words rows rest said a = ap (of_kind kinds.Latch) a.2 ∙ ap (λ ws. ws ++ of_kind kinds.Latch rest) (sym (latch_defines words a.0 a.1))
puts line kinds.Latch kinds.Names words rows rest said a = ap (of_kind kinds.Names) a.2
puts line kinds.Latch kind words rows rest said a = refl
puts line kinds.Names kinds.Inputs words rows rest said a = ap (of_kind kinds.Inputs) a.2
puts line kinds.Names kinds.Clock words rows rest said a = ap (of_kind kinds.Clock) a.2
puts line kinds.Names kinds.Latch words rows rest said a = ap (of_kind kinds.Latch) a.2
puts line kinds.Names kinds.Names words rows rest said a = ap (of_kind kinds.Names) a.2 ∙ ap (λ ws. ws ++ of_kind kinds.Names rest) (sym (ap (names_defined kinds.Names) a.1.names ∙ defines_last a.0.inputs a.0.output))
puts line kinds.Names kind words rows rest said a = refl

-- definitions that none before forbids
apart_above : (before : List Definition) (by : Kind) (ws : List (List ℕ)) (w : List ℕ) → first_forbidden before (map (by_kind by) ws) ≡ None → has_word ws w ≡ true → forbidden_by before by w ≡ false
apart_above before by [] w e h = absurd (both_ways false refl h)
apart_above before by (x ∷ xs) w e h = go (forbidden_by before by x) refl e (λ z k. apart_above (by_kind by x ∷ before) by xs w z k)
  where
    go : (b : Bool) → forbidden_by before by x ≡ b → (if b then Some x else first_forbidden (by_kind by x ∷ before) (map (by_kind by) xs)) ≡ None
        → (first_forbidden (by_kind by x ∷ before) (map (by_kind by) xs) ≡ None → has_word xs w ≡ true → forbidden_by (by_kind by x ∷ before) by w ≡ false) → forbidden_by before by w ≡ false
    go true q z ih = absurd (let y : ◌≡◌ {A = Option (List ℕ)} (Some x) None = z in cc)
    go false q z ih = elim (or_cases (bytes_eq x w) (has_word xs w) h) [
      | inl s ↦ ap (forbidden_by before by) (sym (same_word x w s)) ∙ q
      | inr k ↦ right (forbids (by_kind by x) (by_kind by w)) (forbidden_by before by w) (ih z k)
    ]
      where
        right : (a b : Bool) → (a || b) ≡ false → b ≡ false
        right true b r = absurd (both_ways true r refl)
        right false b r = r

apart_words : (before : List Definition) (by : Kind) (ws : List (List ℕ)) → may_share by by ≡ false → first_forbidden before (map (by_kind by) ws) ≡ None → distinct ws ≡ true
apart_words before by [] s e = refl
apart_words before by (x ∷ xs) s e = go (forbidden_by before by x) e (λ z. apart_words (by_kind by x ∷ before) by xs s z)
  where
    go : (b : Bool) → (if b then Some x else first_forbidden (by_kind by x ∷ before) (map (by_kind by) xs)) ≡ None → (first_forbidden (by_kind by x ∷ before) (map (by_kind by) xs) ≡ None → distinct xs ≡ true) → distinct (x ∷ xs) ≡ true
    go true z ih = absurd (let y : ◌≡◌ {A = Option (List ℕ)} (Some x) None = z in cc)
    go false z ih = and_from (not (has_word xs x)) (distinct xs)
        (ap not (false_from_ne_true (has_word xs x) (λ k. both_ways (forbidden_by (by_kind by x ∷ before) by x) (apart_above (by_kind by x ∷ before) by xs x z k)
        (or_left (forbids (by_kind by x) (by_kind by x)) (forbidden_by before by x) (and_from (bytes_eq x x) (not (may_share by by)) (word_same x) (ap not s)))))) (ih z)

forbidden_right : (ds es : List Definition) (k : Kind) (w : List ℕ) → forbidden_by es k w ≡ true → forbidden_by (ds ++ es) k w ≡ true
forbidden_right [] es k w h = h
forbidden_right (d ∷ ds) es k w h = or_right (forbids d (by_kind k w)) (forbidden_by (ds ++ es) k w) (forbidden_right ds es k w h)

forbidden_left : (by : Kind) (ws : List (List ℕ)) (es : List Definition) (k : Kind) (w : List ℕ) → may_share by k ≡ false → has_word ws w ≡ true → forbidden_by (map (by_kind by) ws ++ es) k w ≡ true
forbidden_left by [] es k w s h = absurd (both_ways false refl h)
forbidden_left by (x ∷ xs) es k w s h = elim (or_cases (bytes_eq x w) (has_word xs w) h) [
  | inl e ↦ or_left (forbids (by_kind by x) (by_kind k w)) (forbidden_by (map (by_kind by) xs ++ es) k w) (and_from (bytes_eq x w) (not (may_share by k)) e (ap not s))
  | inr r ↦ or_right (forbids (by_kind by x) (by_kind k w)) (forbidden_by (map (by_kind by) xs ++ es) k w) (forbidden_left by xs es k w s r)
]

-- the kind of what is put in front
put_kind : (by kind : Kind) (words : List (List ℕ)) (w : List ℕ) → has_word (put by kind words) w ≡ true → (by ≡ kind) × (has_word (names_defined by words) w ≡ true)
put_kind kinds.Inputs kinds.Inputs words w h = (refl, h)
put_kind kinds.Clock kinds.Clock words w h = (refl, h)
put_kind kinds.Latch kinds.Latch words w h = (refl, h)
put_kind kinds.Names kinds.Names words w h = (refl, h)
put_kind by kind words w h = absurd (both_ways false refl h)

-- a forbidden name isn't defined below
later : (kind : Kind) (w : List ℕ) (above ss : List Statement) (n : List models.Statement) → forbidden_by (flat_map definitions above) kind w ≡ true → first_fault_of_lines checks above ss ≡ None → Say ss n → has_word (of_kind kind n) w ≡ false
later kind w above [] n h e p = ap (λ m. has_word (of_kind kind m) w) p ∙ none kind
  where
    none : (k : Kind) → has_word (of_kind k []) w ≡ false
    none kinds.Inputs = refl
    none kinds.Clock = refl
    none kinds.Latch = refl
    none kinds.Names = refl
    none k = refl
later kind w above (s ∷ ss) n h e p =
    let here = parts_of above s ss e in
    let below = later kind w (s ∷ above) ss p.0 (forbidden_right (definitions s) (flat_map definitions above) kind w h) here.1 p.1 in
    false_from_ne_true (has_word (of_kind kind n) w) (λ z. elim (or_cases (has_word (put s.kind kind s.words) w) (has_word (of_kind kind p.0) w) (sym (has_word-append (put s.kind kind s.words) (of_kind kind p.0) w) ∙ (ap (λ l. has_word l w) (sym (puts s.line s.kind kind s.words (rows_below ss) p.0 n p.2)) ∙ z))) [
      | inl q ↦
          let k = put_kind s.kind kind s.words w q in
          both_ways (forbidden_by (flat_map definitions above) kind w) (subst (λ j. forbidden_by (flat_map definitions above) j w ≡ false) k.0 (apart_above (flat_map definitions above) s.kind (names_defined s.kind s.words) w here.0.once k.1)) h
      | inr q ↦ both_ways (has_word (of_kind kind p.0) w) below q
    ])

-- definitions of two kinds that may not share a name
apart_kinds : (one other : Kind) (above ss : List Statement) (n : List models.Statement) → may_share one other ≡ false → may_share other one ≡ false → same_kind one other ≡ false → same_kind other one ≡ false → first_fault_of_lines checks above ss ≡ None → Say ss n
    → (w : List ℕ) → has_word (of_kind one n) w ≡ true → has_word (of_kind other n) w ≡ true → ⊥
apart_kinds one other above [] n s t d d' e p w h k = nothing one (sym (ap (λ m. has_word (of_kind one m) w) p) ∙ h)
  where
    nothing : (j : Kind) → has_word (of_kind j []) w ≡ true → ⊥
    nothing kinds.Inputs z = both_ways false refl z
    nothing kinds.Clock z = both_ways false refl z
    nothing kinds.Latch z = both_ways false refl z
    nothing kinds.Names z = both_ways false refl z
    nothing j z = both_ways false refl z
apart_kinds one other above (s ∷ ss) n sh t d d' e p w h k =
    let here = parts_of above s ss e in
    elim (split one h) [
      | inl a ↦ elim (split other k) [
        | inl b ↦ mixed a b
        | inr b ↦ elsewhere one other a b sh here.1
      ]
      | inr a ↦ elim (split other k) [
        | inl b ↦ elsewhere other one b a t here.1
        | inr b ↦ apart_kinds one other (s ∷ above) ss p.0 sh t d d' here.1 p.1 w a b
      ]
    ]
  where
    split : (kind : Kind) → has_word (of_kind kind n) w ≡ true → (has_word (put s.kind kind s.words) w ≡ true) ⊎ (has_word (of_kind kind p.0) w ≡ true)
    split kind z = or_cases (has_word (put s.kind kind s.words) w) (has_word (of_kind kind p.0) w) (sym (has_word-append (put s.kind kind s.words) (of_kind kind p.0) w) ∙ (ap (λ l. has_word l w) (sym (puts s.line s.kind kind s.words (rows_below ss) p.0 n p.2)) ∙ z))

    both_kinds : (by : Kind) → has_word (put by one s.words) w ≡ true → has_word (put by other s.words) w ≡ true → ⊥
    both_kinds by a b =
        let x = put_kind by one s.words w a in
        both_ways (has_word (put one other s.words) w) (ap (λ q. has_word (if q then names_defined one s.words else []) w) d) (subst (λ j. has_word (put j other s.words) w ≡ true) x.0 b)

    mixed : has_word (put s.kind one s.words) w ≡ true → has_word (put s.kind other s.words) w ≡ true → ⊥
    mixed = both_kinds s.kind

    elsewhere : (a b : Kind) → has_word (put s.kind a s.words) w ≡ true → has_word (of_kind b p.0) w ≡ true → may_share a b ≡ false → first_fault_of_lines checks (s ∷ above) ss ≡ None → ⊥
    elsewhere a b x y m z =
        let q = put_kind s.kind a s.words w x in
        both_ways (has_word (of_kind b p.0) w) (later b w (s ∷ above) ss p.0 (forbidden_left s.kind (names_defined s.kind s.words) (flat_map definitions above) b w (ap (λ j. may_share j b) q.0 ∙ m) q.1) z p.1) y

-- definitions of one kind
distinct_append : (xs ys : List (List ℕ)) → distinct xs ≡ true → distinct ys ≡ true → ((w : List ℕ) → has_word xs w ≡ true → has_word ys w ≡ true → ⊥) → distinct (xs ++ ys) ≡ true
distinct_append [] ys d e f = e
distinct_append (x ∷ xs) ys d e f =
    let p = and_parts (not (has_word xs x)) (distinct xs) d in
    let here : has_word (x ∷ xs) x ≡ true = or_left (bytes_eq x x) (has_word xs x) (word_same x) in
    let none : has_word (xs ++ ys) x ≡ false = has_word-append xs ys x ∙ ap₂ (λ a b. a || b) (not-true (has_word xs x) p.0) (false_from_ne_true (has_word ys x) (λ z. f x here z)) in
    and_from (not (has_word (xs ++ ys) x)) (distinct (xs ++ ys)) (ap not none) (distinct_append xs ys p.1 e (λ w a b. f w (or_right (bytes_eq x w) (has_word xs w) a) b))

put_distinct : (before : List Definition) (by kind : Kind) (words : List (List ℕ)) → first_forbidden before (map (by_kind by) (names_defined by words)) ≡ None → may_share kind kind ≡ false → distinct (put by kind words) ≡ true
put_distinct before kinds.Inputs kinds.Inputs words e s = apart_words before kinds.Inputs (names_defined kinds.Inputs words) refl e
put_distinct before kinds.Clock kinds.Clock words e s = apart_words before kinds.Clock (names_defined kinds.Clock words) refl e
put_distinct before kinds.Latch kinds.Latch words e s = apart_words before kinds.Latch (names_defined kinds.Latch words) refl e
put_distinct before kinds.Names kinds.Names words e s = apart_words before kinds.Names (names_defined kinds.Names words) refl e
put_distinct before by kind words e s = refl

once_kind : (kind : Kind) (above ss : List Statement) (n : List models.Statement) → may_share kind kind ≡ false → first_fault_of_lines checks above ss ≡ None → Say ss n → distinct (of_kind kind n) ≡ true
once_kind kind above [] n s e p = ap (λ m. distinct (of_kind kind m)) p ∙ none kind
  where
    none : (k : Kind) → distinct (of_kind k []) ≡ true
    none kinds.Inputs = refl
    none kinds.Clock = refl
    none kinds.Latch = refl
    none kinds.Names = refl
    none k = refl
once_kind kind above (s ∷ ss) n sh e p =
    let here = parts_of above s ss e in
    ap distinct (puts s.line s.kind kind s.words (rows_below ss) p.0 n p.2)
    ∙ distinct_append (put s.kind kind s.words) (of_kind kind p.0) (put_distinct (flat_map definitions above) s.kind kind s.words here.0.once sh) (once_kind kind (s ∷ above) ss p.0 sh here.1 p.1)
    (λ w a b.
    let q = put_kind s.kind kind s.words w a in
    both_ways (has_word (of_kind kind p.0) w) (later kind w (s ∷ above) ss p.0 (forbidden_left s.kind (names_defined s.kind s.words) (flat_map definitions above) kind w (ap (λ j. may_share j kind) q.0 ∙ sh) q.1) here.1 p.1) b)

without_apart : (xs ys : List (List ℕ)) (w : List ℕ) → has_word xs w ≡ true → has_word (without xs ys) w ≡ true → ⊥
without_apart xs [] w h k = both_ways false refl k
without_apart xs (y ∷ ys) w h k = go (has_word xs y) refl k (without_apart xs ys w h)
  where
    go : (b : Bool) → has_word xs y ≡ b → has_word (if not b then y ∷ without xs ys else without xs ys) w ≡ true → (has_word (without xs ys) w ≡ true → ⊥) → ⊥
    go true e z f = f z
    go false e z f = elim (or_cases (bytes_eq y w) (has_word (without xs ys) w) z) [
      | inl q ↦ both_ways (has_word xs y) e (ap (has_word xs) (same_word y w q) ∙ h)
      | inr r ↦ f r
    ]

without_has : (xs ys : List (List ℕ)) (w : List ℕ) → has_word (without xs ys) w ≡ true → has_word ys w ≡ true
without_has xs [] w h = h
without_has xs (y ∷ ys) w h = go (has_word xs y) h (without_has xs ys w)
  where
    go : (b : Bool) → has_word (if not b then y ∷ without xs ys else without xs ys) w ≡ true → (has_word (without xs ys) w ≡ true → has_word ys w ≡ true) → has_word (y ∷ ys) w ≡ true
    go true z f = or_right (bytes_eq y w) (has_word ys w) (f z)
    go false z f = elim (or_cases (bytes_eq y w) (has_word (without xs ys) w) z) [
      | inl q ↦ or_left (bytes_eq y w) (has_word ys w) q
      | inr r ↦ or_right (bytes_eq y w) (has_word ys w) (f r)
    ]

without_distinct : (xs ys : List (List ℕ)) → distinct ys ≡ true → distinct (without xs ys) ≡ true
without_distinct xs [] d = refl
without_distinct xs (y ∷ ys) d = go (has_word xs y) (without_distinct xs ys p.1)
  where
    p : (not (has_word ys y) ≡ true) × (distinct ys ≡ true)
    p = and_parts (not (has_word ys y)) (distinct ys) d

    go : (b : Bool) → distinct (without xs ys) ≡ true → distinct (if not b then y ∷ without xs ys else without xs ys) ≡ true
    go true z = z
    go false z = and_from (not (has_word (without xs ys) y)) (distinct (without xs ys)) (ap not (false_from_ne_true (has_word (without xs ys) y) (λ k. both_ways (has_word ys y) (not-true (has_word ys y) p.0) (without_has xs ys y k)))) z

pub once_law : (ss : List Statement) (m : Model) → first_fault_of_lines checks [] ss ≡ None → Say ss m.statements → DefinedOnce (alone m)
once_law ss m e p =
    let n : List models.Statement = m.statements in
    let inputs = once_kind kinds.Inputs [] ss n refl e p in
    let clocks = once_kind kinds.Clock [] ss n refl e p in
    let latches = once_kind kinds.Latch [] ss n refl e p in
    let tables = once_kind kinds.Names [] ss n refl e p in
    let i = of_kind kinds.Inputs n in
    let k = of_kind kinds.Clock n in
    let c = without i k in
    let l = of_kind kinds.Latch n in
    let t = of_kind kinds.Names n in
    let il = apart_kinds kinds.Inputs kinds.Latch [] ss n refl refl refl refl e p in
    let cl = apart_kinds kinds.Clock kinds.Latch [] ss n refl refl refl refl e p in
    let it = apart_kinds kinds.Inputs kinds.Names [] ss n refl refl refl refl e p in
    let ct = apart_kinds kinds.Clock kinds.Names [] ss n refl refl refl refl e p in
    let lt = apart_kinds kinds.Latch kinds.Names [] ss n refl refl refl refl e p in
    let cls : distinct (c ++ l) ≡ true = distinct_append c l (without_distinct i k clocks) latches (λ w a b. cl w (without_has i k w a) b) in
    let srcs : distinct (i ++ (c ++ l)) ≡ true = distinct_append i (c ++ l) inputs cls (λ w a b. elim (or_cases (has_word c w) (has_word l w) (sym (has_word-append c l w) ∙ b)) [
      | inl q ↦ without_apart i k w a q
      | inr q ↦ il w a q
    ]) in
    record {
      clocks = clocks;
      all = distinct_append (i ++ (c ++ l)) t srcs tables (λ w a b. elim (or_cases (has_word i w) (has_word (c ++ l) w) (sym (has_word-append i (c ++ l) w) ∙ a)) [
        | inl q ↦ it w q b
        | inr q ↦ elim (or_cases (has_word c w) (has_word l w) (sym (has_word-append c l w) ∙ q)) [
          | inl r ↦ ct w (without_has i k w r) b
          | inr r ↦ lt w r b
        ]
      ]);
    }
