-- Rows made again: literals that stand for old nodes, and plans over them, have the old values.
use Rattle.std.proofs.Common.{◌≡◌, ◌≢◌, ◌-◌, Result, Ok, Err, IfOk, OnOk, ℕ, zero, suc, ◌+◌, ◌%◌, ◌<◌, ◌&&◌, nat_eq, not, Bool, true, false, All, List, [], ◌∷◌, ◌++◌, length, get_or, map, refl, sym, ap, ap₂, ◌∙◌, subst, arith, inl, inr}
use Rattle.std.proofs.lemmas.Bool.{cases_Bool, cases_lt, cond-true, cond-false, cond_both, eq-eqb, eqb-true, eqb-false}
use Rattle.std.proofs.lemmas.List.{get_or_append_left, get_or_push, get_or_past, get_or-map, length_push, length-map, length-append, map-append}
use Rattle.std.proofs.lemmas.List.Elements.{All-head, All-push, All-tail}
use Rattle.syn_rows.specs.declared.Lit.{Lit}
use Rattle.syn_rows.specs.declared.Row.{Row}
use Rattle.syn_rows.specs.declared.TheConstants.{NODE_LIMIT}
use Rattle.syn_rows.specs.declared.Row.TheVariants.{Free, Source, And, Alias}
use Rattle.syn_rows.specs.Rows.{node_of, row_at, AllRefs, InOrder}
use Rattle.syn_rows.specs.Reach.{is_and}
use Rattle.syn_rows.specs.Joining.{complement, constant, lit_of}
use Rattle.syn_rows.specs.Values.{given_by, lit_value, row_value, rows_function, value_in, values_of}
use Rattle.syn_rows.proofs.Folds.{one_valuation_is, values_step}
use Rattle.syn_rows.proofs.JoinLaws.{complement_node, complement_value, plain_value, same_lit}
use Rattle.syn_hashed.specs.Hashed.{IsHashed, is_gate}
use Rattle.syn_hashed.specs.Growing.{Extends, IsAnd, KeepsValues, value_by}
use Rattle.syn_hashed.proofs.Orders.{hashed_in_order}
use Rattle.syn_hashed.specs.Compacting.{IsCompaction}
use Rattle.syn_graph.specs.declared.Graph.{Graph}
use Rattle.syn_graph.specs.Graphs as graphs
use Rattle.syn_graph.specs.Relations.{SameFunction}
use Rattle.syn_plan.specs.Gates.{literal_value, values_after}
use Rattle.syn_plan.specs.Plans.{plan_truth}
use Rattle.syn_gain.specs.Leaves.{are_below}
use Rattle.syn_gain.specs.declared.proposals.Proposal.{Proposal}
use Rattle.syn_gain.specs.Placing.{each_below}
use Rattle.syn_gain.specs.Proposals.{replacement}
use Rattle.syn_gain.proofs.Bounds.{below_each, leaf_in}
use Rattle.syn_apply.specs.Applied.{leaves_by}
use Rattle.syn_apply.specs.Remaking.{AllStand, IsGrown, SourcesStay, Stands, moved}
use Rattle.syn_apply.specs.Sound.{IsSoundBy}
use Rattle.syn_apply.proofs.Keeping.{plan_is_root}

-- from facts of a result to others

pub OnOk-of : {T E : Type 0} {P : Type 0} (r : Result T E) → P → OnOk r P
OnOk-of (Ok x) h = h
OnOk-of (Err e) h = tt

pub IfOk-map : {T E : Type 0} {P Q : T → Type 0} (r : Result T E) → ((x : T) → P x → Q x) → IfOk r P → IfOk r Q
IfOk-map (Ok x) f h = f x h
IfOk-map (Err e) f h = h

pub both_ok : {T E : Type 0} {P Q S : T → Type 0} (r : Result T E) → ((x : T) → P x → Q x → S x) → IfOk r P → IfOk r Q → IfOk r S
both_ok (Ok x) f p q = f x p q
both_ok (Err e) f p q = p

pub OnOk-map : {T E : Type 0} {P Q : Type 0} (r : Result T E) → (P → Q) → OnOk r P → OnOk r Q
OnOk-map (Ok x) f h = f h
OnOk-map (Err e) f h = h

pub on_and_if : {T E : Type 0} {P : Type 0} {Q S : T → Type 0} (r : Result T E) → ((x : T) → P → Q x → S x) → OnOk r P → IfOk r Q → IfOk r S
on_and_if (Ok x) f p q = f x p q
on_and_if (Err e) f p q = q

-- rows that grow

pub grown_extends : (old new : List Row) → Extends old new → KeepsValues old new → length new < NODE_LIMIT → IsGrown old new
grown_extends old new e kept few = record {
  longer = (let same = ap length e.is in let long = length-append old e.more in omega arith);
  kept = kept;
  few = λ _. few;
}

-- literals that stand for nodes

stand_on : (rows old new : List Row) (n : ℕ) (l : Lit) → IsGrown old new → Stands rows old n l → Stands rows new n l
stand_on rows old new n l g s = record {
  there = omega (arith, s.there, g.longer);
  value = λ given zero. g.kept given l s.there ∙ s.value given zero;
}

-- one node more
pub all_stand_more : (rows old new : List Row) (literals : List Lit) (l : Lit) → IsGrown old new → AllStand rows old literals → Stands rows new (length literals) l → AllStand rows new (literals ++ l ∷ [])
all_stand_more rows old new literals l g all here n lt = elim (cases_lt n (length literals)) [
  | inl low ↦ subst (Stands rows new n) (sym (get_or_append_left literals (l ∷ []) constant n low)) (stand_on rows old new n (get_or literals n constant) g (all n low))
  | inr ge ↦
      let same : length literals ≡ n = omega (arith, length_push literals l) in
      subst (λ k. Stands rows new k (get_or (literals ++ l ∷ []) k constant)) same
      (subst (Stands rows new (length literals)) (sym (get_or_push literals l constant (length literals) refl)) here)
]

pub sources_stay_more : (count : ℕ) (literals : List Lit) (l : Lit) → SourcesStay count literals → (length literals < count + 1 → l ≡ lit_of (length literals)) → SourcesStay count (literals ++ l ∷ [])
sources_stay_more count literals l stay here n front lt = elim (cases_lt n (length literals)) [
  | inl low ↦ get_or_append_left literals (l ∷ []) constant n low ∙ stay n front low
  | inr ge ↦
      let same : length literals ≡ n = omega (arith, length_push literals l) in
      get_or_push literals l constant n same ∙ here (omega arith) ∙ ap lit_of same
]

moved_there : (rows new : List Row) (literals : List Lit) (l : Lit) → AllStand rows new literals → node_of l < length literals → node_of (moved literals l) < length new
moved_there rows new literals l all lt =
    cond_both (nat_eq (l.0 % 2) 0) (get_or literals (node_of l) constant) (complement (get_or literals (node_of l) constant)) (λ (t : Lit). node_of t < length new)
    (λ _. (all (node_of l) lt).there)
    (λ _. subst (λ (k : ℕ). k < length new) (sym (complement_node (get_or literals (node_of l) constant))) (all (node_of l) lt).there)

-- what stands for a literal has its value
moved_value : (rows new : List Row) (literals : List Lit) (l : Lit) → AllStand rows new literals → node_of l < length literals → (given : ℕ → Bool) → given 0 ≡ false
    → value_by given new (moved literals l) ≡ lit_value (value_in (values_of given rows)) l
moved_value rows new literals l all lt given at_0 = elim (cases_Bool (nat_eq (l.0 % 2) 0)) [
  | inl t ↦
      ap (lit_value w) (cond-true (nat_eq (l.0 % 2) 0) (get_or literals (node_of l) constant) (complement (get_or literals (node_of l) constant)) t)
      ∙ (all (node_of l) lt).value given at_0
      ∙ sym (cond-true (nat_eq (l.0 % 2) 0) (v (node_of l)) (not (v (node_of l))) t)
  | inr f ↦
      ap (lit_value w) (cond-false (nat_eq (l.0 % 2) 0) (get_or literals (node_of l) constant) (complement (get_or literals (node_of l) constant)) f)
      ∙ complement_value w (get_or literals (node_of l) constant) ∙ ap not ((all (node_of l) lt).value given at_0)
      ∙ sym (cond-false (nat_eq (l.0 % 2) 0) (v (node_of l)) (not (v (node_of l))) f)
]
  where
    v : ℕ → Bool
    v = value_in (values_of given rows)

    w : ℕ → Bool
    w = value_in (values_of given new)

fan_ins_before : (n : ℕ) (row : Row) (a b : Lit) → row ≡ And a b → AllRefs (λ m. m < n) row → (node_of a < n) × (node_of b < n)
fan_ins_before n row a b e refs = subst (AllRefs (λ m. m < n)) e refs

-- the fan-ins of an AND have literals
pub fan_ins_there : (count : ℕ) (rows new : List Row) (literals : List Lit) (n : ℕ) (a b : Lit) → IsHashed count rows → row_at rows n ≡ And a b → n ≡ length literals → AllStand rows new literals
    → (node_of (moved literals a) < length new) × (node_of (moved literals b) < length new)
fan_ins_there count rows new literals n a b h row at all =
    let before = fan_ins_before n (row_at rows n) a b row (hashed_in_order count rows h n) in
    (moved_there rows new literals a all (omega (arith, before.0)), moved_there rows new literals b all (omega (arith, before.1)))

and_inside : (rows : List Row) (n : ℕ) (a b : Lit) → row_at rows n ≡ And a b → n < length rows
and_inside rows n a b row = elim (cases_lt n (length rows)) [
  | inl lt ↦ lt
  | inr ge ↦ absurd (cc (row, get_or_past rows n Free ge))
]

pub joined_stands : (count : ℕ) (rows old new : List Row) (literals : List Lit) (n : ℕ) (a b l : Lit) → IsHashed count rows → row_at rows n ≡ And a b → n ≡ length literals → AllStand rows old literals
    → node_of l < length new → IsAnd old (moved literals a) (moved literals b) new l → Stands rows new n l
joined_stands count rows old new literals n a b l h row at all there is = record { there = there; value = value }
  where
    order : InOrder rows
    order = hashed_in_order count rows h

    before : (node_of a < n) × (node_of b < n)
    before = fan_ins_before n (row_at rows n) a b row (order n)

    value : (given : ℕ → Bool) → given 0 ≡ false → value_by given new l ≡ value_in (values_of given rows) n
    value given at_0 =
        is given at_0
        ∙ ap₂ (λ x y. x && y) (moved_value rows old literals a all (omega (arith, before.0)) given at_0) (moved_value rows old literals b all (omega (arith, before.1)) given at_0)
        ∙ sym (values_step rows order given n (and_inside rows n a b row) ∙ ap (row_value given (value_in (values_of given rows)) n) row)

-- a source stands for itself

front_value : (count : ℕ) (rows : List Row) (n : ℕ) → IsHashed count rows → n < count + 1 → (given : ℕ → Bool) → value_in (values_of given rows) n ≡ given n
front_value count rows n h lt given =
    values_step rows (hashed_in_order count rows h) given n (omega (arith, h.there)) ∙ ap (row_value given (value_in (values_of given rows)) n) (h.front n lt)

source_stands : (count : ℕ) (rows new : List Row) (n : ℕ) → IsHashed count rows → IsHashed count new → n < count + 1 → Stands rows new n (lit_of n)
source_stands count rows new n h k lt = record {
  there = omega (arith, k.there);
  value = λ given at_0. plain_value (value_in (values_of given new)) n ∙ front_value count new n k lt given ∙ sym (front_value count rows n h lt given);
}

gate_is_and : (n : ℕ) (row : Row) → is_gate n row ≡ true → is_and row ≡ true
gate_is_and n Free h = absurd (cc)
gate_is_and n Source h = absurd (cc)
gate_is_and n (And a b) h = refl
gate_is_and n (Alias a) h = absurd (cc)

-- what is no AND is node 0 or a source
front_is : (count : ℕ) (rows : List Row) (n : ℕ) → IsHashed count rows → n < length rows → is_and (row_at rows n) ≡ false → n < count + 1
front_is count rows n h inside closed = elim (cases_lt n (count + 1)) [
  | inl lt ↦ lt
  | inr ge ↦ absurd (cc (closed, gate_is_and n (row_at rows n) (h.gates n (omega arith) inside)))
]

pub open_stands : (count : ℕ) (rows new : List Row) (n : ℕ) (l : Lit) → IsHashed count rows → IsHashed count new → n < length rows → is_and (row_at rows n) ≡ false → l ≡ lit_of n → Stands rows new n l
open_stands count rows new n l h k inside closed is = subst (Stands rows new n) (sym is) (source_stands count rows new n h k (front_is count rows n h inside closed))

-- plans

leaf_value_is : (rows new : List Row) (literals : List Lit) (leaves : List ℕ) → AllStand rows new literals → (count : ℕ) → IsHashed count rows → 0 < length literals
    → ((i : ℕ) → i < length leaves → get_or leaves i 0 < length literals) → (given : ℕ → Bool) → given 0 ≡ false
    → (i : ℕ) → value_by given new (get_or literals (get_or leaves i 0) constant) ≡ get_or (map (value_in (values_of given rows)) leaves) i false
leaf_value_is rows new literals leaves all count h some below given at_0 i = elim (cases_lt i (length leaves)) [
  | inl lt ↦ (all (get_or leaves i 0) (below i lt)).value given at_0 ∙ sym (get_or-map (value_in (values_of given rows)) leaves i 0 false lt)
  | inr ge ↦
      ap (λ m. value_by given new (get_or literals m constant)) (get_or_past leaves i 0 ge)
      ∙ (all 0 some).value given at_0 ∙ front_value count rows 0 h (omega arith) given ∙ at_0
      ∙ sym (get_or_past (map (value_in (values_of given rows)) leaves) i false (let long = length-map leaves (value_in (values_of given rows)) in omega arith))
]

pub length_each : (n : ℕ) (f : ℕ → Lit) → length (each_below n f) ≡ n
length_each zero f = refl
length_each (suc n) f = let rest = length_each n f in omega (arith, rest, length_push (each_below n f) (f n))

each_there : (new : List Row) (f : ℕ → Lit) (n : ℕ) → ((i : ℕ) → node_of (f i) < length new) → All (λ l. node_of l < length new) (each_below n f)
each_there new f zero there = λ i d lt. absurd (omega (arith, lt))
each_there new f (suc n) there = All-push (λ l. node_of l < length new) (each_below n f) (f n) (each_there new f n there) (there n)

each_values : (g : Lit → Bool) (f : ℕ → Lit) (bits : ℕ → Bool) (n : ℕ) → ((i : ℕ) → g (f i) ≡ bits i) → map g (each_below n f) ≡ each_below n bits
each_values g f bits zero same = refl
each_values g f bits (suc n) same =
    map-append g (each_below n f) (f n ∷ []) ∙ ap₂ (λ (xs ys : List Bool). xs ++ ys) (each_values g f bits n same) (ap (λ (b : Bool). b ∷ []) (same n))

-- the leaves of a proposal for the next node have literals
leaves_below : (literals : List Lit) (p : Proposal) → p.root ≡ length literals → (i : ℕ) → i < length p.leaves.items → get_or p.leaves.items i 0 < length literals
leaves_below literals p at = below_each (length literals) p.leaves.items (subst (λ (k : ℕ). are_below k p.leaves.items ≡ true) at p.below_root)

some_before : (literals : List Lit) (p : Proposal) → p.root ≡ length literals → 0 < length literals
some_before literals p at = omega (arith, p.root_is_no_constant, at)

pub leaves_there : (rows new : List Row) (literals : List Lit) (p : Proposal) → AllStand rows new literals → p.root ≡ length literals → All (λ l. node_of l < length new) (leaves_by literals p.plan.leaves p.leaves.items)
leaves_there rows new literals p all at =
    each_there new (λ i. get_or literals (get_or p.leaves.items i 0) constant) p.plan.leaves
    (λ i. (all (get_or p.leaves.items i 0) (leaf_in (length literals) p.leaves.items (some_before literals p at) (leaves_below literals p at) i)).there)

-- the literal of a sound proposal's plan stands for its root
pub planned_stands : (count : ℕ) (rows old new : List Row) (literals : List Lit) (p : Proposal) (l : Lit) → IsHashed count rows → AllStand rows old literals → p.root ≡ length literals → IsSoundBy rows (replacement p)
    → node_of l < length new → ((given : ℕ → Bool) → given 0 ≡ false → value_by given new l ≡ plan_truth p.plan (map (value_by given old) (leaves_by literals p.plan.leaves p.leaves.items))) → Stands rows new p.root l
unfolding plan_truth
planned_stands count rows old new literals p l h all at sound there value = record {
  there = there;
  value = λ given at_0.
      value given at_0
      ∙ ap (λ (xs : List Bool). literal_value (values_after (false ∷ xs) p.plan.gates.items) p.plan.out)
      (each_values (value_by given old) (λ i. get_or literals (get_or p.leaves.items i 0) constant) (λ i. get_or (map (value_in (values_of given rows)) p.leaves.items) i false) p.plan.leaves
      (leaf_value_is rows old literals p.leaves.items all count h (some_before literals p at) (leaves_below literals p at) given at_0))
      ∙ plan_is_root rows (replacement p) (value_in (values_of given rows)) sound (one_valuation_is rows given (hashed_in_order count rows h) at_0).0;
}

-- all together

pub moved_function : (rows new : List Row) (literals lits : List Lit) → AllStand rows new literals → length literals ≡ length rows → All (λ l. node_of l < length rows) lits
    → (bits : List Bool) → rows_function new (map (moved literals) lits) bits ≡ rows_function rows lits bits
moved_function rows new literals [] all long within bits = refl
moved_function rows new literals (l ∷ ls) all long within bits =
    ap₂ (λ b bs. b ∷ bs)
    (moved_value rows new literals l all (let lt = All-head (λ x. node_of x < length rows) l ls within in omega arith) (given_by bits) refl)
    (moved_function rows new literals ls all long (All-tail (λ x. node_of x < length rows) l ls within) bits)

pub moved_within : (rows new : List Row) (literals lits : List Lit) → AllStand rows new literals → length literals ≡ length rows → All (λ l. node_of l < length rows) lits
    → All (λ l. node_of l < length new) (map (moved literals) lits)
moved_within rows new literals lits all long within i d lt =
    let low : i < length lits = let same = length-map lits (moved literals) in omega arith in
    let l = get_or lits i constant in
    let inside : node_of l < length rows = within i constant low in
    subst (λ (x : Lit). node_of x < length new) (sym (get_or-map (moved literals) lits i constant d low)) (moved_there rows new literals l all (omega arith))

literal_moves : (count : ℕ) (literals : List Lit) (l : Lit) → SourcesStay count literals → node_of l < count + 1 → count < length literals → moved literals l ≡ l
literal_moves count literals l stay low long =
    cond_both (nat_eq (l.0 % 2) 0) own (complement own) (λ x. x ≡ l)
    (λ even. is ∙ (let zero : l.0 % 2 ≡ 0 = eqb-true (l.0 % 2) 0 even in same_lit (lit_of (node_of l)) l (omega arith)))
    (λ odd. ap complement is ∙ (let one : l.0 % 2 ≢ 0 = eqb-false (l.0 % 2) 0 odd in same_lit (complement (lit_of (node_of l))) l (turned one)))
  where
    own : Lit
    own = get_or literals (node_of l) constant

    is : own ≡ lit_of (node_of l)
    is = stay (node_of l) low (omega arith)

    turned : l.0 % 2 ≢ 0 → (complement (lit_of (node_of l))).0 ≡ l.0
    turned one =
        cond_both (nat_eq ((lit_of (node_of l)).0 % 2) 0) ((lit_of (node_of l)).0 + 1) ((lit_of (node_of l)).0 - 1) (λ (k : ℕ). k ≡ l.0)
        (λ even. omega (arith, one))
        (λ odd. absurd (eqb-false ((lit_of (node_of l)).0 % 2) 0 odd (omega arith)))

-- literals of sources stay
pub moved_stay : (count : ℕ) (lits literals : List Lit) → SourcesStay count literals → count < length literals → graphs.SourcesStay count lits (map (moved literals) lits)
moved_stay count lits literals stay long i l lt low at =
    get_or-map (moved literals) lits i constant constant lt ∙ ap (moved literals) at ∙ literal_moves count literals l stay low long

-- the graph of the rows made again, compacted, has the graph's function
pub remade_same : (was : Graph) (new : List Row) (literals : List Lit) → AllStand was.rows new literals → SourcesStay was.source_count literals → length literals ≡ length was.rows
    → (now : Graph) → now.source_count ≡ was.source_count → IsCompaction was.source_count new (map (moved literals) was.observed) now.rows now.observed → SameFunction was now
remade_same was new literals standing stay long now sources c = record {
  sources = sources;
  count = c.same_count ∙ length-map was.observed (moved literals);
  stay = λ i l lt low at.
      c.sources_stay i l (omega (arith, lt, length-map was.observed (moved literals))) low
      (moved_stay was.source_count was.observed literals stay (omega (arith, long, was.graph.hashed.there)) i l lt low at);
  values = λ bits. c.same_function bits ∙ moved_function was.rows new literals was.observed standing long was.graph.within bits;
}
