-- The literals of LUTs have the values that these give.
use Rattle.std.proofs.Common.{◌≡◌, ℕ, zero, suc, ◌+◌, ◌-◌, ◌*◌, ◌/◌, ◌%◌, ◌<◌, ◌≤◌, nat_eq, nat_le, nat_lt, not, if◌then◌else◌, Bool, true, false, List, [], ◌∷◌, ◌++◌, length, map, get_or, drop, refl, sym, ap, ap₂, ◌∙◌, subst, arith, append_assoc}
use Rattle.std.specs.List.{list_all}
use Rattle.std.proofs.lemmas.Bool.{and_parts, and_from, ltb-true}
use Rattle.std.proofs.lemmas.List.{length-map, get_or-map, map-append}
use Rattle.std.proofs.lemmas.List.Elements.{All-cons}
use Rattle.syn_rows.specs.declared.Lit.{Lit}
use Rattle.syn_rows.specs.declared.Row.{Row}
use Rattle.syn_rows.specs.Joining.{lit_of}
use Rattle.syn_rows.specs.Rows.{node_of}
use Rattle.syn_rows.specs.Values.{given_by, value_in, values_of}
use Rattle.syn_plan.specs.declared.plan.Plan.{Plan}
use Rattle.syn_plan.specs.Plans.{plan_truth}
use Rattle.syn_truth.specs.declared.Truth.{Truth}
use Rattle.syn_truth.specs.Truth.{AtEach, value_of}
use Rattle.syn_hashed.specs.Hashed.{IsHashed, lit_at}
use Rattle.syn_lists.specs.Numbers.{numbers_from}
use Rattle.syn_hashed.specs.Growing.{Extends, value_by}
use Rattle.syn_hashed.proofs.Rising.{source_value}
use Rattle.syn_lutnet.specs.LutData as spelled
use Rattle.syn_lutnet.specs.LutData.{fold_luts, lut_at, lut_value, ones_of, ones_value, is_input, IsLutNet}
use Rattle.syn_lutnet.proofs.LutParts.{lut_parts}
use Rattle.syn_lutnet.proofs.Ones.{ones_give}
use Rattle.syn_lutnet.specs.declared.luts.Lut.{Lut}
use Rattle.syn_lutnet.specs.Data.{lut_data, luts_data}
use Rattle.syn_lutnet.proofs.LutDepths.{luts_next}
use Rattle.syn_placing.proofs.Placed.{values_kept}
use Rattle.syn_lut_rows.specs.LutLiterals.{AllThere, reads_below, ReadEarlier, plain_literals}

-- the signals before a LUT, and those that it reads

pub inputs_values : (f : Lit → Bool) (signals : List Lit) (inputs : List ℕ) → list_all (reads_below (length signals)) inputs ≡ true → map f (map (lit_at signals) inputs) ≡ map (λ n. get_or (map f signals) n false) inputs
inputs_values f signals [] h = refl
inputs_values f signals (i ∷ is) h =
    let parts = and_parts (reads_below (length signals) i) (list_all (reads_below (length signals)) is) h in
    ap₂ (λ (b : Bool) (bs : List Bool). b ∷ bs) (sym (get_or-map f signals i (record { 0 = 0 }) false (ltb-true i (length signals) parts.0))) (inputs_values f signals is parts.1)

pub inputs_there : (rows : List Row) (signals : List Lit) (inputs : List ℕ) → AllThere rows signals → list_all (reads_below (length signals)) inputs ≡ true → AllThere rows (map (lit_at signals) inputs)
inputs_there rows signals inputs there h i d lt =
    let inside = sym (length-map inputs (lit_at signals)) in
    subst (λ l. node_of l < length rows) (sym (get_or-map (lit_at signals) inputs i 0 d (omega (arith, lt, inside)))) (there (get_or inputs i 0) (record { 0 = 0 }) (at inputs i h (omega (arith, lt, inside))))
  where
    at : (is : List ℕ) (j : ℕ) → list_all (reads_below (length signals)) is ≡ true → j < length is → get_or is j 0 < length signals
    at [] j h lt = absurd (omega (arith, lt))
    at (x ∷ xs) zero h lt = ltb-true x (length signals) (and_parts (reads_below (length signals) x) (list_all (reads_below (length signals)) xs) h).0
    at (x ∷ xs) (suc j) h lt = at xs j (and_parts (reads_below (length signals) x) (list_all (reads_below (length signals)) xs) h).1 (omega (arith, lt))

pub reads_here : (count : ℕ) (luts : List Lut) (i : ℕ) (l : Lut) → i < length luts → l ≡ get_or luts i l → ReadEarlier count (luts_data luts) → list_all (reads_below (count + i)) l.inputs.items ≡ true
reads_here count luts i l lt e h =
    subst (λ (x : spelled.Lut). list_all (reads_below (count + i)) x.inputs ≡ true) (get_or-map lut_data luts i l spelled.no_lut lt ∙ ap lut_data (sym e)) (h i (omega (arith, lt, length-map luts lut_data)))

-- the values of signals after one LUT more
pub signals_next : (given : ℕ → Bool) (old new : List Row) (signals after : List Lit) (literal : Lit) (luts : List Lut) (i : ℕ) (l : Lut) (all : List Bool) → Extends old new → AllThere old signals → after ≡ signals ++ literal ∷ []
    → list_all (reads_below (length signals)) l.inputs.items ≡ true → i < length luts → l ≡ get_or luts i l
    → value_by given new literal ≡ ones_value (ones_of l.truth) (map (value_by given old) (map (lit_at signals) l.inputs.items))
    → fold_luts lut_value false (map (value_by given old) signals) (luts_data (drop i luts)) ≡ all
    → fold_luts lut_value false (map (value_by given new) after) (luts_data (drop (i + 1) luts)) ≡ all
signals_next given old new signals after literal luts i l all grown there e reads lt is value h =
    let done : List Bool = map (value_by given old) signals in
    let here : value_by given new literal ≡ lut_value (λ n. get_or (map (value_by given old) signals) n false) (lut_data l) =
    value ∙ ap (ones_value (ones_of l.truth)) (inputs_values (value_by given old) signals l.inputs.items reads) in
    ap (λ (bs : List Bool). fold_luts lut_value false bs (luts_data (drop (i + 1) luts)))
    (ap (map (value_by given new)) e ∙ map-append (value_by given new) signals (literal ∷ []) ∙ ap₂ (λ (xs ys : List Bool). xs ++ ys) (values_kept given old new grown signals there) (ap (λ (b : Bool). b ∷ []) here))
    ∙ sym (ap (fold_luts lut_value false done) (luts_next luts i l lt is)) ∙ h

-- the sources' literals have the given values

source_values : (given : ℕ → Bool) (count : ℕ) (rows : List Row) → IsHashed count rows → (n k : ℕ) → n + k ≤ count + 1 → map (value_by given rows) (map lit_of (numbers_from n k)) ≡ map given (numbers_from n k)
source_values given count rows h n zero le = refl
source_values given count rows h n (suc k) le =
    ap₂ (λ (b : Bool) (bs : List Bool). b ∷ bs) (plain_value n ∙ source_value count rows h given n (omega (arith, le))) (source_values given count rows h (n + 1) k (omega (arith, le)))
  where
    plain_value : (n : ℕ) → value_by given rows (lit_of n) ≡ value_in (values_of given rows) n
    plain_value n =
        let even : 2 * n % 2 ≡ 0 = omega arith in
        let half : 2 * n / 2 ≡ n = omega arith in
        ap₂ (λ (r m : ℕ). if nat_eq r 0 then value_in (values_of given rows) m else not (value_in (values_of given rows) m)) even half

each_value : (bits : List Bool) (n : ℕ) (rest : List Bool) → ((i : ℕ) → get_or rest i false ≡ get_or bits (n + i) false) → map (λ m. get_or bits m false) (numbers_from n (length rest)) ≡ rest
each_value bits n [] h = refl
each_value bits n (b ∷ bs) h =
    ap₂ (λ (x : Bool) (xs : List Bool). x ∷ xs) (sym (h 0 ∙ ap (λ m. get_or bits m false) (let s : n + 0 ≡ n = omega arith in s)))
    (each_value bits (n + 1) bs (λ i. h (suc i) ∙ ap (λ m. get_or bits m false) (let s : n + suc i ≡ n + 1 + i = omega arith in s)))

pub first_values : (bits : List Bool) (count : ℕ) (rows : List Row) → IsHashed count rows → length bits ≡ count → map (value_by (given_by bits) rows) (plain_literals (count + 1)) ≡ false ∷ bits
first_values bits count rows h long =
    source_values (given_by bits) count rows h 0 (count + 1) (omega arith)
    ∙ ap (λ k. map (given_by bits) (numbers_from 0 k)) (let s : count + 1 ≡ length (false ∷ bits) = omega (arith, long) in s)
    ∙ each_value (false ∷ bits) 0 (false ∷ bits) (λ i. ap (λ m. get_or (false ∷ bits) m false) (let s : i ≡ 0 + i = omega arith in s))

pub plain_at : (n k i : ℕ) → i < k → lit_at (map lit_of (numbers_from n k)) i ≡ lit_of (n + i)
plain_at n zero i lt = absurd (omega (arith, lt))
plain_at n (suc k) zero lt = ap lit_of (let s : n ≡ n + 0 = omega arith in s)
plain_at n (suc k) (suc i) lt = plain_at (n + 1) k i (omega (arith, lt)) ∙ ap lit_of (let s : n + 1 + i ≡ n + suc i = omega arith in s)

pub plain_there : (rows : List Row) (n k : ℕ) → n + k ≤ length rows → AllThere rows (map lit_of (numbers_from n k))
plain_there rows n zero le = λ i d lt. absurd (omega (arith, lt))
plain_there rows n (suc k) le =
    let half : 2 * n / 2 ≡ n = omega arith in
    All-cons (λ l. node_of l < length rows) (lit_of n) (map lit_of (numbers_from (n + 1) k)) (omega (arith, half, le)) (plain_there rows (n + 1) k (omega (arith, le)))

-- one source more
abbrev pub literal_with : ℕ → Lit
literal_with k = record { 0 = k }

pub plain_next : (done after : List Lit) (l : Lit) (n count : ℕ) (all : List Lit) → n < count → after ≡ done ++ l ∷ [] → l.0 ≡ 2 * n
    → done ++ map lit_of (numbers_from n (count - n)) ≡ all → after ++ map lit_of (numbers_from (n + 1) (count - (n + 1))) ≡ all
plain_next done after l n count all lt e is h =
    let left : count - n ≡ suc (count - (n + 1)) = omega (arith, lt) in
    let rest : List Lit = map lit_of (numbers_from (n + 1) (count - (n + 1))) in
    let plain : l ≡ lit_of n = ap literal_with is in
    ap (λ (ls : List Lit). ls ++ rest) e ∙ append_assoc done (l ∷ []) rest ∙ ap (λ (x : Lit). done ++ x ∷ rest) plain
    ∙ ap (λ (k : ℕ). done ++ map lit_of (numbers_from n k)) (sym left) ∙ h

pub length-plain : (count : ℕ) → length (plain_literals count) ≡ count
length-plain count = length-map (numbers_from 0 count) lit_of ∙ go 0 count
  where
    go : (n k : ℕ) → length (numbers_from n k) ≡ k
    go n zero = refl
    go n (suc k) = ap suc (go (n + 1) k)

-- a LUT reads signals before its own
inputs_below : (n : ℕ) (is : List ℕ) → list_all (is_input n) is ≡ true → list_all (reads_below n) is ≡ true
inputs_below n [] h = refl
inputs_below n (i ∷ is) h =
    let parts = and_parts (is_input n i) (list_all (is_input n) is) h in
    and_from (reads_below n i) (list_all (reads_below n) is) (and_parts (nat_le 1 i) (nat_lt i n) parts.0).1 (inputs_below n is parts.1)

pub net_reads_earlier : (luts : List spelled.Lut) (lits : List Lit) (sources count : ℕ) → count ≡ sources + 1 → IsLutNet sources luts lits → ReadEarlier count luts
net_reads_earlier luts lits sources count e net j lt =
    subst (λ n. list_all (reads_below (n + j)) (lut_at luts j).inputs ≡ true) (sym e)
    (inputs_below (sources + 1 + j) (lut_at luts j).inputs (lut_parts (sources + 1 + j) (lut_at luts j) (net.luts_fit j lt)).inside)

-- the literal of a plan that computes a LUT's table has the LUT's value
pub lut_value_is : (given : ℕ → Bool) (old new : List Row) (t : Truth) (plan : Plan) (leaves : List Lit) (l : Lit) → AtEach t.vars (λ xs. plan_truth plan xs ≡ value_of t xs) → length leaves ≡ t.vars
    → value_by given new l ≡ plan_truth plan (map (value_by given old) leaves) → value_by given new l ≡ ones_value (ones_of t) (map (value_by given old) leaves)
lut_value_is given old new t plan leaves l computes long is =
    let many = length-map leaves (value_by given old) ∙ long in
    is ∙ computes (map (value_by given old) leaves) many ∙ sym ((ones_give t).values (map (value_by given old) leaves) many)
