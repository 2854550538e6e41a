-- The literals of signals have the values that the LUTs give.
use Rattle.std.proofs.Common.{◌≡◌, ℕ, zero, suc, ◌+◌, ◌-◌, ◌*◌, ◌%◌, ◌<◌, ◌≤◌, nat_eq, not, if◌then◌else◌, Bool, true, false, All, List, [], ◌∷◌, length, map, get_or, refl, sym, ap, ap₂, ◌∙◌, subst, inl, inr, arith, eq-eqb}
use Rattle.std.proofs.lemmas.Bool.{both_ways, cases_Bool, cond-true, cond-false, eqb-true, eqb-false}
use Rattle.std.proofs.lemmas.List.{length-drop, length-map, get_or-map}
use Rattle.std.proofs.lemmas.List.Elements.{All-head, All-tail}
use Rattle.syn_rows.specs.declared.Lit.{Lit}
use Rattle.syn_rows.specs.declared.Row.{Row}
use Rattle.syn_rows.specs.Joining.{complement, lit_of}
use Rattle.syn_rows.specs.Rows.{node_of}
use Rattle.syn_rows.specs.Values.{given_by, lit_value, value_in, values_of, rows_function}
use Rattle.syn_rows.proofs.JoinLaws.{complement_node, complement_value}
use Rattle.syn_netlist.specs.Words.{distinct}
use Rattle.syn_netlist.specs.Meaning.{SameFromFunction}
use Rattle.syn_netlist.specs.Lists.{Frame, Netlist, sources}
use Rattle.syn_netlist.specs.Values.{HasFunction}
use Rattle.syn_network.specs.GraphShape.{GraphHasFunction}
use Rattle.syn_network.specs.GraphShape as shape
use Rattle.syn_network.specs.NamedGraphs.{IsNamedGraph}
use Rattle.syn_network.specs.NamedLutNets.{IsNamedLutNet}
use Rattle.syn_network.proofs.LutMeaning.{has_equal_function, lut_network_has_function}
use Rattle.syn_graph.specs.Graphs.{SourcesStay}
use Rattle.syn_hashed.specs.Hashed.{IsHashed, lit_at}
use Rattle.syn_network.specs.Spelling.{network, NetworkOfGraph, NetworkSpells}
use Rattle.syn_hashed.specs.Growing.{value_by}
use Rattle.syn_lutnet.specs.LutData as spelled
use Rattle.syn_lutnet.specs.LutData.{fold_luts, lut_value, luts_function, net_gates, signal_values, none_exceeds}
use Rattle.syn_network.specs.LutShape.{LutsHaveFunction}
use Rattle.syn_network.specs.LutSpelling.{lut_network, NetworkOfLuts, NetworkSpellsLuts}
use Rattle.syn_lutnet.specs.declared.luts.Lut.{Lut}
use Rattle.syn_build.specs.GraphOfLuts.{IsGraphOfLuts}
use Rattle.syn_lut_rows.specs.LutLiterals.{AllThere, plain_literals}
use Rattle.syn_lut_rows.proofs.Literals.{first_values, literal_with}
use Rattle.syn_build.specs.LutLiterals.{signed_by}

pub choose_sign : (r : ℕ) (b : Bool) (x y : Lit) → r < 2 → (b ≡ true → r ≡ 1) → (r ≡ 1 → b ≡ true) → (if not b then x else y) ≡ (if nat_eq r 0 then x else y)
choose_sign zero true x y lt f g = absurd (omega (arith, f refl))
choose_sign zero false x y lt f g = refl
choose_sign (suc zero) true x y lt f g = refl
choose_sign (suc zero) false x y lt f g = absurd (both_ways false refl (g refl))
choose_sign (suc (suc r)) b x y lt f g = absurd (omega (arith, lt))

pub sign_node : (r : ℕ) (l : Lit) → node_of (if nat_eq r 0 then l else complement l) ≡ node_of l
sign_node r l = elim (cases_Bool (nat_eq r 0)) [
  | inl e ↦ ap node_of (cond-true (nat_eq r 0) l (complement l) e)
  | inr e ↦ ap node_of (cond-false (nat_eq r 0) l (complement l) e) ∙ complement_node l
]

-- observed literals

signed_value : (v : ℕ → Bool) (signals : List Lit) (l : Lit) → node_of l < length signals → lit_value v (signed_by signals l) ≡ lit_value (λ n. get_or (map (lit_value v) signals) n false) l
signed_value v signals l lt =
    let at : lit_value v (lit_at signals (node_of l)) ≡ get_or (map (lit_value v) signals) (node_of l) false = sym (get_or-map (lit_value v) signals (node_of l) (record { 0 = 0 }) false lt) in
    elim (cases_Bool (nat_eq (l.0 % 2) 0)) [
      | inl e ↦ ap (lit_value v) (cond-true (nat_eq (l.0 % 2) 0) (lit_at signals (node_of l)) (complement (lit_at signals (node_of l))) e) ∙ at
          ∙ sym (cond-true (nat_eq (l.0 % 2) 0) (get_or (map (lit_value v) signals) (node_of l) false) (not (get_or (map (lit_value v) signals) (node_of l) false)) e)
      | inr e ↦ ap (lit_value v) (cond-false (nat_eq (l.0 % 2) 0) (lit_at signals (node_of l)) (complement (lit_at signals (node_of l))) e) ∙ complement_value v (lit_at signals (node_of l)) ∙ ap not at
          ∙ sym (cond-false (nat_eq (l.0 % 2) 0) (get_or (map (lit_value v) signals) (node_of l) false) (not (get_or (map (lit_value v) signals) (node_of l) false)) e)
    ]

pub signed_values : (v : ℕ → Bool) (signals literals : List Lit) → All (λ l. node_of l < length signals) literals → map (lit_value v) (map (signed_by signals) literals) ≡ map (lit_value (λ n. get_or (map (lit_value v) signals) n false)) literals
signed_values v signals [] all = refl
signed_values v signals (l ∷ ls) all =
    ap₂ (λ (b : Bool) (bs : List Bool). b ∷ bs) (signed_value v signals l (All-head (λ m. node_of m < length signals) l ls all)) (signed_values v signals ls (All-tail (λ m. node_of m < length signals) l ls all))

-- The observed literals of a LUT net, by those of its signals.

pub signed_there : (rows : List Row) (signals literals : List Lit) → AllThere rows signals → All (λ l. node_of l < length signals) literals → AllThere rows (map (signed_by signals) literals)
signed_there rows signals literals there within i d lt =
    let inside : i < length literals = omega (arith, lt, length-map literals (signed_by signals)) in
    let plain = there (node_of (get_or literals i (record { 0 = 0 }))) (record { 0 = 0 }) (within i (record { 0 = 0 }) inside) in
    subst (λ l. node_of l < length rows) (sym (get_or-map (signed_by signals) literals i (record { 0 = 0 }) d inside))
    (omega (arith, plain, sign_node ((get_or literals i (record { 0 = 0 })).0 % 2) (lit_at signals (node_of (get_or literals i (record { 0 = 0 }))))))

complement_plain : (n : ℕ) → (complement (lit_of n)).0 ≡ 2 * n + 1
complement_plain n = cond-true (nat_eq (2 * n % 2) 0) (2 * n + 1) (2 * n - 1) (let even : 2 * n % 2 ≡ 0 = omega arith in eq-eqb (2 * n % 2) 0 even)

-- a literal of the constant or of a source stands for itself
pub signed_plain : (signals : List Lit) (l : Lit) → lit_at signals (node_of l) ≡ lit_of (node_of l) → signed_by signals l ≡ l
signed_plain signals l own = elim (cases_Bool (nat_eq (l.0 % 2) 0)) [
  | inl e ↦ cond-true (nat_eq (l.0 % 2) 0) (lit_at signals (node_of l)) (complement (lit_at signals (node_of l))) e ∙ own
      ∙ ap literal_with (let even = eqb-true (l.0 % 2) 0 e in let s : 2 * node_of l ≡ l.0 = omega (arith, even) in s)
  | inr e ↦ cond-false (nat_eq (l.0 % 2) 0) (lit_at signals (node_of l)) (complement (lit_at signals (node_of l))) e ∙ ap complement own
      ∙ ap literal_with (let odd = eqb-false (l.0 % 2) 0 e in let s : (complement (lit_of (node_of l))).0 ≡ l.0 = omega (arith, odd, complement_plain (node_of l)) in s)
]

pub signed_stay : (count : ℕ) (lits signals outs : List Lit) → ((i : ℕ) → i < count + 1 → lit_at signals i ≡ lit_of i) → outs ≡ map (signed_by signals) lits → SourcesStay count lits outs
signed_stay count lits signals outs own outs_are i l lt low at =
    ap (λ (ls : List Lit). lit_at ls i) outs_are ∙ get_or-map (signed_by signals) lits i (record { 0 = 0 }) (record { 0 = 0 }) lt ∙ ap (signed_by signals) at
    ∙ signed_plain signals l (own (node_of l) low)

-- the function of the rows is that of the LUTs
pub net_function : (bits : List Bool) (count : ℕ) (old new : List Row) (luts : List spelled.Lut) (lits signals after outs : List Lit) → IsHashed count old → length bits ≡ count → signals ≡ plain_literals (count + 1)
    → map (value_by (given_by bits) new) after ≡ fold_luts lut_value false (map (value_by (given_by bits) old) signals) luts → All (λ l. node_of l < length after) lits → outs ≡ map (signed_by after) lits
    → rows_function new outs bits ≡ luts_function luts lits bits
net_function bits count old new luts lits signals after outs hashed long signals_are values within outs_are =
    let whole : map (value_by (given_by bits) new) after ≡ signal_values bits luts =
    values ∙ ap (λ (vs : List Bool). fold_luts lut_value false vs luts) (ap (map (value_by (given_by bits) old)) signals_are ∙ first_values bits count old hashed long) in
    ap (map (value_by (given_by bits) new)) outs_are ∙ signed_values (value_in (values_of (given_by bits) new)) after lits within
    ∙ ap (λ (vs : List Bool). map (lit_value (value_in vs)) lits) whole

-- the netlist of the graph is the graph of the LUT net's
pub graph_of_luts : NetworkOfLuts → LutsHaveFunction → NetworkOfGraph → GraphHasFunction → SameFromFunction → (frame : Frame) (luts : List spelled.Lut) (lits : List Lit) (rows : List Row) (outs : List Lit) → distinct frame.clocks ≡ true → distinct (sources frame) ≡ true
    → IsNamedLutNet frame luts lits → (k : ℕ) → none_exceeds k luts ≡ true → IsNamedGraph frame rows outs → ((bits : List Bool) → length bits ≡ length (sources frame) → rows_function rows outs bits ≡ luts_function luts lits bits)
    → length rows ≤ length (sources frame) + 1 + net_gates luts → IsGraphOfLuts (lut_network frame luts lits) (network frame rows outs)
graph_of_luts of_luts luts_have of_graph graph_has same_meaning frame luts lits rows outs clocks once net k small graph same fewer = record {
  same = same_meaning n m (luts_function luts lits) refl (lut_network_has_function of_luts luts_have frame luts lits clocks once net k small) (has_equal_function m (luts_function luts lits) (rows_function rows outs) same own);
  ordered = s.ordered;
  shape = s.shape;
  fewer = omega (arith, s.ands, length-drop (length (sources frame) + 1) rows, fewer, l.gates);
}
  where
    n : Netlist
    n = lut_network frame luts lits

    m : Netlist
    m = network frame rows outs

    l : NetworkSpellsLuts frame luts lits
    l = of_luts frame luts lits clocks once net

    s : NetworkSpells frame rows outs
    s = of_graph frame rows outs clocks once graph

    own : HasFunction m (rows_function rows outs)
    own = subst (λ (ls : List Lit). HasFunction m (rows_function rows ls)) s.same_lits (subst (λ (rs : List Row). HasFunction m (rows_function rs (shape.observed_of m))) s.same_rows (graph_has m s.shape s.ordered).1)
