-- LUTs that are placed with the literals of others have the same function, and are no deeper.
use Rattle.std.proofs.Common.{◌≡◌, ℕ, zero, suc, ◌+◌, ◌-◌, ◌<◌, ◌≤◌, Bool, false, All, List, [], ◌∷◌, map, length, get_or, refl, sym, ap, ap₂, ◌∙◌, subst, inl, inr, arith}
use Rattle.std.proofs.lemmas.Bool.{cases_lt}
use Rattle.syn_rows.specs.declared.Lit.{Lit}
use Rattle.syn_rows.specs.declared.Row.{Row}
use Rattle.syn_rows.specs.Joining.{lit_of}
use Rattle.syn_rows.specs.Rows.{node_of}
use Rattle.syn_rows.specs.Values.{given_by, lit_value, value_in, values_of}
use Rattle.syn_rows.proofs.Folds.{lit_value-same}
use Rattle.syn_sat.specs.declared.clauses.Clauses.{Clauses}
use Rattle.syn_hashed.specs.Growing.{value_by}
use Rattle.syn_hashed.specs.Hashed.{IsHashed, lit_at}
use Rattle.syn_hashed.proofs.Rising.{source_value}
use Rattle.syn_fraig.proofs.Asked.{plain_of}
use Rattle.syn_lutnet.specs.LutData.{Lut, IsLutNet, lut_at, lut_value, luts_function, net_depth, signal_values}
use Rattle.syn_lutnet.proofs.Folding.{In, luts_kept, map_below}
use Rattle.syn_absorb.specs.Reaching.{IsOpenNet}
use Rattle.syn_absorb.specs.Rebuilding.{FitsLuts, IsTrimming}
use Rattle.syn_absorb.proofs.Same.{value_local}
use Rattle.syn_absorb.proofs.Trimmed.{AllFit, inside_at, values_fit}
use Rattle.syn_mfs.specs.Placing.{ArePlaced, signal_by}
use Rattle.syn_mfs.specs.Replacing.{IsLater}
use Rattle.syn_mfs.proofs.Later.{no_wider_cost, no_wider_exceed}
use Rattle.syn_mfs.proofs.Placings.{placed_grown}

-- two valuations that fit LUTs and agree on what comes before agree on all signals
one_fit : (count : ℕ) (luts : List Lut) (v w : ℕ → Bool) → AllFit count luts → FitsLuts (count + 1) luts v → FitsLuts (count + 1) luts w → ((n : ℕ) → n < count + 1 → v n ≡ w n) → (b n : ℕ) → n < b → b ≤ count + 1 + length luts → v n ≡ w n
one_fit count luts v w fit fv fw same zero n lt le = absurd (omega (arith, lt))
one_fit count luts v w fit fv fw same (suc b) n lt le = elim (cases_lt n b) [
  | inl less ↦ one_fit count luts v w fit fv fw same b n less (omega (arith, le))
  | inr ge ↦ elim (cases_lt n (count + 1)) [
    | inl low ↦ same n low
    | inr high ↦
        let j : ℕ = n - (count + 1) in
        let at : n ≡ count + 1 + j = omega (arith, high) in
        let there : j < length luts = omega (arith, high, lt, le) in
        let inside : In n (lut_at luts j).inputs = subst (λ m. In m (lut_at luts j).inputs) (sym at) (inside_at count luts fit j there) in
        ap v at ∙ fv.each j there
        ∙ value_local v w (lut_at luts j) (map_below v w n (λ m less. one_fit count luts v w fit fv fw same b m (omega (arith, less, lt)) (omega (arith, le))) (lut_at luts j).inputs inside)
        ∙ sym (fw.each j there) ∙ ap w (sym at)
  ]
]

all_read : (v w : ℕ → Bool) (observed : List Lit) → All (λ l. v (node_of l) ≡ w (node_of l)) observed → map (lit_value v) observed ≡ map (lit_value w) observed
all_read v w [] all = refl
all_read v w (l ∷ ls) all =
    ap₂ (λ (y : Bool) (ys : List Bool). y ∷ ys) (lit_value-same v w l (all 0 l (omega arith))) (all_read v w ls (λ k d lt. all (suc k) d (omega (arith, lt))))

-- the values of signals are those of their literals
signals_read : (count : ℕ) (luts : List Lut) (rows : List Row) (lits : List Lit) → IsHashed count rows → ((n : ℕ) → n < count + 1 → lit_at lits n ≡ lit_of n) → ArePlaced (count + 1) luts rows lits → AllFit count luts
    → (bits : List Bool) → length bits ≡ count → (n : ℕ) → n < count + 1 + length luts → value_in (signal_values bits luts) n ≡ signal_by (given_by bits) rows lits n
signals_read count luts rows lits hashed own placed fit bits size n lt =
    one_fit count luts (value_in (signal_values bits luts)) (signal_by (given_by bits) rows lits) fit (values_fit count luts bits size fit) (placed.fits (given_by bits) refl) sources (count + 1 + length luts) n lt (omega arith)
  where
    sources : (n : ℕ) → n < count + 1 → value_in (signal_values bits luts) n ≡ signal_by (given_by bits) rows lits n
    sources n low =
        luts_kept lut_value false (false ∷ bits) luts n false (omega (arith, low, size))
        ∙ sym (ap (value_by (given_by bits) rows) (own n low) ∙ plain_of (value_in (values_of (given_by bits) rows)) n ∙ source_value count rows hashed (given_by bits) n low)

same_function : (count : ℕ) (luts now : List Lut) (rows : List Row) (lits observed : List Lit) → IsHashed count rows → ((n : ℕ) → n < count + 1 → lit_at lits n ≡ lit_of n) → ArePlaced (count + 1) luts rows lits → ArePlaced (count + 1) now rows lits
    → AllFit count luts → AllFit count now → length now ≡ length luts → All (λ l. node_of l < count + 1 + length luts) observed → (bits : List Bool) → length bits ≡ count → luts_function now observed bits ≡ luts_function luts observed bits
same_function count luts now rows lits observed hashed own placed placed_now fit fit_now long within bits size =
    all_read (value_in (signal_values bits now)) (value_in (signal_values bits luts)) observed
    (λ k d lt.
    let n : ℕ = node_of (get_or observed k d) in
    signals_read count now rows lits hashed own placed_now fit_now bits size n (omega (arith, within k d lt, long))
    ∙ sym (signals_read count luts rows lits hashed own placed fit bits size n (within k d lt)))

-- what a pass makes of a net

pub pass_open : (count : ℕ) (luts now : List Lut) (lits observed : List Lit) (old new : List Row) (clauses : Clauses) → IsLutNet count luts observed → IsLater (count + 1) lits luts old now new clauses → IsOpenNet count now observed
pass_open count luts now lits observed old new clauses net later = record {
  luts_fit = λ j lt. later.pass.fit j lt;
  within = λ k d lt. omega (arith, net.within k d lt, later.narrow.long);
}

pub pass_trims : (count : ℕ) (luts now : List Lut) (lits observed : List Lit) (old new : List Row) (clauses : Clauses) → IsLutNet count luts observed → 0 < length old → IsHashed count new → ((n : ℕ) → n < count + 1 → lit_at lits n ≡ lit_of n)
    → ArePlaced (count + 1) luts old lits → IsLater (count + 1) lits luts old now new clauses → net_depth count now ≤ net_depth count luts → IsTrimming count luts observed now observed
pass_trims count luts now lits observed old new clauses net some hashed own placed later depth = record {
  long = refl;
  stay = λ i l lt low e. e;
  values = same_function count luts now new lits observed hashed own (placed_grown (count + 1) luts old new lits some later.grows placed) later.pass.placed net.luts_fit (λ j lt. later.pass.fit j lt) later.narrow.long net.within;
  fewer = omega (arith, later.narrow.long);
  depth = depth;
  inputs = λ k h. no_wider_exceed k luts now later.narrow h;
  cheaper = λ cost rises. no_wider_cost cost rises luts now later.narrow;
}
