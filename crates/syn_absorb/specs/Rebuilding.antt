-- LUT nets that are made anew LUT by LUT: each signal becomes a literal of a new signal.
use Rattle.std.specs.Prelude.{◌≡◌, ◌⊎◌, ℕ, ◌+◌, ◌-◌, ◌*◌, ◌%◌, ◌^◌, ◌<◌, ◌≤◌, ◌==◌, nat_lt, if◌then◌else◌, Bool, true, false, All, Contains, List, [], ◌∷◌, ◌++◌, length, map, take}
use Rattle.std.specs.List.{list_all}
use Rattle.syn_rows.specs.declared.Lit.{Lit}
use Rattle.syn_rows.specs.Rows.{node_of}
use Rattle.syn_rows.specs.Values.{lit_value}
use Rattle.syn_hashed.specs.Hashed.{lit_at}
use Rattle.syn_graph.specs.Graphs.{SourcesStay}
use Rattle.syn_lutnet.specs.LutData.{Lut, greatest, is_lut, lut_at, lut_value, luts_function, net_depth, none_exceeds, rising}
use Rattle.syn_absorb.specs.Costs.{NeverFalls, cost_by}
use Rattle.syn_absorb.specs.Flips.{xor}
use Rattle.syn_absorb.specs.Needed.{AllDepend, ReadsNeeded}
use Rattle.syn_absorb.specs.Reaching.{IsOpenNet}

-- whether a literal is complemented
abbrev pub is_complement : Lit → Bool
is_complement l = l.0 % 2 == 1

-- the literal of a signal, or its complement
abbrev pub signed_lit : ℕ → Bool → Lit
signed_lit n c = record { 0 = 2 * n + (if c then 1 else 0) }

-- a literal as that of the new signal that its signal became
abbrev pub read_lit : List Lit → Lit → Lit
read_lit lits l = signed_lit (node_of (lit_at lits (node_of l))) (xor (is_complement l) (is_complement (lit_at lits (node_of l))))

-- A LUT reads the signals of literals, complemented or not, where another reads the signals that became these.
pub record IsThrough (lits : List Lit) (was now : Lut) : Type 0 where
  pub inputs : now.inputs ≡ map (λ m. node_of (lit_at lits m)) was.inputs
  pub value : (v : ℕ → Bool) → lut_value v now ≡ lut_value (λ m. lit_value v (lit_at lits m)) was

-- A LUT that reads only what it depends on, of the function that a LUT has where its signals became these literals.
pub record IsResolved (lits : List Lit) (was now : Lut) : Type 0 where
  pub needed : ReadsNeeded now
  pub inputs : All (Contains (map (λ m. node_of (lit_at lits m)) was.inputs)) now.inputs
  pub fewer : length now.inputs ≤ length was.inputs
  pub value : (v : ℕ → Bool) → v 0 ≡ false → lut_value v now ≡ lut_value (λ m. lit_value v (lit_at lits m)) was
  pub rise : rising now.ones ≡ true
  pub small : list_all (λ m. nat_lt m (2 ^ length now.inputs)) now.ones ≡ true

-- The literal has the LUT's value wherever the constant is false, and is the constant's or that of an input.
pub record IsCopy (l : Lut) (lit : Lit) : Type 0 where
  pub value : (v : ℕ → Bool) → v 0 ≡ false → lit_value v lit ≡ lut_value v l
  pub node : (node_of lit ≡ 0) ⊎ Contains l.inputs (node_of lit)

-- The LUT reads two or more signals and stands behind others; the literal is its own.
pub record IsAdded (first : ℕ) (l : Lut) (old new : List Lut) (lit : Lit) : Type 0 where
  pub many : 2 ≤ length l.inputs
  pub luts : new ≡ old ++ l ∷ []
  pub own : lit ≡ signed_lit (first + length old) false

-- A LUT's literal, for which the LUT is put behind others if need be.
unfoldable pub IsPlaced : ℕ → Lut → List Lut → List Lut → Lit → Type 0
IsPlaced first l luts new lit = ((new ≡ luts) × IsCopy l lit) ⊎ IsAdded first l luts new lit

-- The same of a LUT whose signals became literals, where its signal is wanted; else nothing is put.
unfoldable pub IsNext : ℕ → Bool → List Lit → Lut → List Lut → List Lut → Lit → Type 0
IsNext first false lits was luts new lit = (new ≡ luts) × (lit ≡ signed_lit 0 false)
IsNext first true lits was luts new lit = (l : Lut) × IsResolved lits was l × IsPlaced first l luts new lit

-- Values of signals fit LUTs: the constant's is false, and a LUT's is what the LUT gives.
pub record FitsLuts (first : ℕ) (luts : List Lut) (v : ℕ → Bool) : Type 0 where
  pub constant : v 0 ≡ false
  pub each : (j : ℕ) → j < length luts → v (first + j) ≡ lut_value v (lut_at luts j)

-- The same of depths: a LUT's is one more than the greatest of its inputs', others' are 0.
pub record FitsDepths (first : ℕ) (luts : List Lut) (d : ℕ → ℕ) : Type 0 where
  pub others : (n : ℕ) → n < first → d n ≡ 0
  pub each : (j : ℕ) → j < length luts → d (first + j) ≡ greatest d (lut_at luts j).inputs + 1

-- Signals that became literals of new signals, as far as there are literals, those of a set: of the same values, no deeper.
pub record IsRebuilt (count : ℕ) (luts : List Lut) (set : ℕ → Bool) (lits : List Lit) (new : List Lut) : Type 0 where
  pub front : count + 1 ≤ length lits
  pub few : count + 1 + length new ≤ length lits
  pub fewer : (n : ℕ) → count + 1 ≤ n → n < length lits → set n ≡ false → count + 1 + length new < length lits
  pub fits : (j : ℕ) → j < length new → is_lut (count + 1 + j) (lut_at new j) ≡ true
  pub depend : AllDepend new
  pub within : (n : ℕ) → node_of (lit_at lits n) < count + 1 + length new
  pub sources : (n : ℕ) → n < count + 1 → lit_at lits n ≡ signed_lit n false
  pub inputs : (k : ℕ) → none_exceeds k luts ≡ true → none_exceeds k new ≡ true
  pub cheaper : (cost : ℕ → ℕ) → NeverFalls cost → cost_by cost new ≤ cost_by cost (take (length lits - (count + 1)) luts)
  pub values : (v w : ℕ → Bool) → FitsLuts (count + 1) luts v → FitsLuts (count + 1) new w → ((n : ℕ) → n < count + 1 → w n ≡ v n) → (n : ℕ) → n < length lits → set n ≡ true → lit_value w (lit_at lits n) ≡ v n
  pub depths : (d e : ℕ → ℕ) → FitsDepths (count + 1) luts d → FitsDepths (count + 1) new e → (n : ℕ) → n < length lits → set n ≡ true → e (node_of (lit_at lits n)) ≤ d n
  pub lows : (d e : ℕ → ℕ) (bound : ℕ) → FitsDepths (count + 1) luts d → FitsDepths (count + 1) new e → ((n : ℕ) → d n ≤ bound) → (j : ℕ) → j < length new → e (count + 1 + j) ≤ bound

-- Other LUTs and literals of the same function over so many sources, no more of them, no deeper, of no more inputs, and no dearer where LUTs of more inputs cost no less.
pub record IsTrimming (count : ℕ) (luts : List Lut) (lits : List Lit) (new : List Lut) (outs : List Lit) : Type 0 where
  pub long : length outs ≡ length lits
  pub stay : SourcesStay count lits outs
  pub values : (bits : List Bool) → length bits ≡ count → luts_function new outs bits ≡ luts_function luts lits bits
  pub fewer : length new ≤ length luts
  pub depth : net_depth count new ≤ net_depth count luts
  pub inputs : (k : ℕ) → none_exceeds k luts ≡ true → none_exceeds k new ≡ true
  pub cheaper : (cost : ℕ → ℕ) → NeverFalls cost → cost_by cost new ≤ cost_by cost luts

-- Such LUTs and literals, each LUT of which depends on all that it reads.
pub record IsRebuiltNet (count : ℕ) (luts : List Lut) (lits : List Lit) (new : List Lut) (outs : List Lit) : Type 0 where
  pub trimming : IsTrimming count luts lits new outs
  pub net : IsOpenNet count new outs
  pub depend : AllDepend new
