-- Signals that are complemented, and the LUTs and literals that read them.
use Rattle.std.specs.Prelude.{◌≡◌, ℕ, ◌+◌, ◌*◌, ◌%◌, ◌^◌, ◌<◌, ◌≤◌, ◌==◌, ◌&&◌, not, nat_le, nat_lt, if◌then◌else◌, Bool, true, false, List, [], ◌∷◌, length, slice_set, slice_index_or, map, count_by}
use Rattle.std.specs.List.{list_any, list_all}
use Rattle.syn_rows.specs.declared.Lit.{Lit}
use Rattle.syn_rows.specs.Rows.{node_of}
use Rattle.syn_rows.specs.Values.{value_in}
use Rattle.syn_lutnet.specs.LutData.{Lut, lut_at, lut_value, rising}

-- a value, or its complement
abbrev pub xor : Bool → Bool → Bool
xor a b = if a then not b else b

-- the literal is that of the signal's complement
abbrev pub is_opposite : ℕ → Lit → Bool
is_opposite n l = (node_of l == n) && (l.0 % 2 == 1)

-- the literal is the signal's own
abbrev pub is_plain : ℕ → Lit → Bool
is_plain n l = (node_of l == n) && not (l.0 % 2 == 1)

-- the signal is observed complemented, and nowhere plain
abbrev pub is_only_opposite : List Lit → ℕ → Bool
is_only_opposite lits n = list_any (is_opposite n) lits && not (list_any (is_plain n) lits)

-- more of the literals are the signal's complement than its own
abbrev pub is_mostly_opposite : List Lit → ℕ → Bool
is_mostly_opposite lits n = nat_lt (count_by (is_plain n) lits) (count_by (is_opposite n) lits)

-- so is a signal that isn't below the first of a LUT
abbrev pub is_flipped : ℕ → List Lit → ℕ → Bool
is_flipped first lits n = nat_le first n && is_mostly_opposite lits n

-- the same by marks
abbrev pub flip_in : ℕ → List Bool → ℕ → Bool
flip_in first marks n = nat_le first n && value_in marks n

-- the literal where the signals that the test has are complemented
abbrev pub flipped_lit : (ℕ → Bool) → Lit → Lit
flipped_lit flip l = record { 0 = 2 * node_of l + (if xor (flip (node_of l)) (l.0 % 2 == 1) then 1 else 0) }

-- values, those complemented that are marked; those past the end of the marks as they are
abbrev pub xor_list : List Bool → List Bool → List Bool
xor_list [] xs = xs
xor_list (f ∷ fs) [] = []
xor_list (f ∷ fs) (x ∷ xs) = xor f x ∷ xor_list fs xs

-- values, the one at a place complemented or not
abbrev pub xor_at : ℕ → Bool → List Bool → List Bool
xor_at i f xs = if f then slice_set xs i (not (slice_index_or xs i false)) else xs

-- The LUT of signal n with its function complemented where the test has n, and each input that the test has read complemented: it gives what the LUT gave, or the complement.
pub record IsFlipped (flip : ℕ → Bool) (n : ℕ) (old new : Lut) : Type 0 where
  pub inputs : new.inputs ≡ old.inputs
  pub value : (v : ℕ → Bool) → lut_value v new ≡ xor (flip n) (lut_value (λ m. xor (flip m) (v m)) old)
  pub rise : rising new.ones ≡ true
  pub small : list_all (λ m. nat_lt m (2 ^ length new.inputs)) new.ones ≡ true

-- LUT by LUT, the first of which is of this signal
pub record AreFlipped (flip : ℕ → Bool) (first : ℕ) (old new : List Lut) : Type 0 where
  pub long : length new ≡ length old
  pub each : (j : ℕ) → j < length old → IsFlipped flip (first + j) (lut_at old j) (lut_at new j)

-- No LUT is read complemented by more of the literals than plain.
abbrev pub MostShown : ℕ → List Lit → Type 0
MostShown first lits = (n : ℕ) → first ≤ n → count_by (is_opposite n) lits ≤ count_by (is_plain n) lits

-- No LUT is observed only complemented.
abbrev pub AllShown : ℕ → List Lit → Type 0
AllShown first lits = (n : ℕ) → first ≤ n → is_only_opposite lits n ≡ false

-- The LUTs of signals that more literals read complemented than plain are complemented, and so are the literals.
unfoldable pub IsFlippedTo : ℕ → List Lut → List Lit → List Lut → List Lit → Type 0
IsFlippedTo first luts lits new outs = (flip : ℕ → Bool) × ((n : ℕ) → flip n ≡ is_flipped first lits n) × AreFlipped flip first luts new × (outs ≡ map (flipped_lit flip) lits)
