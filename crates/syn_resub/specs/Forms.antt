-- What may stand for a node: a constant, a divisor, or the AND of two.
use Rattle.std.specs.Prelude.{ℕ, ◌&&◌, not, if◌then◌else◌, Bool, true, false, List, [], ◌∷◌, ◌++◌, length, filter, map, take}
use Rattle.std.specs.Bool.{beq}
use Rattle.std.specs.List.{flat_map}
use Rattle.syn_rows.specs.declared.Lit.{Lit}
use Rattle.syn_rows.specs.declared.Row.{Row}
use Rattle.syn_rows.specs.Joining.{complement, lit_of}
use Rattle.syn_rows.specs.Values.{lit_value, value_in}
use Rattle.syn_truth.specs.Truth.{holds_at_each}
use Rattle.syn_cones.specs.Values.{values_over}
use Rattle.syn_resub.specs.declared.forms.Form.{Form}
use Rattle.syn_resub.specs.declared.forms.Form.TheVariants.{Constant, One, Both}
use Rattle.syn_resub.specs.Divisors.{divisors}

-- a value under a sign: true complements it
abbrev pub signed : Bool → Bool → Bool
signed sign x = if sign then not x else x

-- the value of a form, from those of the nodes
abbrev pub form_value : (ℕ → Bool) → Form → Bool
form_value v (Constant x) = x
form_value v (One l) = lit_value v l
form_value v (Both l m sign) = signed sign (lit_value v l && lit_value v m)

-- both signs, the plain one first
abbrev pub signs : List Bool
signs = false ∷ true ∷ []

-- both literals of a node, the plain one first
abbrev pub literals_of : ℕ → List Lit
literals_of d = lit_of d ∷ complement (lit_of d) ∷ []

-- the ANDs of two literals, the plain one first
abbrev pub ands_of : Lit → Lit → List Form
ands_of l m = map (Both l m) signs

-- the ANDs of two divisors: by the literal of the first, then of the second, then the sign of the output
abbrev pub ands_over : ℕ → ℕ → List Form
ands_over d e = flat_map (λ l. flat_map (ands_of l) (literals_of e)) (literals_of d)

-- those of each two, in order
abbrev pub all_ands : List ℕ → List Form
all_ands [] = []
all_ands (d ∷ ds) = flat_map (ands_over d) ds ++ all_ands ds

-- the forms over divisors, in the order in which they are tried
abbrev pub forms : List ℕ → List Form
forms ds = map Constant signs ++ (map One (flat_map literals_of ds) ++ all_ands ds)

-- the form has the node's value over the leaves, whatever their values are
abbrev pub stands_for : List Row → List ℕ → ℕ → Form → Bool
stands_for rows leaves node form =
    holds_at_each (length leaves) (λ xs. beq (form_value (value_in (values_over rows leaves xs)) form) (value_in (values_over rows leaves xs) node))

-- The forms that stand for a node: the first 16.
abbrev pub found_forms : List Row → List ℕ → ℕ → List Form
found_forms rows leaves node = take 16 (filter (stands_for rows leaves node) (forms (divisors rows leaves node)))
