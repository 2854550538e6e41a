-- Statements without a fault of a line say something.
use Rattle.std.proofs.Common.{◌≡◌, ℕ, suc, ◌&&◌, not, nat_lt, Bool, true, false, if◌then◌else◌, List, [], ◌∷◌, ◌++◌, length, bytes_eq, codes, refl, sym, ap, ◌∙◌, subst, inl, inr, Option, Some, None, option_map, option_and_then, arith}
use Rattle.std.specs.Option.{option_or}
use Rattle.std.proofs.lemmas.Bool.Decides.{nat_tests}
use Rattle.std.proofs.lemmas.Bool.{both_ways, or_cases, not-false}
use Rattle.syn_netlist.specs.Words.{has_word}
use Rattle.syn_netlist.specs.Lists.{Latch}
use Rattle.syn_netlist.specs.declared.LatchKind.{LatchKind}
use Rattle.syn_netlist.specs.declared.LatchKind.TheVariants as types
use Rattle.syn_netlist.proofs.Sets.{same_word}
use Rattle.syn_models.specs.Models as models
use Rattle.syn_models.specs.Models.{OneLatch, OneTable, OneSubcircuit, Subcircuit}
use Rattle.syn_reader.specs.declared.Kind.{Kind}
use Rattle.syn_reader.specs.declared.Kind.TheVariants as kinds
use Rattle.syn_reader.specs.Computed.{init_of, is_on, latch, latch_of, said_by, said_of, signal_of, type_of}
use Rattle.syn_reader.specs.Faults.{Fault, ModelTwice, SubcktShape, PortTwice}
use Rattle.syn_reader.specs.Laws.{FaultlessSay}
use Rattle.syn_reader.specs.LineFaults.{Check, checks, first_found, first_fault_of_lines, where_holds, where_named}
use Rattle.syn_reader.specs.ModelFaults.{is_none, model_twice, port_twice, subckt_shape}
use Rattle.syn_reader.specs.Saying.{on_line}
use Rattle.syn_reader.specs.Shapes.{latch_types, all_but_last, last_word}
use Rattle.syn_reader.specs.Statements.{Statement, rows_below}
use Rattle.syn_reader.specs.Subcircuits.{subcircuit_of}
use Rattle.syn_reader.proofs.Fine.{IsFine, init_some, or_none, parts_of, rows_fit}
use Rattle.syn_reader.proofs.Saying.{say_back}

or_again : (a b c : Option Fault) → option_or a (option_or b c) ≡ option_or (option_or a b) c
or_again None b c = refl
or_again (Some f) b c = refl

-- the first of two lists of checks that finds a fault
pub found_append : (xs ys : List Check) (above : List Statement) (s : Statement) → first_found (xs ++ ys) above s ≡ option_or (first_found xs above s) (first_found ys above s)
found_append [] ys above s = refl
found_append (x ∷ xs) ys above s = ap (option_or (x above s)) (found_append xs ys above s) ∙ or_again (x above s) (first_found xs above s) (first_found ys above s)

-- where neither list finds one
pub no_fault : (xs ys : List Check) (above ss : List Statement) → first_fault_of_lines (xs ++ ys) above ss ≡ None → (first_fault_of_lines xs above ss ≡ None) × (first_fault_of_lines ys above ss ≡ None)
no_fault xs ys above [] e = (refl, refl)
no_fault xs ys above (s ∷ ss) e =
    let p = or_none _ _ e in
    let q = or_none _ _ (sym (found_append xs ys above s) ∙ p.0) in
    let r = no_fault xs ys (s ∷ above) ss p.1 in
    (both _ _ q.0 r.0, both _ _ q.1 r.1)
  where
    both : (a b : Option Fault) → a ≡ None → b ≡ None → option_or a b ≡ None
    both None b e f = f
    both (Some x) b e f = absurd (cc)

-- the checks that only files of models have
abbrev pub more_checks : List (List ℕ) → List Check
more_checks names = where_holds (model_twice names) ModelTwice ∷ where_holds subckt_shape SubcktShape ∷ where_named port_twice PortTwice ∷ []

no_test : (b : Bool) (x : Fault) → (if b then Some x else None) ≡ None → b ≡ false
no_test true x e = absurd (let z : ◌≡◌ {A = Option Fault} (Some x) None = e in cc)
no_test false x e = refl

well_shaped : (names : List (List ℕ)) (above : List Statement) (s : Statement) → first_found (more_checks names) above s ≡ None → subckt_shape above s ≡ false
well_shaped names above s e = no_test (subckt_shape above s) (SubcktShape s.line) (or_none _ _ (or_none _ _ e).1).0

some_subcircuit : (o : Option Subcircuit) → is_none o ≡ false → (c : Subcircuit) × (o ≡ Some c)
some_subcircuit None h = absurd (both_ways true h refl)
some_subcircuit (Some c) h = (c, refl)

pub type_some : (w : List ℕ) → has_word latch_types w ≡ true → (k : LatchKind) × (type_of w ≡ Some k)
type_some w h = elim (or_cases (bytes_eq (codes "fe") w) _ h) [
  | inl e ↦ subst (λ v. (k : LatchKind) × (type_of v ≡ Some k)) (same_word (codes "fe") w e) (types.Fe, refl)
  | inr h1 ↦ elim (or_cases (bytes_eq (codes "re") w) _ h1) [
    | inl e ↦ subst (λ v. (k : LatchKind) × (type_of v ≡ Some k)) (same_word (codes "re") w e) (types.Re, refl)
    | inr h2 ↦ elim (or_cases (bytes_eq (codes "ah") w) _ h2) [
      | inl e ↦ subst (λ v. (k : LatchKind) × (type_of v ≡ Some k)) (same_word (codes "ah") w e) (types.Ah, refl)
      | inr h3 ↦ elim (or_cases (bytes_eq (codes "al") w) _ h3) [
        | inl e ↦ subst (λ v. (k : LatchKind) × (type_of v ≡ Some k)) (same_word (codes "al") w e) (types.Al, refl)
        | inr h4 ↦ elim (or_cases (bytes_eq (codes "as") w) false h4) [
          | inl e ↦ subst (λ v. (k : LatchKind) × (type_of v ≡ Some k)) (same_word (codes "as") w e) (types.As, refl)
          | inr z ↦ absurd (both_ways false refl z)
        ]
      ]
    ]
  ]
]

longer : (n : ℕ) → not (nat_lt 1 (suc (suc (suc (suc (suc (suc n)))))) && nat_lt (suc (suc (suc (suc (suc (suc n)))))) 6) ≡ true
longer n = let h : nat_lt (suc (suc (suc (suc (suc (suc n)))))) 6 ≡ false = grind (arith, nat_tests) in ap (λ b. not (nat_lt 1 (suc (suc (suc (suc (suc (suc n)))))) && b)) h ∙ last (nat_lt 1 (suc (suc (suc (suc (suc (suc n)))))))
  where
    last : (b : Bool) → not (b && false) ≡ true
    last true = refl
    last false = refl

latch_some : (above : List Statement) (line : ℕ) (words : List (List ℕ)) → IsFine above (record { line = line; kind = kinds.Latch; words = words }) → (l : Latch) × (latch_of words ≡ Some l)
latch_some above line [] f = absurd (both_ways true f.size refl)
latch_some above line (x ∷ []) f = absurd (both_ways true f.size refl)
latch_some above line (x ∷ o ∷ []) f = (latch x o None 3, refl)
latch_some above line (x ∷ o ∷ i ∷ []) f =
    let p = init_some i (not-false _ f.init) in
    (latch x o None p.0, ap (option_map (latch x o None)) p.1)
latch_some above line (x ∷ o ∷ t ∷ c ∷ []) f =
    let k = type_some t (not-false _ f.type) in
    (latch x o (Some (k.0, signal_of c)) 3, ap (option_map (λ q. latch x o (Some (q, signal_of c)) 3)) k.1)
latch_some above line (x ∷ o ∷ t ∷ c ∷ i ∷ []) f =
    let k = type_some t (not-false _ f.type) in
    let p = init_some i (not-false _ f.init) in (
      latch x o (Some (k.0, signal_of c)) p.0,
      ap (option_and_then (λ q. option_map (latch x o (Some (q, signal_of c))) (init_of i))) k.1 ∙ ap (option_map (latch x o (Some (k.0, signal_of c)))) p.1,
    )
latch_some above line (x ∷ o ∷ t ∷ c ∷ i ∷ y ∷ ys) f = absurd (both_ways _ f.size (longer (length ys)))

said_some : (above : List Statement) (line : ℕ) (kind : Kind) (words : List (List ℕ)) (ss : List Statement) (rest : List models.Statement) → IsFine above (record { line = line; kind = kind; words = words })
    → first_fault_of_lines checks (record { line = line; kind = kind; words = words } ∷ above) ss ≡ None → subckt_shape above (record { line = line; kind = kind; words = words }) ≡ false → (said : List models.Statement) × (said_by line kind words (rows_below ss) rest ≡ Some said)
said_some above line kinds.Row words ss rest f e h = (_, refl)
said_some above line kinds.Unknown words ss rest f e h = absurd (both_ways true f.known refl)
said_some above line kinds.Model words ss rest f e h = (_, refl)
said_some above line kinds.Inputs words ss rest f e h = (_, refl)
said_some above line kinds.Outputs words ss rest f e h = (_, refl)
said_some above line kinds.Clock words ss rest f e h = (_, refl)
said_some above line kinds.Names [] ss rest f e h = absurd (both_ways true f.named refl)
said_some above line kinds.Names (w ∷ ws) ss rest f e h =
    let p = rows_fit (record { line = line; kind = kinds.Names; words = w ∷ ws }) above ss refl refl e in
    (_, ap (λ o. option_map (λ t. on_line line (OneTable t) rest) (option_map (λ parts. record { inputs = all_but_last (w ∷ ws); output = last_word (w ∷ ws); rows = parts; on = is_on (rows_below ss) }) o)) p.1)
said_some above line kinds.Latch words ss rest f e h =
    let p = latch_some above line words f in
    (_, ap (option_map (λ l. on_line line (OneLatch l) rest)) p.1)
said_some above line kinds.Subckt words ss rest f e h =
    let p = some_subcircuit (subcircuit_of words) h in
    (_, ap (option_map (λ c. on_line line (OneSubcircuit c) rest)) p.1)
said_some above line kinds.End words ss rest f e h = (_, refl)

said : (names : List (List ℕ)) (above ss : List Statement) → first_fault_of_lines checks above ss ≡ None → first_fault_of_lines (more_checks names) above ss ≡ None → (out : List models.Statement) × (said_of ss ≡ Some out)
said names above [] e h = ([], refl)
said names above (s ∷ ss) e h =
    let p = parts_of above s ss e in
    let q = or_none _ _ h in
    let rest = said names (s ∷ above) ss p.1 q.1 in
    let here = said_some above s.line s.kind s.words ss rest.0 p.0 p.1 (well_shaped names above s q.0) in
    (here.0, ap (option_and_then (said_by s.line s.kind s.words (rows_below ss))) rest.1 ∙ here.1)

pub faultless_say : FaultlessSay
faultless_say names ss e =
    let p = no_fault checks (more_checks names) [] ss e in
    let out = said names [] ss p.0 p.1 in
    (out.0, say_back ss out.0 out.1)
