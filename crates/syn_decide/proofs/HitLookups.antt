-- A look-up among hits gives one answer for a pair in either order, and none for a new gate's.
use Rattle.std.proofs.Common.{◌≡◌, ◌≤◌, ◌||◌, nat_lt, nat_le, Bool, true, false, List, [], ◌∷◌, Option, Some, None, if◌then◌else◌, refl, sym, ap, ap₂, ◌∙◌, subst, arith, inl, inr}
use Rattle.std.proofs.lemmas.Bool.{cases_lt, cond-true, cond-false, le-leb, le-ltb, lt-ltb, or_left, or_right}
use Rattle.syn_rows.specs.declared.Lit.{Lit}
use Rattle.syn_rows.specs.declared.Row.{Row}
use Rattle.syn_rows.specs.declared.TheConstants.{NODE_LIMIT}
use Rattle.syn_rows.specs.Rows.{node_of}
use Rattle.syn_rows.specs.Joining.{lit_of, same_pair}
use Rattle.syn_rows.proofs.JoinLaws.{pair_cases, same_lit}
use Rattle.syn_gain.specs.Lookups.{Gives}
use Rattle.syn_gain.proofs.Searches.{TakesEither}
use Rattle.syn_decide.specs.declared.decisions.NodeRow.{NodeRow}
use Rattle.syn_decide.specs.Hints.{first_new, is_new_gate, is_pair, is_pair_of, literal_hit, literal_listed}

turned_pair : (x y : Lit) (row : Row) → is_pair_of y x row ≡ is_pair_of x y row
turned_pair x y row = elim (cases_lt x.0 y.0) [
  | inl lt ↦
      cond-false (nat_lt y.0 x.0) (is_pair y x row) (is_pair x y row) (le-ltb y.0 x.0 (omega (arith, lt)))
      ∙ sym (cond-true (nat_lt x.0 y.0) (is_pair x y row) (is_pair y x row) (lt-ltb x.0 y.0 lt))
  | inr ge ↦ elim (cases_lt y.0 x.0) [
    | inl gt ↦
        cond-true (nat_lt y.0 x.0) (is_pair y x row) (is_pair x y row) (lt-ltb y.0 x.0 gt)
        ∙ sym (cond-false (nat_lt x.0 y.0) (is_pair x y row) (is_pair y x row) (le-ltb x.0 y.0 (omega (arith, gt))))
    | inr le ↦ subst (λ (z : Lit). is_pair_of z x row ≡ is_pair_of x z row) (same_lit x y (omega (arith, ge, le))) refl
  ]
]

turned_listed : (hits : List NodeRow) (x y : Lit) → literal_listed hits y x ≡ literal_listed hits x y
turned_listed [] x y = refl
turned_listed (h ∷ hits) x y = ap₂ (λ here rest. if here then Some (lit_of h.node) else rest) (turned_pair x y h.row) (turned_listed hits x y)

new_none : (hits : List NodeRow) (x y : Lit) → (is_new_gate x || is_new_gate y) ≡ true → literal_hit hits x y ≡ None
new_none hits x y new = cond-true (is_new_gate x || is_new_gate y) None (literal_listed hits x y) new

pub hits_give : (hits : List NodeRow) → Gives (λ x y found. found ≡ literal_hit hits x y) NODE_LIMIT (literal_hit hits)
hits_give hits = record {
  right = λ x y found e. e;
  first_old = λ x y new. new_none hits x y (or_left (is_new_gate x) (is_new_gate y) (le-leb first_new (node_of x) new));
  second_old = λ x y new. new_none hits x y (or_right (is_new_gate x) (is_new_gate y) (le-leb first_new (node_of y) new));
}

pub hits_take_either : (hits : List NodeRow) → TakesEither (literal_hit hits)
hits_take_either hits x y a b same = elim (pair_cases x y a b same) [
  | inl e ↦ ap₂ (literal_hit hits) e.0 e.1
  | inr e ↦ ap₂ (literal_hit hits) e.0 e.1 ∙ ap₂ (λ new rest. if new then None else rest) (or_turned (is_new_gate b) (is_new_gate a)) (turned_listed hits a b)
]
  where
    or_turned : (p q : Bool) → (p || q) ≡ (q || p)
    or_turned true true = refl
    or_turned true false = refl
    or_turned false true = refl
    or_turned false false = refl
