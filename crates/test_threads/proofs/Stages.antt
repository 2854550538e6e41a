-- The steps of the rewriting seat are allowed.
use Rattle.std.proofs.Common.{◌≡◌, ℕ, ◌&&◌, not, Bool, true, false, List, [], ◌∷◌, Some, refl, ap, arith, inl, inr, sym, subst}
use Rattle.syn_rows.specs.declared.Row.TheVariants.{Alias}
use Rattle.syn_core_laws.specs.declared.View.{View}
use Rattle.syn_core_laws.specs.Views.{pinned, key_loaded}
use Rattle.syn_core_laws.specs.Events.{MayPin, MayRest}
use Rattle.syn_core_laws.specs.SameValue.{SameValue}
use Rattle.syn_table.specs.Steps.{KnowsRedefine}
use Rattle.test_threads.specs.Rewriting.{lit, and, keyed, all_taken, neither_made, product_made}

pub may_pin_two : (v : View) → v ≡ all_taken → MayPin v 2
may_pin_two v e = subst (λ (w : View). MayPin w 2) (sym e) (inl (inr (4, and 2 4, refl, inr (omega arith))))

pub may_pin_three : (v : View) → v ≡ keyed all_taken 2 0 → MayPin v 3
may_pin_three v e = subst (λ (w : View). MayPin w 3) (sym e) (inl (inr (5, and 2 6, refl, inr (omega arith))))

pub may_pin_one : (v : View) → v ≡ neither_made → MayPin v 1
may_pin_one v e = subst (λ (w : View). MayPin w 1) (sym e) (inl (inr (4, and 2 4, refl, inr (omega arith))))

-- the row of node 8 may rest on what is pinned by then
pub product_rests : (v : View) → v ≡ pinned (keyed neither_made 1 0) 7 → MayRest v 2 (and 2 15)
product_rests v e = subst (λ (w : View). MayRest w 2 (and 2 15)) (sym e) ((λ m. omega arith), ((0, refl, omega arith), (1, refl, omega arith)))

-- what the seat knows when it redefines the root
abbrev pub root_keyed : View
root_keyed = key_loaded (pinned product_made 8) 6 8589934592

-- the complement of ab + ac is that of a(b + c)
distributes : (p q r : Bool) → not (p && not (not q && not r)) ≡ (not (p && q) && not (p && r))
distributes true true true = refl
distributes true true false = refl
distributes true false true = refl
distributes true false false = refl
distributes false q r = refl

same_root : SameValue root_keyed (1 ∷ 2 ∷ 3 ∷ []) (and 9 11) (Alias (lit 17))
same_root choice = (
  not (choice 1 && choice 2) && not (choice 1 && choice 3),
  (1, refl),
  (2, ap Some (distributes (choice 1) (choice 2) (choice 3))),
)

pub root_may : (v : View) (over : List ℕ) → v ≡ root_keyed → over ≡ 1 ∷ 2 ∷ 3 ∷ [] → KnowsRedefine v 6 (Alias (lit 17)) over
root_may v over e is =
    subst (λ (w : View). KnowsRedefine w 6 (Alias (lit 17)) over) (sym e)
    (subst (KnowsRedefine root_keyed 6 (Alias (lit 17))) (sym is)
    (and 9 11, 8589934592, refl, (refl, refl, refl, ((λ m. omega arith), (2, refl, omega arith)), omega arith, omega arith, same_root)))
