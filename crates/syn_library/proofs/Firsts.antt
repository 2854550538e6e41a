-- First occurrences, found from the front.
use Rattle.std.proofs.Common.{ℕ, ◌≡◌, Bool, true, false, ◌&&◌, List, [], ◌∷◌, ◌++◌, ◌+◌, ◌<◌, ◌≤◌, map, drop, get_or, All, subst, refl, sym, ap, ap₂, ◌∙◌, arith, length, length-append, append_assoc, cond, inl, inr}
use Rattle.std.specs.Prelude.{◌==◌, ◌||◌, if◌then◌else◌, not}
use Rattle.std.specs.List.{filter, list_any}
use Rattle.std.specs.Cmp.Lexicographic.{pointwise}
use Rattle.std.proofs.lemmas.Bool.{and_parts, cases_Bool, cond-true, cond-false, cond_both, eqb-true, false≢true}
use Rattle.std.proofs.lemmas.List.{append-nil, drop_all, drop_more, map-append}
use Rattle.std.proofs.lemmas.List.Elements.{All-push, filter_agree}
use Rattle.std.proofs.lemmas.List.Folds.{list_any-append}
use Rattle.syn_plan.specs.declared.PLit.{PLit}
use Rattle.syn_plan.specs.Factoring.{Built, factored}
use Rattle.syn_plan.specs.declared.plan.Plan.{Plan}
use Rattle.syn_plan.specs.Naming.{built_of}
use Rattle.syn_library.specs.Library.{firsts, function_of, orders, plans_of, same_built, same_gate}

-- the first occurrences of a list after those that were seen
abbrev pub firsts_after : List Built → List Built → List Built
firsts_after seen [] = seen
firsts_after seen (b ∷ bs) = if list_any (λ x. same_built x b) seen then firsts_after seen bs else firsts_after (seen ++ b ∷ []) bs

same_gate-true : (a b : PLit × PLit) → same_gate a b ≡ true → a ≡ b
same_gate-true a b h =
    let parts = and_parts (a.0.0 == b.0.0) (a.1.0 == b.1.0) h in
    let pair : ℕ → ℕ → PLit × PLit = λ m n. (record { 0 = m }, record { 0 = n }) in
    ap₂ pair (eqb-true a.0.0 b.0.0 parts.0) (eqb-true a.1.0 b.1.0 parts.1)

same_gates-true : (xs ys : List (PLit × PLit)) → pointwise same_gate xs ys ≡ true → xs ≡ ys
same_gates-true [] [] h = refl
same_gates-true (x ∷ xs) (y ∷ ys) h =
    let parts = and_parts (same_gate x y) (pointwise same_gate xs ys) h in
    ap₂ (λ a rest. a ∷ rest) (same_gate-true x y parts.0) (same_gates-true xs ys parts.1)
same_gates-true [] (y ∷ ys) h = absurd (false≢true h)
same_gates-true (x ∷ xs) [] h = absurd (false≢true h)

same_built-true : (a b : Built) → same_built a b ≡ true → a ≡ b
same_built-true a b h =
    let parts = and_parts (pointwise same_gate a.gates b.gates) (a.out.0 == b.out.0) h in
    let made : List (PLit × PLit) → ℕ → Built = λ gates n. record { gates = gates; out = record { 0 = n } } in
    ap₂ made (same_gates-true a.gates b.gates parts.0) (eqb-true a.out.0 b.out.0 parts.1)

-- none of those seen is the same
abbrev new_to : List Built → Built → Bool
new_to seen x = not (list_any (λ s. same_built s x) seen)

filter_twice : (p q : Built → Bool) (xs : List Built) → filter p (filter q xs) ≡ filter (λ x. q x && p x) xs
filter_twice p q [] = refl
filter_twice p q (x ∷ xs) = by_answer (q x) (filter_twice p q xs) where
  by_answer : (b : Bool) → filter p (filter q xs) ≡ filter (λ y. q y && p y) xs → filter p (cond b (x ∷ filter q xs) (filter q xs)) ≡ cond (b && p x) (x ∷ filter (λ y. q y && p y) xs) (filter (λ y. q y && p y) xs)
  by_answer true rest = ap (λ r. cond (p x) (x ∷ r) r) rest
  by_answer false rest = rest

-- what is seen already is dropped either way
absorbed : (seen : List Built) (b : Built) → list_any (λ s. same_built s b) seen ≡ true → (x : Built) → (not (same_built b x) && new_to seen x) ≡ new_to seen x
absorbed seen b h x = elim (cases_Bool (same_built b x)) [
  | inl e ↦
      let gone = ap (new_to seen) (sym (same_built-true b x e)) ∙ ap not h in
      ap (λ t. not t && new_to seen x) e ∙ sym gone
  | inr e ↦ ap (λ t. not t && new_to seen x) e
]

neither : (u v : Bool) → (not u && not v) ≡ not (v || (u || false))
neither true true = refl
neither true false = refl
neither false true = refl
neither false false = refl

-- one more is seen
joined_by : (seen : List Built) (b x : Built) → (not (same_built b x) && new_to seen x) ≡ new_to (seen ++ b ∷ []) x
joined_by seen b x = neither (same_built b x) (list_any (λ s. same_built s x) seen) ∙ ap not (sym (list_any-append (λ s. same_built s x) seen (b ∷ [])))

pub firsts_after-is : (seen bs : List Built) → firsts_after seen bs ≡ seen ++ filter (new_to seen) (firsts bs)
firsts_after-is seen [] = sym (append-nil seen)
firsts_after-is seen (b ∷ bs) =
    let others = filter (λ x. not (same_built b x)) (firsts bs) in
    let among = list_any (λ x. same_built x b) seen in
    elim (cases_Bool among) [
      | inl e ↦
          cond-true among (firsts_after seen bs) (firsts_after (seen ++ b ∷ []) bs) e
          ∙ firsts_after-is seen bs
          ∙ ap (λ rest. seen ++ rest)
          (sym (cond-false (new_to seen b) (b ∷ filter (new_to seen) others) (filter (new_to seen) others) (ap not e)
          ∙ filter_twice (new_to seen) (λ x. not (same_built b x)) (firsts bs)
          ∙ filter_agree (λ x. not (same_built b x) && new_to seen x) (new_to seen) (absorbed seen b e) (firsts bs)))
      | inr e ↦
          cond-false among (firsts_after seen bs) (firsts_after (seen ++ b ∷ []) bs) e
          ∙ firsts_after-is (seen ++ b ∷ []) bs
          ∙ append_assoc seen (b ∷ []) (filter (new_to (seen ++ b ∷ [])) (firsts bs))
          ∙ ap (λ rest. seen ++ rest)
          (sym (cond-true (new_to seen b) (b ∷ filter (new_to seen) others) (filter (new_to seen) others) (ap not e)
          ∙ ap (λ rest. b ∷ rest)
          (filter_twice (new_to seen) (λ x. not (same_built b x)) (firsts bs)
          ∙ filter_agree (λ x. not (same_built b x) && new_to seen x) (new_to (seen ++ b ∷ [])) (joined_by seen b) (firsts bs))))
    ]

all_pass : (bs : List Built) → filter (new_to []) bs ≡ bs
all_pass [] = refl
all_pass (b ∷ bs) = ap (λ rest. b ∷ rest) (all_pass bs)

pub firsts_after-start : (bs : List Built) → firsts_after [] bs ≡ firsts bs
firsts_after-start bs = firsts_after-is [] bs ∙ all_pass (firsts bs)

-- ---- plans
list_any-built : (plan : Plan) (plans : List Plan) → list_any (λ p. same_built (built_of p) (built_of plan)) plans ≡ list_any (λ b. same_built b (built_of plan)) (map built_of plans)
list_any-built plan [] = refl
list_any-built plan (p ∷ plans) = ap (λ t. same_built (built_of p) (built_of plan) || t) (list_any-built plan plans)

module _ (plans new : List Plan) (plan : Plan) (made : new ≡ (if list_any (λ p. same_built (built_of p) (built_of plan)) plans then plans else plans ++ plan ∷ [])) where
  -- the plans after one more, where those of a list follow
  pub firsts_after-added : (bs : List Built) → firsts_after (map built_of new) bs ≡ firsts_after (map built_of plans) (built_of plan ∷ bs)
  firsts_after-added bs =
      let among = list_any (λ p. same_built (built_of p) (built_of plan)) plans in
      let after : List Plan → List Built = λ ps. firsts_after (map built_of ps) bs in
      let skipped = firsts_after (map built_of plans) bs in
      let added = firsts_after (map built_of plans ++ built_of plan ∷ []) bs in
      elim (cases_Bool among) [
        | inl e ↦
            ap after (made ∙ cond-true among plans (plans ++ plan ∷ []) e)
            ∙ sym (cond-true _ skipped added (sym (list_any-built plan plans) ∙ e))
        | inr e ↦
            ap after (made ∙ cond-false among plans (plans ++ plan ∷ []) e)
            ∙ ap (λ seen. firsts_after seen bs) (map-append built_of plans (plan ∷ []))
            ∙ sym (cond-false _ skipped added (sym (list_any-built plan plans) ∙ e))
      ]

  pub All-added : (P : Plan → Type 0) → All P plans → P plan → All P new
  All-added P all one =
      let among = list_any (λ p. same_built (built_of p) (built_of plan)) plans in
      subst (λ (ps : List Plan). All P ps) (sym made) (cond_both among plans (plans ++ plan ∷ []) (All P) (λ _. all) (λ _. All-push P plans plan all one))

  pub length-added : length new ≤ length plans + 1
  length-added =
      let among = list_any (λ p. same_built (built_of p) (built_of plan)) plans in
      let longer = length-append plans (plan ∷ []) in
      subst (λ (ps : List Plan). length ps ≤ length plans + 1) (sym made) (cond_both among plans (plans ++ plan ∷ []) (λ ps. length ps ≤ length plans + 1) (λ _. omega arith) (λ _. omega arith))

-- what factoring builds of a class by the orders from a place on
unfoldable pub still : ℕ → ℕ → List Built
still class i = map (λ order. factored 4 order (function_of class)) (drop i orders)

pub still-start : (class : ℕ) → firsts_after [] (still class 0) ≡ plans_of class
unfolding still plans_of
still-start class = firsts_after-start (map (λ order. factored 4 order (function_of class)) orders)

pub still-more : (class i : ℕ) → i < 4 → still class i ≡ factored 4 (get_or orders i []) (function_of class) ∷ still class (i + 1)
unfolding still
still-more class i h = ap (map (λ order. factored 4 order (function_of class))) (drop_more orders i [] h)

pub still-end : (class i : ℕ) → 4 ≤ i → still class i ≡ []
unfolding still
still-end class i h = ap (map (λ order. factored 4 order (function_of class))) (drop_all i orders h)

-- ---- the plan of a class in an order
pub built_of-is : (p : Plan) (b : Built) → p.gates.items ≡ b.gates → p.out ≡ b.out → built_of p ≡ b
built_of-is p b g o =
    let made : List (PLit × PLit) → PLit → Built = λ gates out. record { gates = gates; out = out } in
    ap₂ made g o
