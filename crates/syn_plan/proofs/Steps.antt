-- One step of factoring, as the code takes it.
use Rattle.std.proofs.Common.{◌≡◌, ℕ, ◌+◌, ◌<◌, ◌≤◌, Bool, true, false, cond, ltb, List, [], ◌∷◌, length, refl, sym, ap, ◌∙◌, subst, arith, length-append}
use Rattle.std.proofs.lemmas.Bool.{and_parts, cond-true, cond-false, ltb-true, not_from_false, false_from_ne_true, false≢true, not-true}
use Rattle.std.specs.List.{list_all}
use Rattle.syn_truth.specs.declared.Truth.{Truth}
use Rattle.syn_truth.specs.Truth.{AtEach, Depends, value_of}
use Rattle.syn_truth.proofs.Each.{depends_from, depends_test}
use Rattle.syn_plan.specs.declared.PLit.{PLit}
use Rattle.syn_plan.specs.declared.factors.Split.{Split}
use Rattle.syn_plan.specs.declared.factors.Split.TheVariants.{Choice}
use Rattle.syn_plan.specs.Gates.{literal_of}
use Rattle.syn_plan.specs.Factoring.{Built, with_choice, joined, joined_at, split_of, cofactor_of, is_constant, depends_on, factored_after, Covers, most_gates}
use Rattle.syn_plan.proofs.Builds.{IsBuilt}
use Rattle.syn_plan.proofs.Covered.{covers_cofactor}
use Rattle.syn_plan.proofs.Factored.{is_factored, factored_after-same}

pub depends_is : (f : Truth) (x : ℕ) (b : Bool) → ((b ≡ true → Depends f x) × (Depends f x → b ≡ true)) → b ≡ depends_on f.vars (value_of f) x
depends_is f x true h = sym (not_from_false _ (depends_test f x (h.0 refl)))
depends_is f x false h = sym (false_from_ne_true (depends_on f.vars (value_of f) x) (λ e. false≢true (h.1 (depends_from f x (not-true _ e)))))

abbrev literal_numbered : ℕ → PLit
literal_numbered k = record { 0 = k }

pub factored_none : (n : ℕ) (order : List ℕ) (f : List Bool → Bool) (gates : List (PLit × PLit)) → length order ≡ 0 → (gates ≡ (factored_after n order f gates).gates) × ((l : PLit) → l.0 ≡ cond (is_constant n f true) 1 0 → l ≡ (factored_after n order f gates).out)
unfolding factored_after
factored_none n [] f gates e = (refl, λ l h. ap literal_numbered h)
factored_none n (x ∷ order) f gates e = absurd (omega arith)

module _ (n x : ℕ) (rest order : List ℕ) (f : List Bool → Bool) (gates : List (PLit × PLit)) (is : order ≡ x ∷ rest) where
  pub within_parts : list_all (λ i. ltb i n) order ≡ true → (x < n) × (list_all (λ i. ltb i n) rest ≡ true)
  within_parts h =
      let parts : (ltb x n ≡ true) × (list_all (λ i. ltb i n) rest ≡ true) = and_parts _ _ (ap (list_all (λ i. ltb i n)) (sym is) ∙ h) in
      (ltb-true x n parts.0, parts.1)

  pub covers_parts : Covers n order f → Covers n (x ∷ rest) f
  covers_parts h = subst (λ xs. Covers n xs f) is h

  pub factored_join : depends_on n f x ≡ true → factored_after n order f gates ≡ joined_at n x rest f gates
  unfolding factored_after
  factored_join d = ap (λ xs. factored_after n xs f gates) is ∙ cond-true (depends_on n f x) _ _ d

  pub factored_skip : depends_on n f x ≡ false → factored_after n order f gates ≡ factored_after n rest f gates
  unfolding factored_after
  factored_skip d = ap (λ xs. factored_after n xs f gates) is ∙ cond-false (depends_on n f x) _ _ d

-- the room of the first cofactor of a choice
pub choice_room : (n x : ℕ) (rest : List ℕ) (f : List Bool → Bool) (gates : List (PLit × PLit)) → split_of n (cofactor_of f x false) (cofactor_of f x true) ≡ Choice → list_all (λ i. ltb i n) rest ≡ true → Covers n (x ∷ rest) f → length (joined_at n x rest f gates).gates ≤ 381 → length (factored_after n rest (cofactor_of f x false) gates).gates ≤ 381
choice_room n x rest f gates s r h room =
    let low : Built = factored_after n rest (cofactor_of f x false) gates in
    let high : IsBuilt n low.gates (factored_after n rest (cofactor_of f x true) low.gates) (cofactor_of f x true) (most_gates (length rest)) =
    is_factored n rest (cofactor_of f x true) low.gates r (covers_cofactor n x rest f true h) in
    let last : Built = factored_after n rest (cofactor_of f x true) low.gates in
    let final : length (with_choice n last.gates (literal_of (1 + x)) last.out low.out).gates ≤ 381 =
    subst (λ (c : Split). length (joined n c (literal_of (1 + x)) (factored_after n rest (cofactor_of f x false)) (factored_after n rest (cofactor_of f x true)) gates).gates ≤ 381) s room in
    omega (arith, high.longer, simp length-append at final)

-- a table that is a cofactor builds what the cofactor builds
pub factored-table : (n m : ℕ) (order : List ℕ) (f g : List Bool → Bool) (gates : List (PLit × PLit)) → n ≡ m → AtEach m (λ xs. f xs ≡ g xs) → factored_after n order f gates ≡ factored_after m order g gates
factored-table n m order f g gates e same = ap (λ k. factored_after k order f gates) e ∙ factored_after-same m order f g same gates
