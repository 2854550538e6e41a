-- The forms that are found: made of divisors, and standing for the node.
use Rattle.std.proofs.Common.{◌≡◌, ℕ, ◌*◌, ◌/◌, ◌+◌, true, false, All, List, [], ◌∷◌, ◌++◌, filter, map, sym, ap, ◌∙◌, subst, arith}
use Rattle.std.specs.List.{flat_map}
use Rattle.std.proofs.lemmas.List.Elements.{All-append, All-cons, All-filter, All-nil, All-take, filter_passes}
use Rattle.syn_rows.specs.declared.Lit.{Lit}
use Rattle.syn_rows.specs.declared.Row.{Row}
use Rattle.syn_rows.specs.Joining.{complement, lit_of}
use Rattle.syn_rows.specs.Nodes.{has_node}
use Rattle.syn_rows.specs.Rows.{node_of}
use Rattle.syn_rows.proofs.Nodes.{has_here, has_there}
use Rattle.syn_resub.specs.declared.forms.Form.{Form}
use Rattle.syn_resub.specs.declared.forms.Form.TheVariants.{Constant, One, Both}
use Rattle.syn_resub.specs.Divisors.{divisors}
use Rattle.syn_resub.specs.Forms.{all_ands, ands_of, ands_over, forms, found_forms, literals_of, stands_for}
use Rattle.syn_resub.specs.Needed.{IsMadeOf}
use Rattle.syn_resub.proofs.Valued.{complement_is}

plain_node : (d : ℕ) → node_of (lit_of d) ≡ d
plain_node d = omega arith

opposite_node : (d : ℕ) → node_of (complement (lit_of d)) ≡ d
opposite_node d = ap node_of (complement_is d) ∙ (let half : (2 * d + 1) / 2 ≡ d = omega arith in half)

module _ (ds : List ℕ) where
  has_plain : (d : ℕ) → has_node ds d ≡ true → has_node ds (node_of (lit_of d)) ≡ true
  has_plain d h = subst (λ n. has_node ds n ≡ true) (sym (plain_node d)) h

  has_opposite : (d : ℕ) → has_node ds d ≡ true → has_node ds (node_of (complement (lit_of d))) ≡ true
  has_opposite d h = subst (λ n. has_node ds n ≡ true) (sym (opposite_node d)) h

  made_ones : (es : List ℕ) → ((n : ℕ) → has_node es n ≡ true → has_node ds n ≡ true) → All (IsMadeOf ds) (map One (flat_map literals_of es))
  made_ones [] listed = All-nil (IsMadeOf ds)
  made_ones (e ∷ es) listed =
      All-cons (IsMadeOf ds) (One (lit_of e)) (One (complement (lit_of e)) ∷ map One (flat_map literals_of es)) (has_plain e (listed e (has_here e es)))
      (All-cons (IsMadeOf ds) (One (complement (lit_of e))) (map One (flat_map literals_of es)) (has_opposite e (listed e (has_here e es))) (made_ones es (λ n h. listed n (has_there e n es h))))

  made_pair : (l m : Lit) (rest : List Form) → has_node ds (node_of l) ≡ true → has_node ds (node_of m) ≡ true → All (IsMadeOf ds) rest → All (IsMadeOf ds) (Both l m false ∷ Both l m true ∷ rest)
  made_pair l m rest first second others = All-cons (IsMadeOf ds) (Both l m false) (Both l m true ∷ rest) (first, second) (All-cons (IsMadeOf ds) (Both l m true) rest (first, second) others)

  made_over : (d e : ℕ) → has_node ds d ≡ true → has_node ds e ≡ true → All (IsMadeOf ds) (ands_over d e)
  made_over d e first second =
      made_pair (lit_of d) (lit_of e) (ands_of (lit_of d) (complement (lit_of e)) ++ (ands_of (complement (lit_of d)) (lit_of e) ++ ands_of (complement (lit_of d)) (complement (lit_of e)))) (has_plain d first) (has_plain e second)
      (made_pair (lit_of d) (complement (lit_of e)) (ands_of (complement (lit_of d)) (lit_of e) ++ ands_of (complement (lit_of d)) (complement (lit_of e))) (has_plain d first) (has_opposite e second)
      (made_pair (complement (lit_of d)) (lit_of e) (ands_of (complement (lit_of d)) (complement (lit_of e))) (has_opposite d first) (has_plain e second)
      (made_pair (complement (lit_of d)) (complement (lit_of e)) [] (has_opposite d first) (has_opposite e second) (All-nil (IsMadeOf ds)))))

  made_with : (d : ℕ) (es : List ℕ) → has_node ds d ≡ true → ((n : ℕ) → has_node es n ≡ true → has_node ds n ≡ true) → All (IsMadeOf ds) (flat_map (ands_over d) es)
  made_with d [] first listed = All-nil (IsMadeOf ds)
  made_with d (e ∷ es) first listed = All-append (IsMadeOf ds) (ands_over d e) (flat_map (ands_over d) es) (made_over d e first (listed e (has_here e es))) (made_with d es first (λ n h. listed n (has_there e n es h)))

  made_ands : (es : List ℕ) → ((n : ℕ) → has_node es n ≡ true → has_node ds n ≡ true) → All (IsMadeOf ds) (all_ands es)
  made_ands [] listed = All-nil (IsMadeOf ds)
  made_ands (e ∷ es) listed =
      All-append (IsMadeOf ds) (flat_map (ands_over e) es) (all_ands es) (made_with e es (listed e (has_here e es)) (λ n h. listed n (has_there e n es h))) (made_ands es (λ n h. listed n (has_there e n es h)))

  made_forms : All (IsMadeOf ds) (forms ds)
  made_forms =
      All-cons (IsMadeOf ds) (Constant false) (Constant true ∷ (map One (flat_map literals_of ds) ++ all_ands ds)) tt
      (All-cons (IsMadeOf ds) (Constant true) (map One (flat_map literals_of ds) ++ all_ands ds) tt
      (All-append (IsMadeOf ds) (map One (flat_map literals_of ds)) (all_ands ds) (made_ones ds (λ n h. h)) (made_ands ds (λ n h. h))))

pub found_are_made : (rows : List Row) (leaves : List ℕ) (node : ℕ) → All (IsMadeOf (divisors rows leaves node)) (found_forms rows leaves node)
found_are_made rows leaves node =
    All-take (IsMadeOf (divisors rows leaves node)) 16 (filter (stands_for rows leaves node) (forms (divisors rows leaves node)))
    (All-filter (stands_for rows leaves node) (IsMadeOf (divisors rows leaves node)) (forms (divisors rows leaves node)) (made_forms (divisors rows leaves node)))

pub found_stand : (rows : List Row) (leaves : List ℕ) (node : ℕ) → All (λ form. stands_for rows leaves node form ≡ true) (found_forms rows leaves node)
found_stand rows leaves node = All-take (λ form. stands_for rows leaves node form ≡ true) 16 (filter (stands_for rows leaves node) (forms (divisors rows leaves node))) (filter_passes (stands_for rows leaves node) (forms (divisors rows leaves node)))
