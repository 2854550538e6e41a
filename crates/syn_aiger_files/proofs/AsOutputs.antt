-- Symbols of bad states and constraints as those of outputs.
use Rattle.std.proofs.Common.{◌≡◌, ℕ, suc, ◌+◌, ◌-◌, ◌<◌, ◌≤◌, List, [], ◌∷◌, ◌++◌, sym, ap, ap₂, ◌∙◌, append_assoc, append-nil, arith}
use Rattle.syn_aiger_files.specs.FirstNames.{as_outputs, first_name, with_properties}
use Rattle.syn_aiger_files.specs.Files.{Header, OfBad, OfConstraint, OfOutput, Place, Symbol}

module _ (symbols : List Symbol) (p : Place) (output count k : ℕ) (made target : List Symbol) where
  pub outputs_begin : made ++ as_outputs symbols p 0 output count ≡ target → made ++ as_outputs symbols p 0 (output + 0) (count - 0) ≡ target
  outputs_begin h = ap₂ (λ (o n : ℕ). made ++ as_outputs symbols p 0 o n) (let e : output + 0 ≡ output = omega arith in e) (let e : count - 0 ≡ count = omega arith in e) ∙ h

  pub outputs_on : (new : List Symbol) (s : Symbol) → k < count → s ≡ record { place = OfOutput; index = output + k; name = first_name symbols p k } → new ≡ made ++ s ∷ []
      → made ++ as_outputs symbols p k (output + k) (count - k) ≡ target → new ++ as_outputs symbols p (k + 1) (output + (k + 1)) (count - (k + 1)) ≡ target
  outputs_on new s inside is e h =
      let left : ℕ = count - (k + 1) in
      let rest : List Symbol = as_outputs symbols p (k + 1) (output + (k + 1)) left in
      let first : Symbol = record { place = OfOutput; index = output + k; name = first_name symbols p k } in
      ap (λ (l : List Symbol). l ++ rest) e
      ∙ append_assoc made (s ∷ []) rest
      ∙ ap (λ (l : List Symbol). made ++ l)
      (ap (λ (x : Symbol). x ∷ rest) is
      ∙ ap₂ (λ (i o : ℕ). first ∷ as_outputs symbols p i o left) (let q : k + 1 ≡ suc k = omega arith in q) (let q : output + (k + 1) ≡ output + k + 1 = omega arith in q)
      ∙ ap (as_outputs symbols p k (output + k)) (let q : suc (count - (k + 1)) ≡ count - k = omega arith in q))
      ∙ h

  pub outputs_end : count ≤ k → made ++ as_outputs symbols p k (output + k) (count - k) ≡ target → made ≡ target
  outputs_end past h = sym (append-nil made) ∙ ap (λ (n : ℕ). made ++ as_outputs symbols p k (output + k) n) (let q : 0 ≡ count - k = omega arith in q) ∙ h

-- where there are none, the symbols stay
pub none_more : (h : Header) (symbols : List Symbol) → h.further.bad ≡ 0 → h.further.constraints ≡ 0 → symbols ≡ with_properties h symbols
none_more h symbols b c = sym (ap₂ (λ (m n : ℕ). as_outputs symbols OfBad 0 h.outputs m ++ (as_outputs symbols OfConstraint 0 (h.outputs + h.further.bad) n ++ symbols)) b c)

-- one behind the other
pub all_more : (h : Header) (symbols none bad both all : List Symbol) (output : ℕ) → none ≡ [] → output ≡ h.outputs + h.further.bad → bad ≡ none ++ as_outputs symbols OfBad 0 h.outputs h.further.bad
    → both ≡ bad ++ as_outputs symbols OfConstraint 0 output h.further.constraints → all ≡ both ++ symbols → all ≡ with_properties h symbols
all_more h symbols none bad both all output n o b c a =
    let first : List Symbol = as_outputs symbols OfBad 0 h.outputs h.further.bad in
    let second : List Symbol = as_outputs symbols OfConstraint 0 (h.outputs + h.further.bad) h.further.constraints in
    let bad_is : bad ≡ first = b ∙ ap (λ (l : List Symbol). l ++ first) n in
    let both_is : both ≡ first ++ second = c ∙ ap₂ (λ (l : List Symbol) (k : ℕ). l ++ as_outputs symbols OfConstraint 0 k h.further.constraints) bad_is o in
    a ∙ ap (λ (l : List Symbol). l ++ symbols) both_is ∙ append_assoc first second symbols
