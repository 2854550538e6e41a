-- The numbers on a line, told one after the other.
use Rattle.std.proofs.Common.{◌≡◌, ℕ, List, [], ◌∷◌, option_map, Option, Some, None, refl, sym, ap, ◌∙◌, Bor}
use Rattle.syn_aiger_files.specs.declared.numbers.OnLine.TheVariants.{One, Two, Three, Other}
use Rattle.syn_aiger_files.specs.Cuts.{cut_at, words_left}
use Rattle.syn_aiger_files.specs.Shown.{shown_by}
use Rattle.syn_aiger_files.specs.Texts.{and_number, number_of, numbers_of, or_none, words_of}
use Rattle.syn_aiger_files.proofs.Cutting.{words_cut}

some_number : (o : Option ℕ) (p : Option (List ℕ)) → Path (Option (List ℕ)) (and_number o p) (Some []) → ⊥
some_number None p e = cc
some_number (Some n) None e = cc
some_number (Some n) (Some ns) e = cc

-- a text has a word, so where it has numbers there is one
pub has_number_or_none : (t : List ℕ) → Path (Option (List ℕ)) (numbers_of (words_of t)) (Some []) → ⊥
has_number_or_none t e = some_number (number_of (cut_at 32 t).0) (numbers_of (words_left (cut_at 32 t).1)) (ap numbers_of (sym (words_cut t)) ∙ e)

module _ (all : Option (List ℕ)) where
  pub on_none : or_none all ≡ [] → Other ≡ shown_by (or_none all)
  on_none e = sym (ap shown_by e)

  pub on_one : (a : ℕ) → all ≡ and_number (Some a) (Some []) → One a ≡ shown_by (or_none all)
  on_one a e = sym (ap (λ (o : Option (List ℕ)). shown_by (or_none o)) e)

  pub on_one_broken : (a : ℕ) (x : Option (List ℕ)) → all ≡ and_number (Some a) x → x ≡ None → Other ≡ shown_by (or_none all)
  on_one_broken a x e f = sym (ap (λ (o : Option (List ℕ)). shown_by (or_none o)) (e ∙ ap (and_number (Some a)) f))

  pub on_two : (a b : ℕ) (x : Option (List ℕ)) → all ≡ and_number (Some a) x → x ≡ and_number (Some b) (Some []) → Two a b ≡ shown_by (or_none all)
  on_two a b x e f = sym (ap (λ (o : Option (List ℕ)). shown_by (or_none o)) (e ∙ ap (and_number (Some a)) f))

  pub on_two_broken : (a b : ℕ) (x y : Option (List ℕ)) → all ≡ and_number (Some a) x → x ≡ and_number (Some b) y → y ≡ None → Other ≡ shown_by (or_none all)
  on_two_broken a b x y e f g = sym (ap (λ (o : Option (List ℕ)). shown_by (or_none o)) (e ∙ ap (and_number (Some a)) (f ∙ ap (and_number (Some b)) g)))

  pub on_three : (a b c : ℕ) (x y : Option (List ℕ)) → all ≡ and_number (Some a) x → x ≡ and_number (Some b) y → y ≡ and_number (Some c) (Some []) → Three a b c ≡ shown_by (or_none all)
  on_three a b c x y e f g = sym (ap (λ (o : Option (List ℕ)). shown_by (or_none o)) (e ∙ ap (and_number (Some a)) (f ∙ ap (and_number (Some b)) g)))

  more_by : (a b c : ℕ) (z : Option (List ℕ)) → (z ≡ Some [] → ⊥) → shown_by (or_none (and_number (Some a) (and_number (Some b) (and_number (Some c) z)))) ≡ Other
  more_by a b c None h = refl
  more_by a b c (Some []) h = absurd (h refl)
  more_by a b c (Some (d ∷ ds)) h = refl

  pub on_more : (a b c : ℕ) (x y : Option (List ℕ)) (t : List ℕ) → all ≡ and_number (Some a) x → x ≡ and_number (Some b) y → y ≡ and_number (Some c) (numbers_of (words_of t)) → Other ≡ shown_by (or_none all)
  on_more a b c x y t e f g = sym (ap (λ (o : Option (List ℕ)). shown_by (or_none o)) (e ∙ ap (and_number (Some a)) (f ∙ ap (and_number (Some b)) g)) ∙ more_by a b c (numbers_of (words_of t)) (has_number_or_none t))

-- what is left behind a number, where it is known what that is
pub next_is : (all : Option (List ℕ)) (n : ℕ) (rest is : Option (Bor (List ℕ)))
    → all ≡ and_number (Some n) (numbers_of (words_left (option_map (λ (t : Bor (List ℕ)). t.now) rest))) → rest ≡ is
    → all ≡ and_number (Some n) (numbers_of (words_left (option_map (λ (t : Bor (List ℕ)). t.now) is)))
next_is all n rest is e f = e ∙ ap (λ (o : Option (Bor (List ℕ))). and_number (Some n) (numbers_of (words_left (option_map (λ (t : Bor (List ℕ)). t.now) o)))) f
