-- Texts that are cut at a byte: the first line, what stands behind it, words.
use Rattle.std.specs.List.{onto_first}
use Rattle.std.proofs.Common.{◌≡◌, ℕ, suc, ◌<◌, ◌≤◌, nat_eq, subst, ◌==◌, ◌&&◌, ◌||◌, Bool, true, false, cond, List, [], ◌∷◌, ◌++◌, length, take, drop, Option, Some, None, refl, sym, ap, ap₂, ◌∙◌, arith}
use Rattle.std.proofs.lemmas.Bool.{cond-true, cond-false}
use Rattle.syn_lex.specs.Pieces.{before}
use Rattle.syn_aiger_files.specs.Cuts.{cut_at, without_cr, words_left}
use Rattle.syn_aiger_files.specs.Texts.{begins_with_lf, behind, first_line, front, words_of}

-- where the byte is there

some_step : (c : Bool) (n : ℕ) (k : List ℕ × Option (List ℕ)) (x : ℕ) (xs : List ℕ) (b : ℕ) (r : List ℕ)
    → (drop n xs ≡ b ∷ r → (take n xs ≡ k.0) × (Path (Option (List ℕ)) (Some r) k.1))
    → drop (cond c 0 (suc n)) (x ∷ xs) ≡ b ∷ r
    → (take (cond c 0 (suc n)) (x ∷ xs) ≡ (cond {A = List ℕ × Option (List ℕ)} c ([], Some xs) (x ∷ k.0, k.1)).0) × (Path (Option (List ℕ)) (Some r) (cond {A = List ℕ × Option (List ℕ)} c ([], Some xs) (x ∷ k.0, k.1)).1)
some_step true n k x xs b r h e = (refl, let q : r ≡ xs = cc in ap (λ (l : List ℕ). Some l) q)
some_step false n k x xs b r h e = let q = h e in (ap (λ (l : List ℕ). x ∷ l) q.0, q.1)

pub cut_some : (end : ℕ) (t : List ℕ) (b : ℕ) (r : List ℕ) → drop (before (λ b. b == end) t) t ≡ b ∷ r → (take (before (λ b. b == end) t) t ≡ (cut_at end t).0) × (Path (Option (List ℕ)) (Some r) (cut_at end t).1)
cut_some end [] b r e = absurd (cc)
cut_some end (x ∷ xs) b r e = some_step (x == end) (before (λ b. b == end) xs) (cut_at end xs) x xs b r (cut_some end xs b r) e

none_step : (c : Bool) (n : ℕ) (k : List ℕ × Option (List ℕ)) (x : ℕ) (xs : List ℕ)
    → (drop n xs ≡ [] → (take n xs ≡ k.0) × (Path (Option (List ℕ)) None k.1))
    → drop (cond c 0 (suc n)) (x ∷ xs) ≡ []
    → (take (cond c 0 (suc n)) (x ∷ xs) ≡ (cond {A = List ℕ × Option (List ℕ)} c ([], Some xs) (x ∷ k.0, k.1)).0) × (Path (Option (List ℕ)) None (cond {A = List ℕ × Option (List ℕ)} c ([], Some xs) (x ∷ k.0, k.1)).1)
none_step true n k x xs h e = absurd (cc)
none_step false n k x xs h e = let q = h e in (ap (λ (l : List ℕ). x ∷ l) q.0, q.1)

pub cut_none : (end : ℕ) (t : List ℕ) → drop (before (λ b. b == end) t) t ≡ [] → (take (before (λ b. b == end) t) t ≡ (cut_at end t).0) × (Path (Option (List ℕ)) None (cut_at end t).1)
cut_none end [] e = (refl, refl)
cut_none end (x ∷ xs) e = none_step (x == end) (before (λ b. b == end) xs) (cut_at end xs) x xs (cut_none end xs) e

-- front and behind

front_step : (c : Bool) (x : ℕ) (xs f : List ℕ) (k : List ℕ × Option (List ℕ)) → f ≡ k.0 → cond c [] (x ∷ f) ≡ (cond {A = List ℕ × Option (List ℕ)} c ([], Some xs) (x ∷ k.0, k.1)).0
front_step true x xs f k h = refl
front_step false x xs f k h = ap (λ (l : List ℕ). x ∷ l) h

pub front_cut : (end : ℕ) (t : List ℕ) → front end t ≡ (cut_at end t).0
front_cut end [] = refl
front_cut end (x ∷ xs) = front_step (x == end) x xs (front end xs) (cut_at end xs) (front_cut end xs)

-- what stands behind, or nothing
abbrev pub or_nothing : Option (List ℕ) → List ℕ
or_nothing None = []
or_nothing (Some r) = r

behind_step : (c : Bool) (x : ℕ) (xs f : List ℕ) (k : List ℕ × Option (List ℕ)) → f ≡ or_nothing k.1 → cond c xs f ≡ or_nothing (cond {A = List ℕ × Option (List ℕ)} c ([], Some xs) (x ∷ k.0, k.1)).1
behind_step true x xs f k h = refl
behind_step false x xs f k h = h

pub behind_cut : (end : ℕ) (t : List ℕ) → behind end t ≡ or_nothing (cut_at end t).1
behind_cut end [] = refl
behind_cut end (x ∷ xs) = behind_step (x == end) x xs (behind end xs) (cut_at end xs) (behind_cut end xs)

less_step : (c : Bool) (xs f : List ℕ) → length f ≤ length xs → length (cond c xs f) ≤ suc (length xs)
less_step true xs f h = omega arith
less_step false xs f h = omega arith

pub behind_less : (end : ℕ) (t : List ℕ) → length (behind end t) ≤ length t
behind_less end [] = omega arith
behind_less end (x ∷ xs) = less_step (x == end) xs (behind end xs) (behind_less end xs)

-- words

words_step : (c : Bool) (x : ℕ) (xs : List ℕ) (w : List (List ℕ)) (k : List ℕ × Option (List ℕ)) → w ≡ k.0 ∷ words_left k.1 → words_of xs ≡ w
    → cond c ([] ∷ words_of xs) (onto_first x w) ≡ (cond {A = List ℕ × Option (List ℕ)} c ([], Some xs) (x ∷ k.0, k.1)).0 ∷ words_left (cond {A = List ℕ × Option (List ℕ)} c ([], Some xs) (x ∷ k.0, k.1)).1
words_step true x xs w k h e = refl
words_step false x xs w k h e = ap (onto_first x) h

pub words_cut : (t : List ℕ) → words_of t ≡ (cut_at 32 t).0 ∷ words_left (cut_at 32 t).1
words_cut [] = refl
words_cut (x ∷ xs) = words_step (x == 32) x xs (words_of xs) (cut_at 32 xs) (words_cut xs) refl

-- the first line

and_true_right : (q : Bool) → (q && true) ≡ q
and_true_right true = refl
and_true_right false = refl

and_false_right : (q : Bool) → (q && false) ≡ false
and_false_right true = refl
and_false_right false = refl

-- the first line of bytes that are cut so
abbrev pub trimmed : List ℕ × Option (List ℕ) → List ℕ
trimmed (text, None) = text
trimmed (text, Some r) = without_cr text

begun_lf : (s : Bool) (b c : ℕ) (cs m : List ℕ) (k : List ℕ × Option (List ℕ)) → (s ≡ true → m ≡ []) → m ≡ trimmed (cond {A = List ℕ × Option (List ℕ)} s ([], Some cs) (c ∷ k.0, k.1))
    → cond ((b == 13) && s) [] (b ∷ m) ≡ trimmed (b ∷ (cond {A = List ℕ × Option (List ℕ)} s ([], Some cs) (c ∷ k.0, k.1)).0, (cond {A = List ℕ × Option (List ℕ)} s ([], Some cs) (c ∷ k.0, k.1)).1)
begun_lf true b c cs m k h i = ap₂ (λ (q : Bool) (l : List ℕ). cond q [] (b ∷ l)) (and_true_right (b == 13)) (h refl)
begun_lf false b c cs m (f, None) h i = ap (λ (q : Bool). cond q [] (b ∷ m)) (and_false_right (b == 13)) ∙ ap (λ (l : List ℕ). b ∷ l) i
begun_lf false b c cs m (f, Some r) h i = ap (λ (q : Bool). cond q [] (b ∷ m)) (and_false_right (b == 13)) ∙ ap (λ (l : List ℕ). b ∷ l) i

line_step : (p : Bool) (x : ℕ) (xs : List ℕ) (k : List ℕ × Option (List ℕ)) → cond ((x == 13) && begins_with_lf xs) [] (x ∷ first_line xs) ≡ trimmed (x ∷ k.0, k.1)
    → cond (p || (x == 13) && begins_with_lf xs) [] (x ∷ first_line xs) ≡ trimmed (cond {A = List ℕ × Option (List ℕ)} p ([], Some xs) (x ∷ k.0, k.1))
line_step true x xs k h = refl
line_step false x xs k h = h

lf_first : (c : ℕ) (cs : List ℕ) → (c == 10) ≡ true → first_line (c ∷ cs) ≡ []
lf_first c cs e = ap (λ (q : Bool). cond (q || (c == 13) && begins_with_lf cs) [] (c ∷ first_line cs)) e

line_below : (b : ℕ) (bs : List ℕ) → first_line bs ≡ trimmed (cut_at 10 bs) → cond ((b == 13) && begins_with_lf bs) [] (b ∷ first_line bs) ≡ trimmed (b ∷ (cut_at 10 bs).0, (cut_at 10 bs).1)
line_below b [] h = ap (λ (q : Bool). cond q [] (b ∷ [])) (and_false_right (b == 13))
line_below b (c ∷ cs) h = begun_lf (c == 10) b c cs (first_line (c ∷ cs)) (cut_at 10 cs) (lf_first c cs) h

pub line_cut_at : (t : List ℕ) → first_line t ≡ trimmed (cut_at 10 t)
line_cut_at [] = refl
line_cut_at (x ∷ xs) = line_step (x == 10) x xs (cut_at 10 xs) (line_below x xs (line_cut_at xs))

-- a CR at the end

push_cond : (c : Bool) (x : ℕ) (a b : List ℕ) → x ∷ cond c a b ≡ cond c (x ∷ a) (x ∷ b)
push_cond true x a b = refl
push_cond false x a b = refl

pub cr_last : (r : List ℕ) (l : ℕ) → without_cr (r ++ l ∷ []) ≡ cond (l == 13) r (r ++ l ∷ [])
cr_last [] l = refl
cr_last (x ∷ []) l = push_cond (l == 13) x [] (l ∷ [])
cr_last (x ∷ y ∷ ys) l = ap (λ (t : List ℕ). x ∷ t) (cr_last (y ∷ ys) l) ∙ push_cond (l == 13) x (y ∷ ys) (y ∷ (ys ++ l ∷ []))

-- what the code has cut

pub empty_by : (l : List ℕ) → length l ≡ 0 → l ≡ []
empty_by [] e = refl
empty_by (x ∷ xs) e = absurd (omega arith)

pub code_some : (end : ℕ) (t front rest : List ℕ) (n b : ℕ) (r : List ℕ) → n ≡ before (λ b. b == end) t → front ≡ take n t → rest ≡ drop n t → rest ≡ b ∷ r → (front ≡ (cut_at end t).0) × (Path (Option (List ℕ)) (Some r) (cut_at end t).1)
code_some end t front rest n b r e f g h =
    let q = cut_some end t b r (ap (λ (k : ℕ). drop k t) (sym e) ∙ sym g ∙ h) in
    (f ∙ ap (λ (k : ℕ). take k t) e ∙ q.0, q.1)

pub code_none : (end : ℕ) (t front rest : List ℕ) (n : ℕ) → n ≡ before (λ b. b == end) t → front ≡ take n t → rest ≡ drop n t → length rest ≡ 0 → (front ≡ (cut_at end t).0) × (Path (Option (List ℕ)) None (cut_at end t).1)
code_none end t front rest n e f g h =
    let q = cut_none end t (ap (λ (k : ℕ). drop k t) (sym e) ∙ sym g ∙ empty_by rest h) in
    (f ∙ ap (λ (k : ℕ). take k t) e ∙ q.0, q.1)

pub some_line : (t front : List ℕ) (o : Option (List ℕ)) (r : List ℕ) → front ≡ (cut_at 10 t).0 → o ≡ (cut_at 10 t).1 → Path (Option (List ℕ)) o (Some r) → (without_cr front ≡ first_line t) × (r ≡ behind 10 t)
some_line t front o r f g h = (
  sym (line_cut_at t ∙ ap₂ (λ (a : List ℕ) (b : Option (List ℕ)). trimmed (a, b)) (sym f) (sym g ∙ h)),
  sym (behind_cut 10 t ∙ ap or_nothing (sym g ∙ h)),
)

pub none_line : (t front : List ℕ) (o : Option (List ℕ)) → front ≡ (cut_at 10 t).0 → o ≡ (cut_at 10 t).1 → Path (Option (List ℕ)) o None → (front ≡ first_line t) × ([] ≡ behind 10 t)
none_line t front o f g h = (
  sym (line_cut_at t ∙ ap₂ (λ (a : List ℕ) (b : Option (List ℕ)). trimmed (a, b)) (sym f) (sym g ∙ h)),
  sym (behind_cut 10 t ∙ ap or_nothing (sym g ∙ h)),
)

pub code_word : (t word : List ℕ) (o : Option (List ℕ)) → word ≡ (cut_at 32 t).0 → o ≡ (cut_at 32 t).1 → words_of t ≡ word ∷ words_left o
code_word t word o f g = words_cut t ∙ ap₂ (λ (a : List ℕ) (b : Option (List ℕ)). a ∷ words_left b) (sym f) (sym g)

pub cr_here : (t r : List ℕ) (l : ℕ) → t ≡ r ++ l ∷ [] → l ≡ 13 → r ≡ without_cr t
cr_here t r l e f = sym (ap without_cr e ∙ cr_last r l ∙ cond-true (l == 13) r (r ++ l ∷ []) (ap (λ (n : ℕ). n == 13) f))

pub cr_not : (t r : List ℕ) (l : ℕ) → t ≡ r ++ l ∷ [] → (l == 13) ≡ false → t ≡ without_cr t
cr_not t r l e f = sym (ap without_cr e ∙ cr_last r l ∙ cond-false (l == 13) r (r ++ l ∷ []) f ∙ sym e)

pub cr_empty : (t : List ℕ) → length t ≡ 0 → t ≡ without_cr t
cr_empty [] e = refl
cr_empty (x ∷ xs) e = absurd (omega arith)

shorter_step : (c : Bool) (xs f : List ℕ) → length f ≤ length xs → length (cond c xs f) < suc (length xs)
shorter_step true xs f h = omega arith
shorter_step false xs f h = omega arith

pub behind_shorter : (end : ℕ) (t rest : List ℕ) → rest ≡ behind end t → 0 < length t → length rest < length t
behind_shorter end [] rest e some = absurd (omega arith)
behind_shorter end (x ∷ xs) rest e some = subst (λ (l : List ℕ). length l < suc (length xs)) (sym e) (shorter_step (x == end) xs (behind end xs) (behind_less end xs))

pub some_there : (t : List ℕ) → nat_eq (length t) 0 ≡ false → 0 < length t
some_there [] e = absurd (cc)
some_there (x ∷ xs) e = omega arith
