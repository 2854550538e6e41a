-- Models of a file, one after the other.
use Rattle.std.proofs.Common.{◌≡◌, ℕ, suc, ◌≤◌, ◌&&◌, nat_le, Bool, true, false, if◌then◌else◌, List, [], ◌∷◌, ◌++◌, length, map, refl, sym, ap, ap₂, ◌∙◌, subst, inl, inr, ◌⊎◌, Some, None, arith, append_assoc}
use Rattle.std.specs.List.{list_all}
use Rattle.std.specs.Option.{option_or}
use Rattle.std.proofs.lemmas.Bool.{and_from, both_ways, cond-false, cond-true}
use Rattle.std.proofs.lemmas.Bool.Decides.{nat_tests}
use Rattle.std.proofs.lemmas.List.{map-append}
use Rattle.std.proofs.lemmas.List.Folds.{list_all-append}
use Rattle.syn_models.specs.declared.hierarchy.Model.{Model}
use Rattle.syn_models.specs.Models as words
use Rattle.syn_models.specs.Models.{name_of}
use Rattle.syn_models.specs.Views.{all_counted, model_in}
use Rattle.syn_reader.specs.declared.Kind.{Kind}
use Rattle.syn_reader.specs.declared.Kind.TheVariants as kinds
use Rattle.syn_reader.specs.Faults.{Fault}
use Rattle.syn_reader.specs.LineFaults.{first_fault_of_lines}
use Rattle.syn_reader.specs.Statements.{Statement, begins_model, is_end, is_model, is_row}
use Rattle.syn_reader.specs.ModelFaults.{first_fault_of_models, model_checks}
use Rattle.syn_reader.specs.Owned.{behind, first, others}
use Rattle.syn_reader.specs.Parted.{by_model, name_in, parted, words_in, words_of}
use Rattle.syn_reader.specs.Saying.{SpellAll, SpellModel}
use Rattle.syn_reader.proofs.Owning.{parted_own}
use Rattle.syn_reader.proofs.Beginning.{first_all, others_none}

-- the first of the models
pub parted_first : (ss : List Statement) → begins_model ss ≡ true → parted ss ≡ first true ss ∷ parted (others true ss)
parted_first [] h = absurd (both_ways false refl h)
parted_first (s ∷ ss) h = parted_own s ss

pub by_first : (many : Bool) (ss : List Statement) → begins_model ss ≡ many → by_model ss ≡ first many ss ∷ parted (others many ss)
by_first true ss h = cond-true (begins_model ss) (parted ss) (ss ∷ []) h ∙ parted_first ss h
by_first false ss h = cond-false (begins_model ss) (parted ss) (ss ∷ []) h ∙ ap₂ (λ (a b : List Statement). a ∷ parted b) (sym (first_all ss)) (sym (others_none ss))

-- below the first model nothing stands, or another model
behind_begins : (ss : List Statement) → (behind true ss ≡ []) ⊎ (begins_model (behind true ss) ≡ true)
behind_begins [] = inl refl
behind_begins (s ∷ ss) = go (is_model s.kind) refl (behind_begins ss)
  where
    go : (b : Bool) → is_model s.kind ≡ b → (behind true ss ≡ []) ⊎ (begins_model (behind true ss) ≡ true) → ((if b then s ∷ ss else behind true ss) ≡ []) ⊎ (begins_model (if b then s ∷ ss else behind true ss) ≡ true)
    go true k h = inr k
    go false k h = h

-- What is left is of a file of models, or nothing.
abbrev pub IsSettled : Bool → List Statement → Type 0
IsSettled many ss = (ss ≡ []) ⊎ ((many ≡ true) × (begins_model ss ≡ true))

pub settles : (many : Bool) (ss left : List Statement) → left ≡ others many ss → IsSettled many left
settles true [] left e = inl e
settles true (s ∷ ss) left e = elim (behind_begins ss) [ inl h ↦ inl (e ∙ h) | inr h ↦ inr (refl, ap begins_model e ∙ h) ]
settles false ss left e = inl (e ∙ others_none ss)

pub still_many : (many : Bool) (ss : List Statement) → IsSettled many ss → begins_model ss ≡ true → many ≡ true
still_many many ss (inl e) h = absurd (both_ways (begins_model ss) (ap begins_model e) h)
still_many many ss (inr p) h = p.0

pub all_read : (many : Bool) (ss : List Statement) → IsSettled many ss → begins_model ss ≡ false → ss ≡ []
all_read many ss (inl e) h = e
all_read many ss (inr p) h = absurd (both_ways (begins_model ss) h p.1)

-- one more model is read: of the models that are left, the first
abbrev pub GoesOn : List (List Statement) → List (List Statement) → List (List ℕ) → List words.Model → Type 0
GoesOn all left names ms = (first_fault_of_models names left ≡ first_fault_of_models [] all) × ((more : List words.Model) → SpellAll left more → SpellAll all (ms ++ more))

pub begins_all : (all : List (List Statement)) → GoesOn all all [] []
begins_all all = (refl, λ more h. h)

pub one_more : (all left rest : List (List Statement)) (names : List (List ℕ)) (ms : List words.Model) (ss : List Statement) (m : words.Model) → GoesOn all left names ms → left ≡ ss ∷ rest → first_fault_of_lines (model_checks names) [] ss ≡ None → SpellModel ss m
    → GoesOn all rest (names ++ name_in ss ∷ []) (ms ++ m ∷ [])
one_more all left rest names ms ss m g e f s = (
  sym (ap (λ o. option_or o (first_fault_of_models (names ++ name_in ss ∷ []) rest)) f) ∙ (ap (first_fault_of_models names) (sym e) ∙ g.0),
  λ more h. subst (SpellAll all) (sym (append_assoc ms (m ∷ []) more)) (g.1 (m ∷ more) (subst (λ l. SpellAll l (m ∷ more)) (sym e) (s, h))),
)

pub stops_here : (all left rest : List (List Statement)) (names : List (List ℕ)) (ms : List words.Model) (ss : List Statement) (f : Fault) → GoesOn all left names ms → left ≡ ss ∷ rest → first_fault_of_lines (model_checks names) [] ss ≡ Some f → first_fault_of_models [] all ≡ Some f
stops_here all left rest names ms ss f g e h = sym g.0 ∙ (ap (first_fault_of_models names) e ∙ ap (λ o. option_or o (first_fault_of_models (names ++ name_in ss ∷ []) rest)) h)

-- the models that are there
pub in_words : (models items : List Model) (m : Model) → items ≡ models ++ m ∷ [] → map model_in items ≡ map model_in models ++ model_in m ∷ []
in_words models items m e = ap (map model_in) e ∙ map-append model_in models (m ∷ [])

pub names_more : (models items : List Model) (m : Model) (names more : List (List ℕ)) (name : List ℕ) → items ≡ models ++ m ∷ [] → names ≡ map name_of (map model_in models) → more ≡ names ++ name ∷ [] → m.name ≡ name → more ≡ map name_of (map model_in items)
names_more models items m names more name e n o k =
    o ∙ (ap₂ (λ (l : List (List ℕ)) (w : List ℕ). l ++ w ∷ []) n (sym k)
    ∙ (sym (map-append name_of (map model_in models) (model_in m ∷ [])) ∙ ap (map name_of) (sym (in_words models items m e))))

pub counted_more : (models items : List Model) (m : Model) → items ≡ models ++ m ∷ [] → 1 ≤ length models → all_counted models ≡ true → 1 ≤ m.words → all_counted items ≡ true
counted_more [] items m e some h w = absurd (omega (arith, some))
counted_more (main ∷ ms) items m e some h w =
    ap all_counted e
    ∙ (list_all-append (λ (x : Model). nat_le 1 x.words) ms (m ∷ []) ∙ and_from (list_all (λ (x : Model). nat_le 1 x.words) ms) (nat_le 1 m.words && true) h (and_from (nat_le 1 m.words) true (let t : nat_le 1 m.words ≡ true = grind (arith, nat_tests, w) in t) refl))

-- a `.model` line has a word
pub has_words : (ss : List Statement) → begins_model ss ≡ true → 1 ≤ words_of (first true ss)
has_words [] h = absurd (both_ways false refl h)
has_words (s ∷ ss) h = let e = model_line s h in omega (arith, e)
  where
    model_line : (s : Statement) → is_model s.kind ≡ true → words_in s ≡ suc (length s.words)
    model_line s k = by_kind s.kind s.words k
      where
        by_kind : (j : Kind) (ws : List (List ℕ)) → is_model j ≡ true → (if is_row j then length ws else if is_end j then 0 else suc (length ws)) ≡ suc (length ws)
        by_kind kinds.Model ws k = refl
        by_kind kinds.Row ws k = absurd (both_ways false refl k)
        by_kind kinds.Unknown ws k = absurd (both_ways false refl k)
        by_kind kinds.Inputs ws k = absurd (both_ways false refl k)
        by_kind kinds.Outputs ws k = absurd (both_ways false refl k)
        by_kind kinds.Clock ws k = absurd (both_ways false refl k)
        by_kind kinds.Names ws k = absurd (both_ways false refl k)
        by_kind kinds.Latch ws k = absurd (both_ways false refl k)
        by_kind kinds.Subckt ws k = absurd (both_ways false refl k)
        by_kind kinds.End ws k = absurd (both_ways false refl k)

pub parted_by : (many : Bool) (ss : List Statement) → many ≡ true → begins_model ss ≡ true → parted ss ≡ first many ss ∷ parted (others many ss)
parted_by many ss m h = parted_first ss h ∙ ap (λ b. first b ss ∷ parted (others b ss)) (sym m)

-- the same by equal parts
pub moves : (all : List (List Statement)) (left now : List Statement) (names more : List (List ℕ)) (ms out : List words.Model) → now ≡ left → more ≡ names → out ≡ ms → GoesOn all (parted left) names ms → GoesOn all (parted now) more out
moves all left now names more ms out a b c g =
    subst (λ (l : List Statement). GoesOn all (parted l) more out) (sym a) (subst (λ (n : List (List ℕ)). GoesOn all (parted left) n out) (sym b) (subst (λ (m : List words.Model). GoesOn all (parted left) names m) (sym c) g))
