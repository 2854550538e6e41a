-- The statements of one model, and rows in front of them.
use Rattle.std.proofs.Common.{◌≡◌, ℕ, ◌+◌, ◌&&◌, Bool, true, false, if◌then◌else◌, List, [], ◌∷◌, length, refl, sym, ap, ◌∙◌, Option, Some, None, option_and_then, arith}
use Rattle.std.specs.List.{onto_first}
use Rattle.std.specs.Option.{option_or}
use Rattle.std.proofs.lemmas.Bool.{cond-true, cond-false}
use Rattle.syn_models.specs.Models as models
use Rattle.syn_reader.specs.Heard.{statement}
use Rattle.syn_reader.specs.Rows.{below_rows, output_with, row_fault, rows_fault}
use Rattle.syn_reader.specs.Statements.{Statement, is_model, is_row, rows_below}
use Rattle.syn_reader.proofs.LineLaws.{row_kind}
use Rattle.syn_reader.specs.Computed.{said_of}
use Rattle.syn_reader.specs.Gathers.{row_total}
use Rattle.syn_reader.specs.Owned.{behind, own}
use Rattle.syn_reader.specs.Parted.{parted, words_in, words_of}

-- a row is no `.model`
row_owned : (many : Bool) (s : Statement) → is_row s.kind ≡ true → (many && is_model s.kind) ≡ false
row_owned many s k = ap (λ j. many && is_model j) (row_kind s.kind k) ∙ never many
  where
    never : (b : Bool) → (b && false) ≡ false
    never true = refl
    never false = refl

pub own_next : (many : Bool) (s : Statement) (ss : List Statement) → (many && is_model s.kind) ≡ false → own many (s ∷ ss) ≡ s ∷ own many ss
own_next many s ss h = cond-false (many && is_model s.kind) [] (s ∷ own many ss) h

pub behind_next : (many : Bool) (s : Statement) (ss : List Statement) → (many && is_model s.kind) ≡ false → behind many (s ∷ ss) ≡ behind many ss
behind_next many s ss h = cond-false (many && is_model s.kind) (s ∷ ss) (behind many ss) h

pub own_end : (many : Bool) (s : Statement) (ss : List Statement) → (many && is_model s.kind) ≡ true → own many (s ∷ ss) ≡ []
own_end many s ss h = cond-true (many && is_model s.kind) [] (s ∷ own many ss) h

pub behind_end : (many : Bool) (s : Statement) (ss : List Statement) → (many && is_model s.kind) ≡ true → behind many (s ∷ ss) ≡ s ∷ ss
behind_end many s ss h = cond-true (many && is_model s.kind) (s ∷ ss) (behind many ss) h

-- the rows in front are of the model
pub rows_own : (many : Bool) (ss : List Statement) → rows_below (own many ss) ≡ rows_below ss
rows_own many [] = refl
rows_own many (s ∷ ss) = go (many && is_model s.kind) (is_row s.kind) refl refl (rows_own many ss)
  where
    go : (m b : Bool) → (many && is_model s.kind) ≡ m → is_row s.kind ≡ b → rows_below (own many ss) ≡ rows_below ss
        → rows_below (if m then [] else s ∷ own many ss) ≡ (if b then s.words ∷ rows_below ss else [])
    go m true e k ih = ap (λ t. rows_below (if t then [] else s ∷ own many ss)) (sym e ∙ row_owned many s k) ∙ (cond-true (is_row s.kind) (s.words ∷ rows_below (own many ss)) [] k ∙ ap (λ (l : List (List (List ℕ))). s.words ∷ l) ih)
    go true false e k ih = refl
    go false false e k ih = cond-false (is_row s.kind) (s.words ∷ rows_below (own many ss)) [] k

pub below_own : (many : Bool) (ss : List Statement) → below_rows (own many ss) ≡ own many (below_rows ss)
below_own many [] = refl
below_own many (s ∷ ss) = go (many && is_model s.kind) (is_row s.kind) refl refl (below_own many ss)
  where
    go : (m b : Bool) → (many && is_model s.kind) ≡ m → is_row s.kind ≡ b → below_rows (own many ss) ≡ own many (below_rows ss)
        → below_rows (if m then [] else s ∷ own many ss) ≡ own many (if b then below_rows ss else s ∷ ss)
    go m true e k ih = ap (λ t. below_rows (if t then [] else s ∷ own many ss)) (sym e ∙ row_owned many s k) ∙ (cond-true (is_row s.kind) (below_rows (own many ss)) (s ∷ own many ss) k ∙ ih)
    go true false e k ih = sym (own_end many s ss e)
    go false false e k ih = cond-false (is_row s.kind) (below_rows (own many ss)) (s ∷ own many ss) k ∙ sym (own_next many s ss e)

pub below_behind : (many : Bool) (ss : List Statement) → behind many (below_rows ss) ≡ behind many ss
below_behind many [] = refl
below_behind many (s ∷ ss) = go (is_row s.kind) refl (below_behind many ss)
  where
    go : (b : Bool) → is_row s.kind ≡ b → behind many (below_rows ss) ≡ behind many ss → behind many (if b then below_rows ss else s ∷ ss) ≡ behind many (s ∷ ss)
    go true k ih = ih ∙ sym (behind_next many s ss (row_owned many s k))
    go false k ih = refl

pub fault_own : (many : Bool) (n : ℕ) (on : Option Bool) (ss : List Statement) → rows_fault n on (own many ss) ≡ rows_fault n on ss
fault_own many n on [] = refl
fault_own many n on (s ∷ ss) = go (many && is_model s.kind) (is_row s.kind) refl refl (fault_own many n (Some (output_with on s.words)) ss)
  where
    out : Option Bool
    out = Some (output_with on s.words)

    go : (m b : Bool) → (many && is_model s.kind) ≡ m → is_row s.kind ≡ b → rows_fault n out (own many ss) ≡ rows_fault n out ss
        → rows_fault n on (if m then [] else s ∷ own many ss) ≡ (if b then option_or (row_fault n on s) (rows_fault n out ss) else None)
    go m true e k ih = ap (λ t. rows_fault n on (if t then [] else s ∷ own many ss)) (sym e ∙ row_owned many s k) ∙ (cond-true (is_row s.kind) (option_or (row_fault n on s) (rows_fault n out (own many ss))) None k ∙ ap (option_or (row_fault n on s)) ih)
    go true false e k ih = refl
    go false false e k ih = cond-false (is_row s.kind) (option_or (row_fault n on s) (rows_fault n out (own many ss))) None k

-- what the rows say, and how many words they have
same_option : (o : Option (List models.Statement)) → option_and_then (λ r. Some r) o ≡ o
same_option None = refl
same_option (Some r) = refl

pub rows_said : (ss : List Statement) → said_of ss ≡ said_of (below_rows ss)
rows_said [] = refl
rows_said (s ∷ ss) = go (is_row s.kind) refl (rows_said ss)
  where
    go : (b : Bool) → is_row s.kind ≡ b → said_of ss ≡ said_of (below_rows ss) → said_of (s ∷ ss) ≡ said_of (if b then below_rows ss else s ∷ ss)
    go false k ih = refl
    go true k ih = ap (λ j. said_of (statement s.line j s.words ∷ ss)) (row_kind s.kind k) ∙ (same_option (said_of ss) ∙ ih)

pub rows_words : (ss : List Statement) → words_of ss ≡ row_total (rows_below ss) + words_of (below_rows ss)
rows_words [] = refl
rows_words (s ∷ ss) = go (is_row s.kind) refl (rows_words ss)
  where
    go : (b : Bool) → is_row s.kind ≡ b → words_of ss ≡ row_total (rows_below ss) + words_of (below_rows ss)
        → words_in s + words_of ss ≡ row_total (if b then s.words ∷ rows_below ss else []) + words_of (if b then below_rows ss else s ∷ ss)
    go false k ih = omega arith
    go true k ih = let e : words_in s ≡ length s.words = ap (λ j. words_in (statement s.line j s.words)) (row_kind s.kind k) in omega (arith, e, ih)

-- the first model, and those below it
pub parted_own : (s : Statement) (ss : List Statement) → parted (s ∷ ss) ≡ (s ∷ own true ss) ∷ parted (behind true ss)
parted_own s [] = refl
parted_own s (t ∷ ts) = go (is_model t.kind) refl (parted_own t ts)
  where
    go : (b : Bool) → is_model t.kind ≡ b → parted (t ∷ ts) ≡ (t ∷ own true ts) ∷ parted (behind true ts)
        → (if b then (s ∷ []) ∷ parted (t ∷ ts) else onto_first s (parted (t ∷ ts))) ≡ (s ∷ (if b then [] else t ∷ own true ts)) ∷ parted (if b then t ∷ ts else behind true ts)
    go true k ih = refl
    go false k ih = ap (onto_first s) ih

pub own_all : (ss : List Statement) → own false ss ≡ ss
own_all [] = refl
own_all (s ∷ ss) = ap (λ (l : List Statement). s ∷ l) (own_all ss)

pub behind_none : (ss : List Statement) → behind false ss ≡ []
behind_none [] = refl
behind_none (s ∷ ss) = behind_none ss
