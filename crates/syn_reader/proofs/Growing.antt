-- Statements by numbers, as names are added.
use Rattle.std.proofs.Common.{◌≡◌, ℕ, ◌≤◌, ◌<◌, ◌&&◌, ◌||◌, nat_lt, true, false, List, [], ◌∷◌, ◌++◌, length, map, refl, sym, ap, ap₂, ◌∙◌, append_assoc, Bool, bytes_eq, inl, inr}
use Rattle.std.proofs.lemmas.Bool.{and_parts, and_from, ltb-true, lt-ltb, cases_Bool, cond-true, cond-false}
use Rattle.std.proofs.lemmas.List.{map-append}
use Rattle.std.proofs.lemmas.List.Folds.{list_all-append}
use Rattle.syn_netlist.specs.Numbers.{with_word, all_below, Grows}
use Rattle.syn_netlist.specs.Words.{has_word}
use Rattle.syn_netlist.proofs.Growing.{all_below-more, latch_in-grows, table_in-grows, word_at-grows, words_at-grows}
use Rattle.syn_netlist.proofs.Sets.{has_word-append, same_word}
use Rattle.syn_models.specs.declared.hierarchy.Bind.{Bind}
use Rattle.syn_models.specs.declared.hierarchy.Statement.{Statement}
use Rattle.syn_models.specs.declared.hierarchy.StatementKind.{StatementKind}
use Rattle.syn_models.specs.declared.hierarchy.StatementKind.TheVariants as said
use Rattle.syn_models.specs.Called.{actuals_below}
use Rattle.syn_models.specs.Kept.{actual_number, bind_in, kind_in, numbers_in, statement_in, statements_below}
use Rattle.syn_models.specs.Models as models
use Rattle.syn_reader.specs.Marking.{with_words}

pub binds_in-grows : (names more : List (List ℕ)) (binds : List Bind) → Grows names more → all_below (length names) (map actual_number binds) ≡ true → map (bind_in more) binds ≡ map (bind_in names) binds
binds_in-grows names more [] g h = refl
binds_in-grows names more (b ∷ bs) g h =
    let p = and_parts (nat_lt b.actual (length names)) (all_below (length names) (map actual_number bs)) h in
    ap₂ (λ (w : List ℕ) (l : List models.Bind). record { formal = b.formal; actual = w } ∷ l) (word_at-grows names more b.actual g (ltb-true b.actual (length names) p.0)) (binds_in-grows names more bs g p.1)

pub below_actuals : (count : ℕ) (binds : List Bind) → actuals_below count binds ≡ all_below count (map actual_number binds)
below_actuals count [] = refl
below_actuals count (b ∷ bs) = ap (λ t. nat_lt b.actual count && t) (below_actuals count bs)

-- one more bind by numbers
pub bind_more : (names more : List (List ℕ)) (made items : List Bind) (b : Bind) (bind : models.Bind) (left rest all : List models.Bind) → items ≡ made ++ b ∷ [] → Grows names more → actuals_below (length names) made ≡ true
    → bind_in more b ≡ bind → left ≡ bind ∷ rest → map (bind_in names) made ++ left ≡ all → map (bind_in more) items ++ rest ≡ all
bind_more names more made items b bind left rest all i g h e l a =
    ap (λ (x : List Bind). map (bind_in more) x ++ rest) i
    ∙ (ap (λ (x : List models.Bind). x ++ rest) (map-append (bind_in more) made (b ∷ []))
    ∙ (append_assoc (map (bind_in more) made) (bind_in more b ∷ []) rest
    ∙ (ap₂ (λ (x : List models.Bind) (y : models.Bind). x ++ y ∷ rest) (binds_in-grows names more made g (sym (below_actuals (length names) made) ∙ h)) e
    ∙ (ap (λ (x : List models.Bind). map (bind_in names) made ++ x) (sym l) ∙ a))))

pub actuals_more : (m n : ℕ) (made items : List Bind) (b : Bind) → items ≡ made ++ b ∷ [] → m ≤ n → actuals_below m made ≡ true → b.actual < n → actuals_below n items ≡ true
actuals_more m n made items b i le h lt =
    ap (actuals_below n) i
    ∙ (list_all-append (λ (x : Bind). nat_lt x.actual n) made (b ∷ [])
    ∙ and_from (actuals_below n made) (nat_lt b.actual n && true) (below_actuals n made ∙ all_below-more m n (map actual_number made) le (sym (below_actuals m made) ∙ h)) (and_from (nat_lt b.actual n) true (lt-ltb b.actual n lt) refl))

kind_in-grows : (names more : List (List ℕ)) (kind : StatementKind) → Grows names more → all_below (length names) (numbers_in kind) ≡ true → kind_in more kind ≡ kind_in names kind
kind_in-grows names more (said.Inputs numbers) g h = ap models.Inputs (words_at-grows names more numbers g h)
kind_in-grows names more (said.Outputs numbers) g h = ap models.Outputs (words_at-grows names more numbers g h)
kind_in-grows names more (said.Clock numbers) g h = ap models.Clock (words_at-grows names more numbers g h)
kind_in-grows names more (said.Latch latch) g h = ap models.OneLatch (latch_in-grows names more latch g h)
kind_in-grows names more (said.Table table) g h = ap models.OneTable (table_in-grows names more table g h)
kind_in-grows names more (said.Subckt c) g h = ap (λ (binds : List models.Bind). models.OneSubcircuit (record { model = c.model; binds = binds })) (binds_in-grows names more c.binds g h)

pub statements_in-grows : (names more : List (List ℕ)) (statements : List Statement) → Grows names more → statements_below (length names) statements ≡ true → map (statement_in more) statements ≡ map (statement_in names) statements
statements_in-grows names more [] g h = refl
statements_in-grows names more (s ∷ ss) g h =
    let p = and_parts (all_below (length names) (numbers_in s.kind)) (statements_below (length names) ss) h in
    ap₂ (λ (k : models.StatementKind) (l : List models.Statement). record { line = s.line; kind = k } ∷ l) (kind_in-grows names more s.kind g p.0) (statements_in-grows names more ss g p.1)

pub statements_below-more : (m n : ℕ) (statements : List Statement) → m ≤ n → statements_below m statements ≡ true → statements_below n statements ≡ true
statements_below-more m n [] le h = refl
statements_below-more m n (s ∷ ss) le h =
    let p = and_parts (all_below m (numbers_in s.kind)) (statements_below m ss) h in
    and_from (all_below n (numbers_in s.kind)) (statements_below n ss) (all_below-more m n (numbers_in s.kind) le p.0) (statements_below-more m n ss le p.1)

-- which words are names after more were put behind them
pub has_with_word : (names : List (List ℕ)) (x w : List ℕ) → has_word (with_word names x) w ≡ (has_word names w || bytes_eq x w)
has_with_word names x w = elim (cases_Bool (has_word names x)) [
  | inl e ↦ ap (λ l. has_word l w) (cond-true (has_word names x) names (names ++ x ∷ []) e) ∙ known (bytes_eq x w) refl e
  | inr e ↦ ap (λ l. has_word l w) (cond-false (has_word names x) names (names ++ x ∷ []) e) ∙ (has_word-append names (x ∷ []) w ∙ ap (λ b. has_word names w || b) (or_false (bytes_eq x w)))
]
  where
    or_false : (b : Bool) → (b || false) ≡ b
    or_false true = refl
    or_false false = refl

    known : (b : Bool) → bytes_eq x w ≡ b → has_word names x ≡ true → has_word names w ≡ (has_word names w || b)
    known false q h = sym (or_false (has_word names w))
    known true q h = let t : has_word names w ≡ true = ap (has_word names) (sym (same_word x w q)) ∙ h in t ∙ sym (ap (λ b. b || true) t)

pub has_with_words : (names ws : List (List ℕ)) (w : List ℕ) → has_word (with_words names ws) w ≡ (has_word names w || has_word ws w)
has_with_words names [] w = sym (or_false (has_word names w))
  where
    or_false : (b : Bool) → (b || false) ≡ b
    or_false true = refl
    or_false false = refl
has_with_words names (x ∷ xs) w = has_with_words (with_word names x) xs w ∙ (ap (λ b. b || has_word xs w) (has_with_word names x w) ∙ again (has_word names w) (bytes_eq x w) (has_word xs w))
  where
    again : (a b c : Bool) → ((a || b) || c) ≡ (a || (b || c))
    again true b c = refl
    again false b c = refl
