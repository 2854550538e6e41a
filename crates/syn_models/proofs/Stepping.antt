-- Statements one after the other, by numbers and in words.
use Rattle.std.proofs.Common.{◌≡◌, ℕ, zero, suc, ◌+◌, ◌<◌, ◌++◌, ◌&&◌, nat_lt, Bool, true, List, [], ◌∷◌, map, flat_map, length, take, drop, get_or, refl, sym, ap, ap₂, ◌∙◌, Option, None, arith}
use Rattle.std.specs.List.{list_all}
use Rattle.std.specs.Option.{option_or}
use Rattle.std.proofs.lemmas.Bool.{and_parts, and_from}
use Rattle.std.proofs.lemmas.List.{map-append}
use Rattle.syn_netlist.specs.Numbers.{word_at, words_at, all_below}
use Rattle.syn_netlist.proofs.Places.{all_below-append}
use Rattle.syn_models.specs.declared.flat_fault.FlatFault.{FlatFault}
use Rattle.syn_models.specs.declared.hierarchy.Bind.{Bind}
use Rattle.syn_models.specs.declared.hierarchy.Statement.{Statement}
use Rattle.syn_models.specs.declared.hierarchy.StatementKind.{StatementKind}
use Rattle.syn_models.specs.declared.hierarchy.StatementKind.TheVariants as kinds
use Rattle.syn_models.specs.Called.{actuals_below}
use Rattle.syn_models.specs.FlatFaults.{Check, defined_plainly, statement_fault, first_of_statements}
use Rattle.syn_models.specs.Kept.{actual_number, kind_in, numbers_in, statement_in, statements_below}
use Rattle.syn_models.specs.Listed.{plain_numbers, plain_in}
use Rattle.syn_models.specs.Marked.{above_of}
use Rattle.syn_models.specs.Models as models
use Rattle.syn_models.proofs.Listing.{left_from, taken_to}

-- what statements define by themselves

kind_plain : (names : List (List ℕ)) (kind : StatementKind) → words_at names (plain_numbers kind) ≡ defined_plainly (kind_in names kind)
kind_plain names (kinds.Inputs ns) = refl
kind_plain names (kinds.Outputs ns) = refl
kind_plain names (kinds.Clock ns) = refl
kind_plain names (kinds.Latch l) = refl
kind_plain names (kinds.Table t) = refl
kind_plain names (kinds.Subckt c) = refl

pub plain_words : (names : List (List ℕ)) (ss : List Statement) → words_at names (flat_map plain_in ss) ≡ flat_map (λ (s : models.Statement). defined_plainly s.kind) (map (statement_in names) ss)
plain_words names [] = refl
plain_words names (s ∷ ss) = map-append (word_at names) (plain_numbers s.kind) (flat_map plain_in ss) ∙ ap₂ (λ (a b : List (List ℕ)). a ++ b) (kind_plain names s.kind) (plain_words names ss)

one_below : (count n : ℕ) (rest : List ℕ) → all_below count (n ∷ rest) ≡ true → all_below count (n ∷ []) ≡ true
one_below count n rest h = and_from (nat_lt n count) true (and_parts (nat_lt n count) (all_below count rest) h).0 refl

kind_plain_below : (count : ℕ) (kind : StatementKind) → all_below count (numbers_in kind) ≡ true → all_below count (plain_numbers kind) ≡ true
kind_plain_below count (kinds.Inputs ns) h = h
kind_plain_below count (kinds.Outputs ns) h = refl
kind_plain_below count (kinds.Clock ns) h = h
kind_plain_below count (kinds.Latch l) h = second count l.feed l.output _ h
  where
    second : (count a b : ℕ) (rest : List ℕ) → all_below count (a ∷ b ∷ rest) ≡ true → all_below count (b ∷ []) ≡ true
    second count a b rest h = one_below count b rest (and_parts (nat_lt a count) (all_below count (b ∷ rest)) h).1
kind_plain_below count (kinds.Table t) h = one_below count t.output t.inputs h
kind_plain_below count (kinds.Subckt c) h = refl

pub plain_below : (count : ℕ) (ss : List Statement) → statements_below count ss ≡ true → all_below count (flat_map plain_in ss) ≡ true
plain_below count [] h = refl
plain_below count (s ∷ ss) h =
    let parts = and_parts (all_below count (numbers_in s.kind)) (statements_below count ss) h in
    all_below-append count (plain_numbers s.kind) (flat_map plain_in ss) (kind_plain_below count s.kind parts.0) (plain_below count ss parts.1)

pub actuals_are_below : (count : ℕ) (bs : List Bind) → all_below count (map actual_number bs) ≡ actuals_below count bs
actuals_are_below count [] = refl
actuals_are_below count (b ∷ bs) = ap (λ (t : Bool). nat_lt b.actual count && t) (actuals_are_below count bs)

-- a test of all that statements give holds of what one of them gives

all_front : {X : Type 0} (test : X → Bool) (xs ys : List X) → list_all test (xs ++ ys) ≡ true → (list_all test xs ≡ true) × (list_all test ys ≡ true)
all_front test [] ys a = (refl, a)
all_front test (x ∷ xs) ys a =
    let parts = and_parts (test x) (list_all test (xs ++ ys)) a in
    let more = all_front test xs ys parts.1 in
    (and_from (test x) (list_all test xs) parts.0 more.0, more.1)

pub at_statement : {X : Type 0} (test : X → Bool) (gives : models.StatementKind → List X) (names : List (List ℕ)) (ss : List Statement) (i : ℕ) (s : Statement)
    → list_all test (flat_map (λ (t : models.Statement). gives t.kind) (map (statement_in names) ss)) ≡ true → i < length ss → s ≡ get_or ss i s → list_all test (gives (kind_in names s.kind)) ≡ true
at_statement test gives names [] i s h l e = absurd (omega arith)
at_statement test gives names (x ∷ xs) zero s h l e =
    ap (λ (k : Statement). list_all test (gives (kind_in names k.kind))) e ∙ (all_front test (gives (kind_in names x.kind)) (flat_map (λ (t : models.Statement). gives t.kind) (map (statement_in names) xs)) h).0
at_statement test gives names (x ∷ xs) (suc i) s h l e =
    at_statement test gives names xs i s (all_front test (gives (kind_in names x.kind)) (flat_map (λ (t : models.Statement). gives t.kind) (map (statement_in names) xs)) h).1 (omega arith) e

-- the statements above, one on

above_push : (above ss : List models.Statement) (s : models.Statement) → above_of above (ss ++ s ∷ []) ≡ s ∷ above_of above ss
above_push above [] s = refl
above_push above (t ∷ ts) s = above_push (t ∷ above) ts s

pub above_on : (names : List (List ℕ)) (ss : List Statement) (i : ℕ) (s : Statement) → i < length ss → s ≡ get_or ss i s
    → above_of [] (map (statement_in names) (take (i + 1) ss)) ≡ statement_in names s ∷ above_of [] (map (statement_in names) (take i ss))
above_on names ss i s l e =
    ap (λ (xs : List Statement). above_of [] (map (statement_in names) xs)) (taken_to ss i s l e)
    ∙ ap (above_of []) (map-append (statement_in names) (take i ss) (s ∷ []))
    ∙ above_push [] (map (statement_in names) (take i ss)) (statement_in names s)

-- a statement without a fault leaves what is below it
pub statements_on : (list : List Check) (all : List models.Model) (m : models.Model) (names : List (List ℕ)) (ss : List Statement) (i : ℕ) (s : Statement) → i < length ss → s ≡ get_or ss i s
    → None ≡ statement_fault list all m (above_of [] (map (statement_in names) (take i ss))) s.line (kind_in names s.kind)
    → first_of_statements list all m (above_of [] (map (statement_in names) (take (i + 1) ss))) (map (statement_in names) (drop (i + 1) ss))
    ≡ first_of_statements list all m (above_of [] (map (statement_in names) (take i ss))) (map (statement_in names) (drop i ss))
statements_on list all m names ss i s l e none =
    let above : List models.Statement = above_of [] (map (statement_in names) (take i ss)) in
    let rest : List models.Statement = map (statement_in names) (drop (i + 1) ss) in
    ap (λ (a : List models.Statement). first_of_statements list all m a rest) (above_on names ss i s l e)
    ∙ ap (λ (o : Option FlatFault). option_or o (first_of_statements list all m (statement_in names s ∷ above) rest)) none
    ∙ sym (ap (λ (xs : List Statement). first_of_statements list all m above (map (statement_in names) xs)) (left_from ss i s l e))
