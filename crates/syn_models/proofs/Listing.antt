-- Ports by numbers, and models by the place of their name.
use Rattle.std.proofs.Common.{◌≡◌, ℕ, zero, suc, ◌+◌, ◌<◌, ◌++◌, nat_lt, not, Bool, true, false, List, [], ◌∷◌, map, flat_map, length, take, drop, get_or, slice_index_or, bytes_eq, refl, sym, ap, ap₂, ◌∙◌, subst, Some, None, arith}
use Rattle.std.proofs.lemmas.Bool.{and_parts, cond-true, cond-false, both_ways, not-true, false_from_ne_true, or_parts, or_from, ltb-true}
use Rattle.std.proofs.lemmas.List.{map-append, length-map, take_more, drop_more}
use Rattle.syn_netlist.specs.Words.{has_word, distinct}
use Rattle.syn_netlist.specs.Numbers.{word_at, words_at, all_below, with_word}
use Rattle.syn_netlist.specs.Marks.{AreMarks}
use Rattle.syn_netlist.proofs.Sets.{same_word, word_same}
use Rattle.syn_netlist.proofs.Places.{has_words, has_word_at, all_below-append}
use Rattle.syn_models.specs.declared.hierarchy.Model as code
use Rattle.syn_models.specs.declared.hierarchy.Statement.{Statement}
use Rattle.syn_models.specs.declared.hierarchy.StatementKind.{StatementKind}
use Rattle.syn_models.specs.declared.hierarchy.StatementKind.TheVariants as kinds
use Rattle.syn_models.specs.declared.ports.Ports.{Ports}
use Rattle.syn_models.specs.declared.ports.Role.{Role}
use Rattle.syn_models.specs.declared.ports.Role.TheVariants as roles
use Rattle.syn_models.specs.Kept.{kind_in, statement_in, statements_below, numbers_in}
use Rattle.syn_models.specs.Listed.{numbers_listed, listed_in, words_listed, ArePorts, AllPorts}
use Rattle.syn_models.specs.Models as models
use Rattle.syn_models.specs.Models.{name_of, model_named}
use Rattle.syn_models.specs.Views.{model_in}

-- what is left from the place of an element on
pub left_from : {X : Type 0} → (xs : List X) (i : ℕ) (x : X) → i < length xs → x ≡ get_or xs i x → drop i xs ≡ x ∷ drop (i + 1) xs
left_from xs i x l e = drop_more xs i x l ∙ ap (λ y. y ∷ drop (i + 1) xs) (sym e)

-- what is taken up to an element, with it
pub taken_to : {X : Type 0} → (xs : List X) (i : ℕ) (x : X) → i < length xs → x ≡ get_or xs i x → take (i + 1) xs ≡ take i xs ++ x ∷ []
taken_to xs i x l e = take_more xs i x l ∙ ap (λ y. take i xs ++ y ∷ []) (sym e)

-- what statements list by numbers is what they list in words

kind_listed : (names : List (List ℕ)) (role : Role) (kind : StatementKind) → words_at names (numbers_listed role kind) ≡ words_listed role (kind_in names kind)
kind_listed names roles.Input (kinds.Inputs ns) = refl
kind_listed names roles.Input (kinds.Outputs ns) = refl
kind_listed names roles.Input (kinds.Clock ns) = refl
kind_listed names roles.Input (kinds.Latch l) = refl
kind_listed names roles.Input (kinds.Table t) = refl
kind_listed names roles.Input (kinds.Subckt c) = refl
kind_listed names roles.Clock (kinds.Inputs ns) = refl
kind_listed names roles.Clock (kinds.Outputs ns) = refl
kind_listed names roles.Clock (kinds.Clock ns) = refl
kind_listed names roles.Clock (kinds.Latch l) = refl
kind_listed names roles.Clock (kinds.Table t) = refl
kind_listed names roles.Clock (kinds.Subckt c) = refl
kind_listed names roles.Output (kinds.Inputs ns) = refl
kind_listed names roles.Output (kinds.Outputs ns) = refl
kind_listed names roles.Output (kinds.Clock ns) = refl
kind_listed names roles.Output (kinds.Latch l) = refl
kind_listed names roles.Output (kinds.Table t) = refl
kind_listed names roles.Output (kinds.Subckt c) = refl

pub words_of_listed : (names : List (List ℕ)) (role : Role) (ss : List Statement) → words_at names (flat_map (listed_in role) ss) ≡ flat_map (λ (s : models.Statement). words_listed role s.kind) (map (statement_in names) ss)
words_of_listed names role [] = refl
words_of_listed names role (s ∷ ss) = map-append (word_at names) (numbers_listed role s.kind) (flat_map (listed_in role) ss) ∙ ap₂ (λ (a b : List (List ℕ)). a ++ b) (kind_listed names role s.kind) (words_of_listed names role ss)

kind_below : (count : ℕ) (role : Role) (kind : StatementKind) → all_below count (numbers_in kind) ≡ true → all_below count (numbers_listed role kind) ≡ true
kind_below count roles.Input (kinds.Inputs ns) h = h
kind_below count roles.Input (kinds.Outputs ns) h = refl
kind_below count roles.Input (kinds.Clock ns) h = refl
kind_below count roles.Input (kinds.Latch l) h = refl
kind_below count roles.Input (kinds.Table t) h = refl
kind_below count roles.Input (kinds.Subckt c) h = refl
kind_below count roles.Clock (kinds.Inputs ns) h = refl
kind_below count roles.Clock (kinds.Outputs ns) h = refl
kind_below count roles.Clock (kinds.Clock ns) h = h
kind_below count roles.Clock (kinds.Latch l) h = refl
kind_below count roles.Clock (kinds.Table t) h = refl
kind_below count roles.Clock (kinds.Subckt c) h = refl
kind_below count roles.Output (kinds.Inputs ns) h = refl
kind_below count roles.Output (kinds.Outputs ns) h = h
kind_below count roles.Output (kinds.Clock ns) h = refl
kind_below count roles.Output (kinds.Latch l) h = refl
kind_below count roles.Output (kinds.Table t) h = refl
kind_below count roles.Output (kinds.Subckt c) h = refl

pub listed_below : (count : ℕ) (role : Role) (ss : List Statement) → statements_below count ss ≡ true → all_below count (flat_map (listed_in role) ss) ≡ true
listed_below count role [] h = refl
listed_below count role (s ∷ ss) h =
    let parts = and_parts (all_below count (numbers_in s.kind)) (statements_below count ss) h in
    all_below-append count (numbers_listed role s.kind) (flat_map (listed_in role) ss) (kind_below count role s.kind parts.0) (listed_below count role ss parts.1)

-- a word that isn't among the names isn't the word of a number
not_among : (names : List (List ℕ)) (numbers : List ℕ) (word : List ℕ) → all_below (length names) numbers ≡ true → has_word names word ≡ false → has_word (words_at names numbers) word ≡ false
not_among names [] word b h = refl
not_among names (n ∷ ns) word b h =
    let parts = and_parts (nat_lt n (length names)) (all_below (length names) ns) b in
    or_from (bytes_eq (word_at names n) word) (has_word (words_at names ns) word)
    (false_from_ne_true (bytes_eq (word_at names n) word) (λ e. both_ways (has_word names word) h (subst (λ (w : List ℕ). has_word names w ≡ true) (same_word (word_at names n) word e) (has_word_at names n (ltb-true n (length names) parts.0)))))
    (not_among names ns word parts.1 h)

-- marks of numbers tell which names are among words
pub marks_tell : (names : List (List ℕ)) (numbers : List ℕ) (words : List (List ℕ)) (marks : List Bool) → distinct names ≡ true → all_below (length names) numbers ≡ true → words_at names numbers ≡ words → length marks ≡ length names → AreMarks numbers marks
    → (i : ℕ) → i < length names → slice_index_or marks i false ≡ has_word words (word_at names i)
marks_tell names numbers words marks d b e size are i l =
    are.at i (subst (λ (k : ℕ). i < k) (sym size) l) ∙ sym (has_words names numbers i d b l) ∙ ap (λ (ws : List (List ℕ)). has_word ws (word_at names i)) e

pub reading_below : (m : code.Model) → all_below (length m.names) (flat_map (listed_in roles.Input) m.statements ++ flat_map (listed_in roles.Clock) m.statements) ≡ true
reading_below m =
    all_below-append (length m.names) (flat_map (listed_in roles.Input) m.statements) (flat_map (listed_in roles.Clock) m.statements) (listed_below (length m.names) roles.Input m.statements m.below) (listed_below (length m.names) roles.Clock m.statements m.below)

pub ports_are : (m : code.Model) (p : Ports) (d : distinct m.names ≡ true) → p.reading.items ≡ flat_map (listed_in roles.Input) m.statements ++ flat_map (listed_in roles.Clock) m.statements
    → length p.reads.items ≡ length m.names → AreMarks p.reading.items p.reads.items → length p.outputs.items ≡ length m.names → AreMarks (flat_map (listed_in roles.Output) m.statements) p.outputs.items → ArePorts m p
ports_are m p d e size reads outs outputs =
    let names : List (List ℕ) = m.names in
    let ins : List ℕ = flat_map (listed_in roles.Input) m.statements in
    let clks : List ℕ = flat_map (listed_in roles.Clock) m.statements in
    let os : List ℕ = flat_map (listed_in roles.Output) m.statements in
    let low : all_below (length names) p.reading.items ≡ true = ap (all_below (length names)) e ∙ all_below-append (length names) ins clks (listed_below (length names) roles.Input m.statements m.below) (listed_below (length names) roles.Clock m.statements m.below) in
    let words : words_at names p.reading.items ≡ models.reading_ports (model_in m) = ap (words_at names) e ∙ map-append (word_at names) ins clks ∙ ap₂ (λ (a b : List (List ℕ)). a ++ b) (words_of_listed names roles.Input m.statements) (words_of_listed names roles.Clock m.statements) in
    let out_low : all_below (length names) os ≡ true = listed_below (length names) roles.Output m.statements m.below in
    let out_words : words_at names os ≡ models.outputs_of (model_in m) = words_of_listed names roles.Output m.statements in
    record {
      below = low;
      listed = words;
      reads_size = size;
      reads = marks_tell names p.reading.items (models.reading_ports (model_in m)) p.reads.items d low words size reads;
      outputs_size = outs;
      outputs = marks_tell names os (models.outputs_of (model_in m)) p.outputs.items d out_low out_words outs outputs;
      known = λ word h. or_from (models.is_reading (model_in m) word) (has_word (models.outputs_of (model_in m)) word)
          (sym (ap (λ (ws : List (List ℕ)). has_word ws word) words) ∙ not_among names p.reading.items word low h)
          (sym (ap (λ (ws : List (List ℕ)). has_word ws word) out_words) ∙ not_among names os word out_low h);
    }

pub all_ports_push : (ms : List code.Model) (ps : List Ports) (m : code.Model) (p : Ports) → AllPorts ms ps → ArePorts m p → AllPorts (ms ++ m ∷ []) (ps ++ p ∷ [])
all_ports_push [] [] m p a h = (h, tt)
all_ports_push [] (q ∷ qs) m p a h = absurd a
all_ports_push (n ∷ ns) [] m p a h = absurd a
all_ports_push (n ∷ ns) (q ∷ qs) m p a h = (a.0, all_ports_push ns qs m p a.1 h)

pub ports_size : (ms : List code.Model) (ps : List Ports) → AllPorts ms ps → length ps ≡ length ms
ports_size [] [] a = refl
ports_size [] (q ∷ qs) a = absurd a
ports_size (n ∷ ns) [] a = absurd a
ports_size (n ∷ ns) (q ∷ qs) a = ap suc (ports_size ns qs a.1)

pub ports_at : (ms : List code.Model) (ps : List Ports) (i : ℕ) (m : code.Model) (p : Ports) → AllPorts ms ps → i < length ms → m ≡ get_or ms i m → p ≡ get_or ps i p → ArePorts m p
ports_at [] ps i m p a l e f = absurd (omega arith)
ports_at (n ∷ ns) [] i m p a l e f = absurd a
ports_at (n ∷ ns) (q ∷ qs) zero m p a l e f = subst (λ (x : code.Model). ArePorts x p) (sym e) (subst (λ (y : Ports). ArePorts n y) (sym f) a.0)
ports_at (n ∷ ns) (q ∷ qs) (suc i) m p a l e f = ports_at ns qs i m p a.1 (omega arith) e f

-- names of models

pub name_at : (ms : List code.Model) (i : ℕ) (m : code.Model) → i < length ms → m ≡ get_or ms i m → m.name ≡ word_at (map name_of (map model_in ms)) i
name_at [] i m l e = absurd (omega arith)
name_at (x ∷ xs) zero m l e = ap (λ (k : code.Model). k.name) e
name_at (x ∷ xs) (suc i) m l e = name_at xs i m (omega arith) e

pub names_size : (ms : List code.Model) → length (map name_of (map model_in ms)) ≡ length ms
names_size ms = length-map (map model_in ms) name_of ∙ length-map ms model_in

fresh_at : (names : List (List ℕ)) (i : ℕ) → distinct names ≡ true → i < length names → has_word (take i names) (word_at names i) ≡ false
fresh_at [] i d l = absurd (omega arith)
fresh_at (w ∷ ws) zero d l = refl
fresh_at (w ∷ ws) (suc i) d l =
    let parts = and_parts (not (has_word ws w)) (distinct ws) d in
    or_from (bytes_eq w (word_at ws i)) (has_word (take i ws) (word_at ws i))
    (false_from_ne_true (bytes_eq w (word_at ws i)) (λ e. both_ways (has_word ws w) (not-true (has_word ws w) parts.0) (subst (λ (k : List ℕ). has_word ws k ≡ true) (sym (same_word w (word_at ws i) e)) (has_word_at ws i (omega arith)))))
    (fresh_at ws i parts.1 (omega arith))

pub one_more_name : (names : List (List ℕ)) (i : ℕ) (word : List ℕ) → distinct names ≡ true → i < length names → word ≡ word_at names i → with_word (take i names) word ≡ take (i + 1) names
one_more_name names i word d l e =
    cond-false (has_word (take i names) word) (take i names) (take i names ++ word ∷ []) (ap (has_word (take i names)) e ∙ fresh_at names i d l)
    ∙ ap (λ (w : List ℕ). take i names ++ w ∷ []) e ∙ sym (take_more names i [] l)

pub named_none : (ms : List models.Model) (name : List ℕ) → has_word (map name_of ms) name ≡ false → model_named ms name ≡ None
named_none [] name h = refl
named_none (m ∷ ms) name h =
    let parts = or_parts (bytes_eq m.name name) (has_word (map name_of ms) name) h in
    cond-false (bytes_eq m.name name) (Some m) (model_named ms name) parts.0 ∙ named_none ms name parts.1

pub named_at : (ms : List code.Model) (i : ℕ) (name : List ℕ) (m : code.Model) → distinct (map name_of (map model_in ms)) ≡ true → i < length ms → word_at (map name_of (map model_in ms)) i ≡ name → m ≡ get_or ms i m
    → model_named (map model_in ms) name ≡ Some (model_in m)
named_at [] i name m d l e f = absurd (omega arith)
named_at (x ∷ xs) zero name m d l e f = cond-true (bytes_eq x.name name) (Some (model_in x)) (model_named (map model_in xs) name) (subst (λ (w : List ℕ). bytes_eq x.name w ≡ true) e (word_same x.name)) ∙ ap (λ (k : code.Model). Some (model_in k)) (sym f)
named_at (x ∷ xs) (suc i) name m d l e f =
    let names : List (List ℕ) = map name_of (map model_in xs) in
    let parts = and_parts (not (has_word names x.name)) (distinct names) d in
    let inside : i < length names = (let s = names_size xs in omega arith) in
    cond-false (bytes_eq x.name name) (Some (model_in x)) (model_named (map model_in xs) name)
    (false_from_ne_true (bytes_eq x.name name) (λ s. both_ways (has_word names x.name) (not-true (has_word names x.name) parts.0) (subst (λ (w : List ℕ). has_word names w ≡ true) (e ∙ sym (same_word x.name name s)) (has_word_at names i inside))))
    ∙ named_at xs i name m parts.1 (omega arith) e f
