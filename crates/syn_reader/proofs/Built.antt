-- A file without a fault of a line spells models.
use Rattle.std.proofs.Common.{◌≡◌, ℕ, ◌&&◌, ◌||◌, not, Bool, true, false, if◌then◌else◌, List, [], ◌∷◌, ◌++◌, map, bytes_eq, refl, sym, ap, ap₂, ◌∙◌, Option, Some, None}
use Rattle.std.specs.List.{AllByRecursion, list_all, onto_first}
use Rattle.std.proofs.lemmas.Bool.{and_from, and_parts, both_ways, cond-true, false_from_ne_true, or_left, or_right}
use Rattle.std.proofs.lemmas.List.Folds.{list_all-append}
use Rattle.syn_netlist.specs.Order.{DefinedOnce}
use Rattle.syn_netlist.specs.Words.{has_word, distinct}
use Rattle.syn_netlist.proofs.Sets.{all_each, has_word-append, same_word, word_same}
use Rattle.syn_models.specs.Models as models
use Rattle.syn_models.specs.Models.{Model, Models, all_of, alone, is_closed, name_of, names_in}
use Rattle.syn_reader.specs.Faults.{Fault, ModelTwice}
use Rattle.syn_reader.specs.LineFaults.{checks, first_fault_of_lines}
use Rattle.syn_reader.specs.Shapes.{last_word}
use Rattle.syn_reader.specs.Statements.{Statement, begins_model, is_model}
use Rattle.syn_reader.proofs.Fine.{or_none}
use Rattle.syn_reader.specs.ModelFaults.{first_fault_of_models, model_checks, model_twice}
use Rattle.syn_reader.specs.Parted.{by_model, name_in, parted, words_of}
use Rattle.syn_reader.specs.Saying.{Say, SpellAll, SpellModel, names_of}
use Rattle.syn_reader.proofs.Faultless.{faultless_say, more_checks, no_fault}
use Rattle.syn_reader.proofs.Finishing.{alone_once}
use Rattle.syn_reader.proofs.Saying.{say_computed}

-- the words, each once
abbrev pub each_once : List (List ℕ) → List (List ℕ)
each_once [] = []
each_once (w ∷ ws) = if has_word ws w then each_once ws else w ∷ each_once ws

pub once_has : (ws : List (List ℕ)) (v : List ℕ) → has_word (each_once ws) v ≡ has_word ws v
once_has [] v = refl
once_has (w ∷ ws) v = go (has_word ws w) refl (once_has ws v)
  where
    known : (a b : Bool) → (a ≡ true → b ≡ true) → b ≡ (a || b)
    known true b f = f refl
    known false b f = refl

    go : (b : Bool) → has_word ws w ≡ b → has_word (each_once ws) v ≡ has_word ws v → has_word (if b then each_once ws else w ∷ each_once ws) v ≡ (bytes_eq w v || has_word ws v)
    go true e h = h ∙ known (bytes_eq w v) (has_word ws v) (λ t. ap (has_word ws) (sym (same_word w v t)) ∙ e)
    go false e h = ap (λ (b : Bool). bytes_eq w v || b) h

pub once_distinct : (ws : List (List ℕ)) → distinct (each_once ws) ≡ true
once_distinct [] = refl
once_distinct (w ∷ ws) = go (has_word ws w) refl (once_has ws w) (once_distinct ws)
  where
    go : (b : Bool) → has_word ws w ≡ b → has_word (each_once ws) w ≡ has_word ws w → distinct (each_once ws) ≡ true → distinct (if b then each_once ws else w ∷ each_once ws) ≡ true
    go true e h d = d
    go false e h d = and_from (not (has_word (each_once ws) w)) (distinct (each_once ws)) (ap not (h ∙ e)) d

-- a model that says this, with all its names
abbrev pub model_of : List Statement → List models.Statement → Model
model_of ss said = record { name = name_in ss; names = each_once (names_of said); statements = said; words = words_of ss }

pub spelled : (ss : List Statement) (said : List models.Statement) → Say ss said → SpellModel ss (model_of ss said)
spelled ss said say = record { name = refl; said = say; words = refl; names = once_has (names_of said); once = once_distinct (names_of said) }

each_statement : (test : List ℕ → Bool) (said : List models.Statement) → list_all test (names_of said) ≡ true → list_all (λ s. list_all test (names_in s.kind)) said ≡ true
each_statement test [] h = refl
each_statement test (s ∷ ss) h =
    let both = and_parts (list_all test (names_in s.kind)) (list_all test (names_of ss)) (sym (list_all-append test (names_in s.kind) (names_of ss)) ∙ h) in
    and_from (list_all test (names_in s.kind)) (list_all (λ (t : models.Statement). list_all test (names_in t.kind)) ss) both.0 (each_statement test ss both.1)

closed : (ss : List Statement) (said : List models.Statement) → is_closed (model_of ss said) ≡ true
closed ss said =
    let names = each_once (names_of said) in
    each_statement (has_word names) said (all_each (has_word names) (names_of said) (λ w h. once_has (names_of said) w ∙ h))

-- The models of these statements, each sound.
record AreBuilt (parts : List (List Statement)) : Type 0 where
  pub models : List Model
  pub spelled : SpellAll parts models
  pub closed : list_all is_closed models ≡ true
  pub once : AllByRecursion (λ m. DefinedOnce (alone m)) models
  pub names : map name_of models ≡ map name_in parts

built : (names : List (List ℕ)) (parts : List (List Statement)) → first_fault_of_models names parts ≡ None → AreBuilt parts
built names [] e = record { models = []; spelled = tt; closed = refl; once = tt; names = refl }
built names (p ∷ ps) e =
    let two = or_none (first_fault_of_lines (model_checks names) [] p) (first_fault_of_models (names ++ name_in p ∷ []) ps) e in
    let rest = built (names ++ name_in p ∷ []) ps two.1 in
    let (said, say) = faultless_say names p two.0 in
    record {
      models = model_of p said ∷ rest.models;
      spelled = (spelled p said say, rest.spelled);
      closed = and_from (is_closed (model_of p said)) (list_all is_closed rest.models) (closed p said) rest.closed;
      once = (alone_once names p (model_of p said) two.0 ((say_computed p said).0 say), rest.once);
      names = ap (λ (l : List (List ℕ)). name_in p ∷ l) rest.names;
    }

-- Each list of statements begins with `.model`; and each but the first does.
abbrev AllBegin : List (List Statement) → Type 0
AllBegin [] = Unit {0}
AllBegin ([] ∷ ps) = ⊥
AllBegin ((s ∷ ss) ∷ ps) = (is_model s.kind ≡ true) × AllBegin ps

abbrev OthersBegin : List (List Statement) → Type 0
OthersBegin [] = Unit {0}
OthersBegin (p ∷ ps) = AllBegin ps

onto_others : (s : Statement) (ps : List (List Statement)) → OthersBegin ps → OthersBegin (onto_first s ps)
onto_others s [] h = tt
onto_others s (p ∷ ps) h = h

all_begin : (ss : List Statement) → begins_model ss ≡ true → OthersBegin (parted ss) → AllBegin (parted ss)
all_begin [] e h = absurd (both_ways false refl e)
all_begin (s ∷ ss) e h = go (begins_model ss) h
  where
    go : (b : Bool) → OthersBegin (if b then (s ∷ []) ∷ parted ss else onto_first s (parted ss)) → AllBegin (if b then (s ∷ []) ∷ parted ss else onto_first s (parted ss))
    go true h = (e, h)
    go false h = down (parted ss) h
      where
        down : (ps : List (List Statement)) → OthersBegin (onto_first s ps) → AllBegin (onto_first s ps)
        down [] h = (e, tt)
        down (p ∷ ps) h = (e, h)

others_begin : (ss : List Statement) → OthersBegin (parted ss)
others_begin [] = tt
others_begin (s ∷ ss) = go (begins_model ss) refl (others_begin ss)
  where
    go : (b : Bool) → begins_model ss ≡ b → OthersBegin (parted ss) → OthersBegin (if b then (s ∷ []) ∷ parted ss else onto_first s (parted ss))
    go true e h = all_begin ss e h
    go false e h = onto_others s (parted ss) h

no_twice : (b : Bool) (x : Fault) → (if b then Some x else None) ≡ None → b ≡ false
no_twice true x e = absurd (let z : ◌≡◌ {A = Option Fault} (Some x) None = e in cc)
no_twice false x e = refl

-- the name of a model isn't one of those above
new_name : (names : List (List ℕ)) (s : Statement) (ss : List Statement) → is_model s.kind ≡ true → first_fault_of_lines (model_checks names) [] (s ∷ ss) ≡ None → has_word names (name_in (s ∷ ss)) ≡ false
new_name names s ss m e =
    let more = (no_fault checks (more_checks names) [] (s ∷ ss) e).1 in
    let found = (or_none _ _ more).0 in
    let test : model_twice names [] s ≡ false = no_twice (model_twice names [] s) (ModelTwice s.line) (or_none _ _ found).0 in
    ap (has_word names) (cond-true (is_model s.kind) (last_word s.words) _ m) ∙ second (is_model s.kind) (has_word names (last_word s.words)) m test
  where
    second : (a b : Bool) → a ≡ true → (a && b) ≡ false → b ≡ false
    second true b h t = t
    second false b h t = absurd (both_ways false refl h)

names_apart : (names : List (List ℕ)) (ps : List (List Statement)) → AllBegin ps → first_fault_of_models names ps ≡ None
    → (distinct (map name_in ps) ≡ true) × ((w : List ℕ) → has_word names w ≡ true → has_word (map name_in ps) w ≡ false)
names_apart names [] b e = (refl, λ w h. refl)
names_apart names ([] ∷ ps) b e = absurd b
names_apart names ((s ∷ ss) ∷ ps) b e =
    let p : List Statement = s ∷ ss in
    let two = or_none (first_fault_of_lines (model_checks names) [] p) (first_fault_of_models (names ++ name_in p ∷ []) ps) e in
    let new : has_word names (name_in p) ≡ false = new_name names s ss b.0 two.0 in
    let rest = names_apart (names ++ name_in p ∷ []) ps b.1 two.1 in
    let mine : has_word (names ++ name_in p ∷ []) (name_in p) ≡ true = has_word-append names (name_in p ∷ []) (name_in p) ∙ or_right (has_word names (name_in p)) (has_word (name_in p ∷ []) (name_in p)) (or_left (bytes_eq (name_in p) (name_in p)) false (word_same (name_in p))) in (
      and_from (not (has_word (map name_in ps) (name_in p))) (distinct (map name_in ps)) (ap not (rest.1 (name_in p) mine)) rest.0,
      λ w h.
          let apart : bytes_eq (name_in p) w ≡ false = false_from_ne_true (bytes_eq (name_in p) w) (λ t. both_ways (has_word names (name_in p)) new (ap (has_word names) (same_word (name_in p) w t) ∙ h)) in
          let below : has_word (map name_in ps) w ≡ false = rest.1 w (has_word-append names (name_in p ∷ []) w ∙ or_left (has_word names w) (has_word (name_in p ∷ []) w) h) in
          ap₂ (λ (a c : Bool). a || c) apart below,
    )

file_names : (ss : List Statement) → first_fault_of_models [] (by_model ss) ≡ None → distinct (map name_in (by_model ss)) ≡ true
file_names ss e = go (begins_model ss) refl e
  where
    go : (b : Bool) → begins_model ss ≡ b → first_fault_of_models [] (if b then parted ss else ss ∷ []) ≡ None → distinct (map name_in (if b then parted ss else ss ∷ [])) ≡ true
    go true m f = (names_apart [] (parted ss) (all_begin ss m (others_begin ss)) f).0
    go false m f = refl

-- there is a model
some_part : (ss : List Statement) → by_model ss ≡ [] → ⊥
some_part [] e = cc
some_part (s ∷ ss) e = go (is_model s.kind) (begins_model ss) (parted ss) e
  where
    go : (a b : Bool) (ps : List (List Statement)) → (if a then (if b then (s ∷ []) ∷ ps else onto_first s ps) else (s ∷ ss) ∷ []) ≡ [] → ⊥
    go true true ps z = cc
    go true false [] z = cc
    go true false (p ∷ ps) z = cc
    go false b ps z = cc

-- The models of a file.
pub record FileModels (ss : List Statement) : Type 0 where
  pub models : Models
  pub spelled : SpellAll (by_model ss) (all_of models)
  pub closed : list_all is_closed (all_of models) ≡ true
  pub once : AllByRecursion (λ m. DefinedOnce (alone m)) (all_of models)
  pub names : distinct (map name_of (all_of models)) ≡ true

pub file_models : (ss : List Statement) → first_fault_of_models [] (by_model ss) ≡ None → FileModels ss
file_models ss e =
    let b = built [] (by_model ss) e in
    let (m, s, c, o, d) = go b.models (by_model ss) (some_part ss) b.spelled b.closed b.once (ap distinct b.names ∙ file_names ss e) in
    record { models = m; spelled = s; closed = c; once = o; names = d }
  where
    go : (ms : List Model) (ps : List (List Statement)) → (ps ≡ [] → ⊥) → SpellAll ps ms → list_all is_closed ms ≡ true → AllByRecursion (λ m. DefinedOnce (alone m)) ms → distinct (map name_of ms) ≡ true
        → (m : Models) × SpellAll ps (all_of m) × (list_all is_closed (all_of m) ≡ true) × AllByRecursion (λ m. DefinedOnce (alone m)) (all_of m) × (distinct (map name_of (all_of m)) ≡ true)
    go [] [] n s c o d = absurd (n refl)
    go [] (p ∷ ps) n s c o d = absurd s
    go (m ∷ ms) ps n s c o d = (record { main = m; others = ms }, s, c, o, d)
