-- Totals by numbers of models are totals by their names.
use Rattle.std.proofs.Common.{◌≡◌, ℕ, zero, suc, ◌<◌, nat_lt, not, if◌then◌else◌, Bool, true, false, List, [], ◌∷◌, map, length, bytes_eq, slice_index_or, refl, sym, ap, ap₂, ◌∙◌, subst, Option, Some, None, arith}
use Rattle.std.proofs.lemmas.Bool.{and_parts, both_ways, cond-true, cond-false, not-true, false_from_ne_true, ltb-true}
use Rattle.syn_netlist.specs.Words.{has_word, distinct}
use Rattle.syn_netlist.specs.Lists.{Table}
use Rattle.syn_netlist.specs.Numbers.{word_at, words_at, all_below}
use Rattle.syn_netlist.specs.Faults.{no_table}
use Rattle.syn_netlist.proofs.Sets.{same_word, word_same, has_head, has_tail}
use Rattle.syn_models.specs.Models.{name_of, Model, all_of, model_named, subcircuits_of}
use Rattle.syn_models.specs.FlatFaults.{model_of, contents}
use Rattle.syn_models.specs.Totals.{told_sum, total_of}
use Rattle.syn_models.specs.Numbered.{inner_at, total_at, words_in, NumberedTotalsAreTold}
use Rattle.syn_models.proofs.Totalling.{totals_are_told}

-- the place of a name
abbrev place : List Model → List ℕ → ℕ
place [] name = 0
place (m ∷ ms) name = if bytes_eq m.name name then 0 else suc (place ms name)

record IsPlace (ms : List Model) (name : List ℕ) (m : Model) : Type 0 where
  pub below : place ms name < length ms
  pub table : slice_index_or (map contents ms) (place ms name) no_table ≡ contents m
  pub words : slice_index_or (map words_in ms) (place ms name) 0 ≡ m.words

named_place : (ms : List Model) (name : List ℕ) (m : Model) → model_named ms name ≡ Some m → IsPlace ms name m
named_place [] name m e = absurd (let z : ◌≡◌ {A = Option Model} None (Some m) = e in cc)
named_place (x ∷ xs) name m e = go (bytes_eq x.name name) refl (λ h. named_place xs name m h)
  where
    go : (t : Bool) → bytes_eq x.name name ≡ t → (model_named xs name ≡ Some m → IsPlace xs name m) → IsPlace (x ∷ xs) name m
    go true t ih =
        let s : Some x ≡ Some m = sym (cond-true (bytes_eq x.name name) (Some x) (model_named xs name) t) ∙ e in
        let same : x ≡ m = cc in
        let here : place (x ∷ xs) name ≡ 0 = cond-true (bytes_eq x.name name) 0 (suc (place xs name)) t in
        record {
          below = subst (λ (k : ℕ). k < suc (length xs)) (sym here) (omega arith);
          table = ap (λ (k : ℕ). slice_index_or (map contents (x ∷ xs)) k no_table) here ∙ ap contents same;
          words = ap (λ (k : ℕ). slice_index_or (map words_in (x ∷ xs)) k 0) here ∙ ap words_in same;
        }
    go false t ih =
        let r = ih (sym (cond-false (bytes_eq x.name name) (Some x) (model_named xs name) t) ∙ e) in
        let here : place (x ∷ xs) name ≡ suc (place xs name) = cond-false (bytes_eq x.name name) 0 (suc (place xs name)) t in
        record {
          below = (let l = r.below in subst (λ (k : ℕ). k < suc (length xs)) (sym here) (omega arith));
          table = ap (λ (k : ℕ). slice_index_or (map contents (x ∷ xs)) k no_table) here ∙ r.table;
          words = ap (λ (k : ℕ). slice_index_or (map words_in (x ∷ xs)) k 0) here ∙ r.words;
        }

name_there : (ms : List Model) (i : ℕ) → i < length ms → has_word (map name_of ms) (word_at (map name_of ms) i) ≡ true
name_there [] i l = absurd (omega arith)
name_there (m ∷ ms) zero l = has_head m.name (map name_of ms)
name_there (m ∷ ms) (suc i) l = has_tail m.name (word_at (map name_of ms) i) (map name_of ms) (name_there ms i (omega arith))

-- the place of a number's name is the number
place_back : (ms : List Model) (i : ℕ) → distinct (map name_of ms) ≡ true → i < length ms → place ms (word_at (map name_of ms) i) ≡ i
place_back [] i d l = absurd (omega arith)
place_back (m ∷ ms) zero d l = cond-true (bytes_eq m.name m.name) 0 (suc (place ms m.name)) (word_same m.name)
place_back (m ∷ ms) (suc i) d l =
    let parts = and_parts (not (has_word (map name_of ms) m.name)) (distinct (map name_of ms)) d in
    let w : List ℕ = word_at (map name_of ms) i in
    let other : bytes_eq m.name w ≡ false = false_from_ne_true (bytes_eq m.name w) (λ e. both_ways (has_word (map name_of ms) m.name) (not-true (has_word (map name_of ms) m.name) parts.0) (subst (λ (k : List ℕ). has_word (map name_of ms) k ≡ true) (sym (same_word m.name w e)) (name_there ms i (omega arith)))) in
    cond-false (bytes_eq m.name w) 0 (suc (place ms w)) other ∙ ap suc (place_back ms i parts.1 (omega arith))

totals_back : (ms : List Model) (totals xs : List ℕ) → distinct (map name_of ms) ≡ true → all_below (length ms) xs ≡ true → map (λ name. total_at totals (place ms name)) (words_at (map name_of ms) xs) ≡ map (total_at totals) xs
totals_back ms totals [] d b = refl
totals_back ms totals (x ∷ xs) d b =
    let parts = and_parts (nat_lt x (length ms)) (all_below (length ms) xs) b in
    ap₂ (λ (n : ℕ) (l : List ℕ). n ∷ l) (ap (total_at totals) (place_back ms x d (ltb-true x (length ms) parts.0))) (totals_back ms totals xs d parts.1)

pub numbered_totals_are_told : NumberedTotalsAreTold
numbered_totals_are_told models inner totals d numbers is tree o =
    let all : List Model = all_of models in
    let by_name : List ℕ → ℕ = λ name. total_at totals (place all name) in
    let each : (name : List ℕ) (m : Model) → model_named all name ≡ Some m → by_name name ≡ total_of by_name m =
    λ name m e. (
    let p = named_place all name m e in
    let k : ℕ = place all name in
    let inside : map by_name (map model_of (subcircuits_of m)) ≡ map (total_at totals) (inner_at inner k) =
    ap (λ (t : Table). map by_name t.inputs) (sym p.table) ∙ ap (map by_name) (sym (numbers.named k p.below)) ∙ totals_back all totals (inner_at inner k) d (numbers.below k p.below) in
    is k p.below ∙ ap₂ told_sum p.words (sym inside)) in
    let main : Model = models.main in
    let named : model_named all main.name ≡ Some main = cond-true (bytes_eq main.name main.name) (Some main) (model_named models.others main.name) (word_same main.name) in
    let first : place all main.name ≡ 0 = cond-true (bytes_eq main.name main.name) 0 (suc (place models.others main.name)) (word_same main.name) in
    ap (total_at totals) (sym first) ∙ each main.name main named ∙ totals_are_told all by_name each main tree o
