-- Proposals that keep the level of their root, among all.
use Rattle.std.proofs.Common.{◌≡◌, ℕ, suc, ◌<◌, ◌≤◌, Bool, true, false, All, List, [], ◌∷◌, ◌++◌, length, map, take, drop, refl, sym, ap, ◌∙◌, subst, arith, inl, inr, if◌then◌else◌, append-nil}
use Rattle.std.specs.List.{filter}
use Rattle.std.proofs.Math.Seq.{drop-cons}
use Rattle.std.proofs.lemmas.Bool.{cases_Bool, cond-true, cond-false}
use Rattle.std.proofs.lemmas.List.{append_assoc, get_or-take, length-take-le, take-append-drop}
use Rattle.std.proofs.lemmas.List.Elements.{All-filter, All-same, filter-append, filter_passes}
use Rattle.syn_rows.specs.declared.Lit.{Lit}
use Rattle.syn_rows.specs.declared.Row.{Row}
use Rattle.syn_gain.specs.declared.proposals.Candidate.{Candidate}
use Rattle.syn_gain.specs.declared.proposals.Proposal.{Proposal}
use Rattle.syn_gain.specs.Proposals.{replacement, replacement_of}
use Rattle.syn_gain.specs.Replacements.{Replacement}
use Rattle.syn_levels.specs.Levels.{AllKeep, keeping, keeps_level}
use Rattle.syn_proposals.specs.Closing.{IsFirst, SavesNothing}
use Rattle.syn_proposals.specs.Sound.{IsLeftover}
use Rattle.syn_proposals.proofs.Savings.{first_of_parts}

-- a filter behind a map is one before it
filter_map_is : {X Y : Type 0} (f : X → Y) (p : Y → Bool) (xs : List X) → map f (filter (λ x. p (f x)) xs) ≡ filter p (map f xs)
filter_map_is f p [] = refl
filter_map_is f p (x ∷ xs) = elim (cases_Bool (p (f x))) [
  | inl t ↦
      ap (map f) (cond-true (p (f x)) (x ∷ filter (λ y. p (f y)) xs) (filter (λ y. p (f y)) xs) t) ∙ ap (λ ys. f x ∷ ys) (filter_map_is f p xs)
      ∙ sym (cond-true (p (f x)) (f x ∷ filter p (map f xs)) (filter p (map f xs)) t)
  | inr e ↦
      ap (map f) (cond-false (p (f x)) (x ∷ filter (λ y. p (f y)) xs) (filter (λ y. p (f y)) xs) e) ∙ filter_map_is f p xs
      ∙ sym (cond-false (p (f x)) (f x ∷ filter p (map f xs)) (filter p (map f xs)) e)
]

-- as data, the kept ones are those of the data that keep their root's level
pub kept_are : (rows : List Row) (all kept : List Proposal) (rs : List Replacement) → kept ≡ filter (λ p. keeps_level rows (replacement p)) all → map replacement all ≡ rs
    → map replacement kept ≡ filter (keeps_level rows) rs
kept_are rows all kept rs is same = ap (map replacement) is ∙ filter_map_is replacement (keeps_level rows) all ∙ ap (filter (keeps_level rows)) same

-- what holds of all holds of the kept ones
pub kept_all : (P : Proposal → Type 0) (rows : List Row) (all kept : List Proposal) → kept ≡ filter (λ p. keeps_level rows (replacement p)) all → All P all → All P kept
kept_all P rows all kept is h = All-same P kept (filter (λ p. keeps_level rows (replacement p)) all) is (All-filter (λ p. keeps_level rows (replacement p)) P all h)

-- the first that saves of all, where it is kept, is the first of the kept ones
pub first_kept : (rows : List Row) (observed : List Lit) (all : List Replacement) (r : Replacement) → keeps_level rows r ≡ true → IsFirst rows observed all r
    → IsFirst rows observed (filter (keeps_level rows) all) r
first_kept rows observed all r keeps first =
    subst (λ (rs : List Replacement). IsFirst rows observed rs r) (sym split)
    (first_of_parts rows observed (filter k (take first.place all)) (r ∷ []) (filter k (drop (suc first.place) all)) r
    (All-filter k (SavesNothing rows observed) (take first.place all) nothing) alone)
  where
    k : Replacement → Bool
    k = keeps_level rows

    parts : all ≡ take first.place all ++ (r ∷ drop (suc first.place) all)
    parts =
        sym (take-append-drop first.place all)
        ∙ ap (λ (rs : List Replacement). take first.place all ++ rs) (drop-cons all first.place r first.there ∙ ap (λ (x : Replacement). x ∷ drop (suc first.place) all) (first.at r))

    split : filter (keeps_level rows) all ≡ filter (keeps_level rows) (take first.place all) ++ r ∷ [] ++ filter (keeps_level rows) (drop (suc first.place) all)
    split =
        ap (filter (keeps_level rows)) parts ∙ filter-append (keeps_level rows) (take first.place all) (r ∷ drop (suc first.place) all)
        ∙ ap (λ (rs : List Replacement). filter (keeps_level rows) (take first.place all) ++ rs) (cond-true (keeps_level rows r) (r ∷ filter (keeps_level rows) (drop (suc first.place) all)) (filter (keeps_level rows) (drop (suc first.place) all)) keeps)
        ∙ sym (append_assoc (filter (keeps_level rows) (take first.place all)) (r ∷ []) (filter (keeps_level rows) (drop (suc first.place) all)))

    nothing : All (SavesNothing rows observed) (take first.place all)
    nothing i d lt =
        let long : length (take first.place all) ≡ first.place = length-take-le first.place all (let there = first.there in omega arith) in
        let low : i < first.place = omega (arith, lt, long) in
        subst (SavesNothing rows observed) (sym (get_or-take first.place all i d low)) (first.before i d (omega arith) low)

    alone : IsFirst rows observed (r ∷ []) r
    alone = record {
      place = 0;
      there = omega arith;
      at = λ d. refl;
      saves = first.saves;
      before = λ i d low high. absurd (omega (arith, high));
    }

-- where nothing saves, no kept one does
pub none_kept : (rows : List Row) (observed : List Lit) (all : List Replacement) → All (SavesNothing rows observed) all → All (SavesNothing rows observed) (filter (keeps_level rows) all)
none_kept rows observed all h = All-filter (keeps_level rows) (SavesNothing rows observed) all h

-- a leftover of proposals that keep their roots' levels keeps its root's
pub leftover_keeps : (proposals : List Row → ℕ → List Replacement) → AllKeep proposals → (rows : List Row) (observed : List Lit) (p : Proposal) → IsLeftover rows observed (proposals rows) p
    → keeps_level rows (replacement p) ≡ true
leftover_keeps proposals keep rows observed p left =
    let first = left.first.first in
    subst (λ r. keeps_level rows r ≡ true) (first.at (replacement p)) (keep rows p.root first.place (replacement p) first.there)

-- kept proposals keep their roots' levels
pub all_keep : (proposals : List Row → ℕ → List Replacement) → AllKeep (keeping proposals)
all_keep proposals rows node = filter_passes (keeps_level rows) (proposals rows node)

-- a proposal that was looked at, and is kept or not
pub kept_one : (rows : List Row) (p : Proposal) (c : Candidate) (b : Bool) (before after : List Proposal) → replacement_of c ≡ replacement p → b ≡ keeps_level rows (replacement_of c) → b ≡ true → after ≡ before ++ p ∷ []
    → after ≡ before ++ (if keeps_level rows (replacement p) then p ∷ [] else [])
kept_one rows p c b before after same told holds put =
    put ∙ sym (ap (λ (ps : List Proposal). before ++ ps) (cond-true (keeps_level rows (replacement p)) (p ∷ []) [] (sym (ap (keeps_level rows) same) ∙ sym told ∙ holds)))

pub kept_not : (rows : List Row) (p : Proposal) (c : Candidate) (b : Bool) (before : List Proposal) → replacement_of c ≡ replacement p → b ≡ keeps_level rows (replacement_of c) → b ≡ false
    → before ≡ before ++ (if keeps_level rows (replacement p) then p ∷ [] else [])
kept_not rows p c b before same told fails =
    sym (ap (λ (ps : List Proposal). before ++ ps) (cond-false (keeps_level rows (replacement p)) (p ∷ []) [] (sym (ap (keeps_level rows) same) ∙ sym told ∙ fails)) ∙ append-nil before)
