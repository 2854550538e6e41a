-- Words of inner rows that are made one after the other: each takes one step more, until no row gets one.
use Rattle.std.proofs.Common.{◌≡◌, ℕ, zero, suc, ◌+◌, ◌<◌, ◌≤◌, ◌==◌, Bool, true, false, if◌then◌else◌, List, [], ◌∷◌, length, get_or, set, drop, Option, Some, None, refl, sym, ap, ap₂, ◌∙◌, drop-cons, subst, arith, inl, inr, ◌⊎◌}
use Rattle.std.specs.List.{All, sum_by}
use Rattle.std.proofs.lemmas.List.Sums.{sum_by-le}
use Rattle.std.proofs.lemmas.Option.{none-some}
use Rattle.syn_rows.specs.declared.Row.TheVariants as row
use Rattle.syn_rows.specs.Nodes.{has_node}
use Rattle.syn_core_laws.specs.SameValue.{known_value}
use Rattle.syn_decide.specs.declared.decisions.NodeRow.{NodeRow}
use Rattle.syn_decide.specs.declared.decisions.Cone.{Cone}
use Rattle.syn_decide.specs.Walk.{row_among}
use Rattle.syn_decide.specs.Functions.{leaf_value}
use Rattle.syn_decide.specs.Words.{AtChoices, IsMade, IsNodeWord, IsRowWord, IsStill, inner_value, node_value, unmade, value_after, word_for, word_value}
use Rattle.syn_decide.proofs.Steps.{Keeps, known_stays, more_steps, one_step, open_stays, row_stays}

-- ---- where no row has a word
none_for : (inner : List NodeRow) (words : List (Option ℕ)) (n : ℕ) (xs : List Bool) → All (λ w. w ≡ None) words → word_value xs (word_for inner words n) ≡ None
none_for [] words n xs h = refl
none_for (r ∷ inner) [] n xs h = refl
none_for (r ∷ inner) (w ∷ words) n xs h = go (r.node == n) (h 0 w (omega arith)) (none_for inner words n xs (λ k d l. h (suc k) d (omega (arith, l))))
  where
    go : (b : Bool) → w ≡ None → word_value xs (word_for inner words n) ≡ None → word_value xs (if b then w else word_for inner words n) ≡ None
    go true e rest = ap (word_value xs) e
    go false e rest = rest

pub no_made : (c : Cone) (words : List (Option ℕ)) → All (λ w. w ≡ None) words → IsMade c 0 words
no_made c words h = record { values = λ n xs l e b k. absurd (none-some b (sym (none_for c.inner.now words n xs h) ∙ k)) }

pub most_unmade : (words : List (Option ℕ)) → sum_by unmade words ≤ length words
most_unmade words = omega (arith, sum_by-le unmade 1 words (λ k d l. one (get_or words k d)))
  where
    one : (w : Option ℕ) → unmade w ≤ 1
    one None = omega arith
    one (Some w) = omega arith

-- ---- what is made
-- by the words no node has another value than by the rows
made_keeps : (c : Cone) (steps : ℕ) (words : List (Option ℕ)) → IsMade c steps words
    → AtChoices c.last (λ xs. Keeps (node_value c words xs) (value_after c.inner.now c.leaves.now xs steps))
made_keeps c zero words h xs l e n b k = open_stays (has_node c.leaves.now n) (n == 0) (leaf_value c.leaves.now xs n) (word_value xs (word_for c.inner.now words n)) None b (h.values n xs l e b) k
made_keeps c (suc j) words h xs l e n b k =
    open_stays (has_node c.leaves.now n) (n == 0) (leaf_value c.leaves.now xs n) (word_value xs (word_for c.inner.now words n)) (known_value (value_after c.inner.now c.leaves.now xs j) (row_among c.inner.now n)) b (h.values n xs l e b) k

-- the value of a row stays by one step more
inner_stays : (c : Cone) (xs : List Bool) (steps n : ℕ) (b : Bool) → inner_value c xs steps n ≡ Some b → inner_value c xs (suc steps) n ≡ Some b
inner_stays c xs zero n b h = absurd (none-some b h)
inner_stays c xs (suc k) n b h =
    known_stays (value_after c.inner.now c.leaves.now xs k) (value_after c.inner.now c.leaves.now xs (suc k)) (one_step (row_among c.inner.now) c.leaves.now (leaf_value c.leaves.now xs) k) (row_among c.inner.now n) b h

-- with one word more a value is one that was there, or that of the new word
set_for : (inner : List NodeRow) (words : List (Option ℕ)) (i n w : ℕ) (d : NodeRow) (xs : List Bool) (b : Bool) → i < length inner
    → word_value xs (word_for inner (set words i (Some w)) n) ≡ Some b
    → (word_value xs (word_for inner words n) ≡ Some b) ⊎ ((row_among inner n ≡ Some (get_or inner i d).row) × (word_value xs (Some w) ≡ Some b))
set_for [] words i n w d xs b l h = absurd (omega (arith, l))
set_for (r ∷ inner) [] i n w d xs b l h = absurd (none-some b h)
set_for (r ∷ inner) (o ∷ words) zero n w d xs b l h = go (r.node == n) h
  where
    go : (q : Bool) → word_value xs (if q then Some w else word_for inner words n) ≡ Some b
        → (word_value xs (if q then o else word_for inner words n) ≡ Some b) ⊎ (((if q then Some r.row else row_among inner n) ≡ Some r.row) × (word_value xs (Some w) ≡ Some b))
    go true e = inr (refl, e)
    go false e = inl e
set_for (r ∷ inner) (o ∷ words) (suc i) n w d xs b l h = go (r.node == n) (set_for inner words i n w d xs b (omega (arith, l))) h
  where
    go : (q : Bool)
        → (word_value xs (word_for inner (set words i (Some w)) n) ≡ Some b → (word_value xs (word_for inner words n) ≡ Some b) ⊎ ((row_among inner n ≡ Some (get_or inner i d).row) × (word_value xs (Some w) ≡ Some b)))
        → word_value xs (if q then o else word_for inner (set words i (Some w)) n) ≡ Some b
        → (word_value xs (if q then o else word_for inner words n) ≡ Some b) ⊎ (((if q then Some r.row else row_among inner n) ≡ Some (get_or inner i d).row) × (word_value xs (Some w) ≡ Some b))
    go true f e = inl e
    go false f e = f e

-- one word more
pub made_more : (c : Cone) (steps more i w : ℕ) (d : NodeRow) (words next : List (Option ℕ)) → more ≡ suc steps → i < length c.inner.now
    → IsRowWord c words (get_or c.inner.now i d).row (Some w) → next ≡ set words i (Some w) → IsMade c steps words → IsMade c more next
made_more c steps more i w d words next e within r s h =
    subst (λ k. IsMade c k next) (sym e) (subst (λ ws. IsMade c (suc steps) ws) (sym s) (record { values = λ n xs l f b k. by n xs l f b (set_for c.inner.now words i n w d xs b within k) }))
  where
    by : (n : ℕ) → AtChoices c.last (λ xs. (b : Bool) → (word_value xs (word_for c.inner.now words n) ≡ Some b) ⊎ ((row_among c.inner.now n ≡ Some (get_or c.inner.now i d).row) × (word_value xs (Some w) ≡ Some b)) → inner_value c xs (suc steps) n ≡ Some b)
    by n xs l f b (inl k) = inner_stays c xs steps n b (h.values n xs l f b k)
    by n xs l f b (inr k) =
        ap (known_value (value_after c.inner.now c.leaves.now xs steps)) k.0
        ∙ row_stays (node_value c words xs) (value_after c.inner.now c.leaves.now xs steps) (made_keeps c steps words h xs l f) (get_or c.inner.now i d).row b (sym (r.values xs l f) ∙ k.1)

-- a word that is made is the node's by so many rows, and by more of them
pub made_tells : (c : Cone) (steps more n w : ℕ) (words : List (Option ℕ)) → steps ≤ more → IsMade c steps words
    → AtChoices c.last (λ xs. word_value xs (Some w) ≡ node_value c words xs n) → IsNodeWord c more n (Some w)
made_tells c steps more n w words le h k =
    record { values = λ xs l e. sym (more_steps (row_among c.inner.now) c.leaves.now (leaf_value c.leaves.now xs) more steps le n _ (made_keeps c steps words h xs l e n _ (sym (k xs l e)))) }

-- ---- where no row gets a word more
-- the first of the rows that is the node's, with its word
at_first : (inner : List NodeRow) (words : List (Option ℕ)) (n : ℕ) (d : NodeRow) → length words ≡ length inner
    → (row_among inner n ≡ None) ⊎ ((i : ℕ) × (i < length inner) × (row_among inner n ≡ Some (get_or inner i d).row) × (word_for inner words n ≡ get_or words i None))
at_first [] words n d e = inl refl
at_first (r ∷ inner) [] n d e = absurd (omega (arith, e))
at_first (r ∷ inner) (w ∷ words) n d e = go (r.node == n) (at_first inner words n d (omega (arith, e)))
  where
    go : (b : Bool) → (row_among inner n ≡ None) ⊎ ((i : ℕ) × (i < length inner) × (row_among inner n ≡ Some (get_or inner i d).row) × (word_for inner words n ≡ get_or words i None))
        → ((if b then Some r.row else row_among inner n) ≡ None)
        ⊎ ((i : ℕ) × (i < suc (length inner)) × ((if b then Some r.row else row_among inner n) ≡ Some (get_or (r ∷ inner) i d).row) × ((if b then w else word_for inner words n) ≡ get_or (w ∷ words) i None))
    go true rest = inr (0, omega arith, refl, refl)
    go false (inl k) = inl k
    go false (inr k) = inr (suc k.0, omega (arith, k.1), k.2, k.3)

-- a value by the words and one by so many rows are one value
one_value : (c : Cone) (xs : List Bool) (j k n : ℕ) (a b : Bool) → inner_value c xs j n ≡ Some a → known_value (value_after c.inner.now c.leaves.now xs k) (row_among c.inner.now n) ≡ Some b → Some a ≡ Some b
one_value c xs zero k n a b g h = absurd (none-some a g)
one_value c xs (suc j) k n a b g h = sym (by j (omega arith) a g) ∙ by k (omega arith) b h
  where
    by : (i : ℕ) → i ≤ j + k → (x : Bool) → known_value (value_after c.inner.now c.leaves.now xs i) (row_among c.inner.now n) ≡ Some x → known_value (value_after c.inner.now c.leaves.now xs (j + k)) (row_among c.inner.now n) ≡ Some x
    by i le x f = known_stays (value_after c.inner.now c.leaves.now xs i) (value_after c.inner.now c.leaves.now xs (j + k)) (more_steps (row_among c.inner.now) c.leaves.now (leaf_value c.leaves.now xs) (j + k) i le) (row_among c.inner.now n) x f

module _ (c : Cone) (steps : ℕ) (words : List (Option ℕ)) (same : length words ≡ length c.inner.now) (still : IsStill c words 0) (made : IsMade c steps words) where
  d : NodeRow
  d = record { node = 0; row = row.Free }

  -- a row whose nodes have their values by the words has its own
  row_is_made : (k n : ℕ) → AtChoices c.last (λ xs. Keeps (value_after c.inner.now c.leaves.now xs k) (node_value c words xs)
      → (b : Bool) → known_value (value_after c.inner.now c.leaves.now xs k) (row_among c.inner.now n) ≡ Some b → word_value xs (word_for c.inner.now words n) ≡ Some b)
  row_is_made k n xs l e keeps b h = elim (at_first c.inner.now words n d same) [
    | inl none ↦ absurd (none-some b (sym (ap (known_value (value_after c.inner.now c.leaves.now xs k)) none) ∙ h))
    | inr at ↦ go at.0 at.1 at.2 at.3 (get_or words at.0 None) refl
  ]
    where
      go : (i : ℕ) → i < length c.inner.now → row_among c.inner.now n ≡ Some (get_or c.inner.now i d).row → word_for c.inner.now words n ≡ get_or words i None
          → (w : Option ℕ) → get_or words i None ≡ w → word_value xs (word_for c.inner.now words n) ≡ Some b
      go i within at word None none =
          absurd (none-some b ((still i (omega arith) within none d).values xs l e
          ∙ row_stays (value_after c.inner.now c.leaves.now xs k) (node_value c words xs) keeps (get_or c.inner.now i d).row b (sym (ap (known_value (value_after c.inner.now c.leaves.now xs k)) at) ∙ h)))
      go i within at word (Some w) some =
          ap (word_value xs) (word ∙ some)
          ∙ one_value c xs steps k n _ b (made.values n xs l e _ (ap (word_value xs) (word ∙ some))) h

  still_keeps : (k : ℕ) → AtChoices c.last (λ xs. Keeps (value_after c.inner.now c.leaves.now xs k) (node_value c words xs))
  still_keeps zero xs l e n b h = open_stays (has_node c.leaves.now n) (n == 0) (leaf_value c.leaves.now xs n) None (word_value xs (word_for c.inner.now words n)) b (λ f. absurd (none-some b f)) h
  still_keeps (suc k) xs l e n b h =
      open_stays (has_node c.leaves.now n) (n == 0) (leaf_value c.leaves.now xs n) (known_value (value_after c.inner.now c.leaves.now xs k) (row_among c.inner.now n)) (word_value xs (word_for c.inner.now words n)) b
      (row_is_made k n xs l e (still_keeps k xs l e) b) h

  -- a node without a word has no value by any number of rows
  pub still_tells : (more n : ℕ) → AtChoices c.last (λ xs. word_value xs None ≡ node_value c words xs n) → IsNodeWord c more n None
  still_tells more n h = record { values = λ xs l e. go xs (h xs l e) (value_after c.inner.now c.leaves.now xs more n) (still_keeps more xs l e n) }
    where
      go : (xs : List Bool) → None ≡ node_value c words xs n → (v : Option Bool) → ((b : Bool) → v ≡ Some b → node_value c words xs n ≡ Some b) → None ≡ v
      go xs h None f = refl
      go xs h (Some b) f = absurd (none-some b (h ∙ f b refl))

-- ---- along the inner rows and their words
module _ (inner : List NodeRow) (words : List (Option ℕ)) (n i : ℕ) (d : NodeRow) (o : Option ℕ) (within : i < length inner) (same : length words ≡ length inner) where
  here : (b : Bool) → ((get_or inner i d).node == n) ≡ b → word_for (drop i inner) (drop i words) n ≡ (if b then get_or words i o else word_for (drop (i + 1) inner) (drop (i + 1) words) n)
  here b e =
      ap₂ (λ rs ws. word_for rs ws n) (drop-cons inner i d within) (drop-cons words i o (omega (arith, within, same)))
      ∙ ap (λ q. if q then get_or words i o else word_for (drop (suc i) inner) (drop (suc i) words) n) e
      ∙ ap (λ k. if b then get_or words i o else word_for (drop k inner) (drop k words) n) (let next : suc i ≡ i + 1 = omega arith in next)

  pub for_past : ((get_or inner i d).node == n) ≡ false → word_for (drop (i + 1) inner) (drop (i + 1) words) n ≡ word_for (drop i inner) (drop i words) n
  for_past e = sym (here false e)
