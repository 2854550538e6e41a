-- One hint of a commit, and what holds on the way after it.
use Rattle.std.proofs.Common.{◌≡◌, ℕ, ◌+◌, ◌<◌, ◌≤◌, ◌==◌, ◌&&◌, max, nat_lt, Bool, true, false, if◌then◌else◌, [], ◌∷◌, ◌++◌, length, Option, Some, None, refl, sym, ap, ◌∙◌, subst, arith, append_assoc, length-append}
use Rattle.std.proofs.Math.Nat.{le-max_left, le-max_right}
use Rattle.std.proofs.lemmas.Bool.{lt-ltb, ltb-true}
use Rattle.syn_rows.specs.declared.Row.{Row}
use Rattle.syn_rows.proofs.Nodes.{node_same}
use Rattle.syn_core_laws.specs.declared.View.{View}
use Rattle.syn_core_laws.specs.declared.Seen.TheVariants as seen
use Rattle.syn_core_laws.specs.Lists.{look}
use Rattle.syn_core_laws.specs.Views.{key_loaded, known_row, row_loaded}
use Rattle.syn_core_laws.proofs.Listing.{look_here, look_there}
use Rattle.syn_decide.specs.declared.decisions.NodeRow.{NodeRow}
use Rattle.syn_decide.specs.Tasks.{Task}
use Rattle.syn_decide.specs.Fold.{State, Stage, Walking, Keying, Hinting, Counting, Ended, Failed, at, failed, hinted, is_hinting, placed_now, read_at, read_one, with_hit}
use Rattle.syn_decide.specs.Hints.{is_asked, may_hit, most_hits}
use Rattle.syn_decide.proofs.Walking.{node_row}
use Rattle.syn_commit.specs.Hinted.{IsHint, IsOpen, hits_after}
use Rattle.syn_commit.specs.Keyed.{KeyAtMost}

pub hinting_at : (stage : Stage) → is_hinting stage ≡ true → (last : Option NodeRow) × (stage ≡ Hinting last)
hinting_at (Walking waiting) e = absurd (cc)
hinting_at (Keying left) e = absurd (cc)
hinting_at (Hinting last) e = (last, refl)
hinting_at Counting e = absurd (cc)
hinting_at (Ended answer) e = absurd (cc)
hinting_at Failed e = absurd (cc)

-- a key that was loaded is known
pub key_here : (v : View) (n key high : ℕ) → key ≤ high → KeyAtMost (key_loaded v n key) high n
key_here v n key high le = go (n == 0)
  where
    go : (b : Bool) → (k : ℕ) × ((if b then Some 0 else look n ((n, key) ∷ v.keys)) ≡ Some k) × (k ≤ high)
    go true = (0, refl, omega arith)
    go false = (key, look_here n key v.keys, le)

module _ (t : Task) (n : ℕ) (pair : Row) (v : View) (s : State) (open_now : IsOpen t s pair) (r : Row) (again : (was : Row) → known_row v n ≡ Some was → r ≡ was) where
  abbrev loaded : View
  loaded = row_loaded v n r

  abbrev read_row : State
  read_row = at s (Hinting (Some (node_row n r)))

  row_read : read_one t s (seen.Row n r) ≡ read_row
  row_read = let h = hinting_at s.stage open_now.stage in ap (λ g. read_at t s g (seen.Row n r)) h.1

  row_again : (was : Row) → known_row v n ≡ Some was → known_row loaded n ≡ Some was
  row_again was e = look_here n r v.rows ∙ ap Some (again was e)

  -- another row: no hit
  pub other_row : (z : State) → z ≡ read_one t s (seen.Row n r) → IsHint t n pair v s loaded z false
  other_row z e = record {
    met = seen.Row n r ∷ [];
    reads = refl;
    claims = refl;
    state = e;
    misses = refl;
    number = refl;
    held = refl;
    pins = refl;
    idle = refl;
    makes = refl;
    changes = refl;
    difference = refl;
    others = λ m ne. look_there m n r v.rows ne;
    again = row_again;
    own = λ f. cc;
    keys = λ m ne. refl;
    key = λ f. absurd (let no : false ≡ true = f in cc);
    low = subst (λ (y : State). s.low ≤ y.low) (sym (e ∙ row_read)) (omega arith);
    high = ap (λ (y : State). y.high) (e ∙ row_read);
    inner = ap (λ (y : State). y.inner) (e ∙ row_read);
    hits = ap (λ (y : State). y.hits) (e ∙ row_read);
    stage = ap (λ (y : State). is_hinting y.stage) (e ∙ row_read);
  }

  -- the pair's row: a hit or not, by its key
  key_read : (key : ℕ) → r ≡ pair → read_one t read_row (seen.Key n key) ≡ hinted t read_row n r key
  key_read key same = ap (λ b. if b then hinted t read_row n r key else failed read_row) fits
    where
      fits : ((n == n && nat_lt (length s.hits) most_hits) && is_asked (placed_now t s).extra r) ≡ true
      fits = all (n == n) (nat_lt (length s.hits) most_hits) (is_asked (placed_now t s).extra r) (node_same n) (lt-ltb (length s.hits) most_hits open_now.room) (ap (λ x. is_asked (placed_now t s).extra x) same ∙ open_now.asked)
        where
          all : (a b c : Bool) → a ≡ true → b ≡ true → c ≡ true → ((a && b) && c) ≡ true
          all true true true p q h = refl
          all true true false p q h = h
          all true false c p q h = absurd (cc)
          all false b c p q h = absurd (cc)

  pub pair_row : (key : ℕ) (y z : State) (hit : Bool) → r ≡ pair → y ≡ read_one t s (seen.Row n r) → z ≡ read_one t y (seen.Key n key) → hit ≡ nat_lt (length y.hits) (length z.hits) → IsHint t n pair v s (key_loaded loaded n key) z hit
  pair_row key y z hit same first second is = go (may_hit t.proposal.leaves s.high n key) refl
    where
      now : y ≡ read_row
      now = first ∙ row_read

      next : z ≡ (if may_hit t.proposal.leaves s.high n key then at (with_hit read_row n r key) (Hinting None) else at read_row (Hinting None))
      next = second ∙ (ap (λ (x : State). read_one t x (seen.Key n key)) now ∙ key_read key same)

      build : z.inner ≡ s.inner → z.hits ≡ hits_after s.hits n pair hit → is_hinting z.stage ≡ true → s.low ≤ z.low → z.high ≡ s.high → (hit ≡ true → KeyAtMost (key_loaded loaded n key) z.low n) → IsHint t n pair v s (key_loaded loaded n key) z hit
      build inner hits stage low high below = record {
        met = seen.Row n r ∷ seen.Key n key ∷ [];
        reads = append_assoc v.reads (seen.Row n r ∷ []) (seen.Key n key ∷ []);
        claims = refl;
        state = second ∙ ap (λ (x : State). read_one t x (seen.Key n key)) first;
        misses = refl;
        number = refl;
        held = refl;
        pins = refl;
        idle = refl;
        makes = refl;
        changes = refl;
        difference = refl;
        others = λ m ne. look_there m n r v.rows ne;
        again = row_again;
        own = λ f. look_here n r v.rows ∙ ap Some same;
        keys = λ m ne. ap (λ o. if m == 0 then Some 0 else o) (look_there m n key v.keys ne);
        key = below;
        low = low;
        high = high;
        inner = inner;
        hits = hits;
        stage = stage;
      }

      before : length y.hits ≡ length s.hits
      before = ap (λ (x : State). length x.hits) now

      go : (b : Bool) → may_hit t.proposal.leaves s.high n key ≡ b → IsHint t n pair v s (key_loaded loaded n key) z hit
      go true e =
          let z_is : z ≡ at (with_hit read_row n r key) (Hinting None) = next ∙ ap (λ b. if b then at (with_hit read_row n r key) (Hinting None) else at read_row (Hinting None)) e in
          let size : length z.hits ≡ length s.hits + 1 = ap (λ (x : State). length x.hits) z_is ∙ length-append s.hits (node_row n r ∷ []) in
          let yes : hit ≡ true = is ∙ lt-ltb (length y.hits) (length z.hits) (omega (arith, size, before)) in
          build (ap (λ (x : State). x.inner) z_is)
          (ap (λ (x : State). x.hits) z_is ∙ (ap (λ x. s.hits ++ node_row n x ∷ []) same ∙ sym (ap (λ b. if b then s.hits ++ node_row n pair ∷ [] else s.hits) yes)))
          (ap (λ (x : State). is_hinting x.stage) z_is)
          (subst (λ (x : State). s.low ≤ x.low) (sym z_is) (le-max_left s.low key))
          (ap (λ (x : State). x.high) z_is)
          (λ f. subst (λ (x : State). KeyAtMost (key_loaded loaded n key) x.low n) (sym z_is) (key_here loaded n key (max s.low key) (le-max_right s.low key)))
      go false e =
          let z_is : z ≡ at read_row (Hinting None) = next ∙ ap (λ b. if b then at (with_hit read_row n r key) (Hinting None) else at read_row (Hinting None)) e in
          let size : length z.hits ≡ length s.hits = ap (λ (x : State). length x.hits) z_is in
          let no : hit ≡ false = is ∙ not_less (length y.hits) (length z.hits) (before ∙ sym size) in
          build (ap (λ (x : State). x.inner) z_is)
          (ap (λ (x : State). x.hits) z_is ∙ sym (ap (λ b. if b then s.hits ++ node_row n pair ∷ [] else s.hits) no))
          (ap (λ (x : State). is_hinting x.stage) z_is)
          (subst (λ (x : State). s.low ≤ x.low) (sym z_is) (omega arith))
          (ap (λ (x : State). x.high) z_is)
          (λ f. absurd (let yes : false ≡ true = sym no ∙ f in cc))
        where
          not_less : (a b : ℕ) → a ≡ b → nat_lt a b ≡ false
          not_less a b same = go2 (nat_lt a b) refl
            where
              go2 : (c : Bool) → nat_lt a b ≡ c → c ≡ false
              go2 true f = let less : a < b = ltb-true a b f in absurd (omega (arith, same, less))
              go2 false f = refl
