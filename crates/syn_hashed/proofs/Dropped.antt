-- Rows of which the unreached ones are dropped are a graph's, with the same function.
use Rattle.std.proofs.Common.{◌≡◌, ◌≢◌, ℕ, zero, suc, ◌+◌, ◌*◌, ◌%◌, ◌<◌, ◌≤◌, ◌&&◌, nat_lt, nat_le, nat_eq, not, if◌then◌else◌, Bool, true, false, All, List, [], ◌∷◌, length, map, get_or, refl, sym, ap, ap₂, ◌∙◌, subst, arith, inl, inr}
use Rattle.std.proofs.lemmas.List.{length-map, get_or-map, get_or_past}
use Rattle.std.proofs.lemmas.List.Elements.{All-map, All-tail, All-head}
use Rattle.std.proofs.lemmas.Bool.{cases_lt, and_parts, and_from, or_cases, or_right, both_ways, lt-ltb, ltb-true, le-leb, leb-true, ne_eqb, eqb-false, not-true, not_from_false}
use Rattle.syn_rows.specs.declared.Lit.{Lit}
use Rattle.syn_rows.specs.declared.Row.{Row}
use Rattle.syn_rows.specs.declared.Row.TheVariants.{Free, Source, And, Alias}
use Rattle.syn_rows.specs.Rows.{node_of, row_at, AllRefs, InOrder, refs_below, in_order_from, refs_within}
use Rattle.syn_rows.proofs.Folds.{AllRefs-weaker, in_order_means, in_order_since}
use Rattle.std.specs.List.{list_all}
use Rattle.syn_rows.specs.Values.{lit_value, RowFits, Fits, is_open, HasGiven, given_by, value_in, values_of, rows_function, OneValuation}
use Rattle.syn_rows.specs.Reach.{HasObserved, IsClosed, Reached, IsReachedSet}
use Rattle.syn_hashed.proofs.Orders.{hashed_in_order}
use Rattle.syn_hashed.specs.Hashed.{is_gate, IsHashed, lit_at}
use Rattle.std.proofs.Common.{max}
use Rattle.syn_rows.specs.Levels.{level_in, levels_of}
use Rattle.syn_hashed.specs.Growing.{level_by}
use Rattle.syn_hashed.proofs.LevelLaws.{source_level, gate_level}
use Rattle.syn_hashed.specs.Compacting.{is_kept, kept_below, moved_lit, moved_row, kept_rows, kept_lits, IsCompaction}
use Rattle.syn_hashed.proofs.Kept.{below_kept_rises, below_rises, below_le, kept_apart, kept_onto, front_kept, front_stays, length-kept, kept_at, kept_there}

-- hashed rows

-- what a gate's test says
pub record IsGate (n : ℕ) (a b : Lit) : Type 0 where
  pub above : 2 ≤ a.0
  pub rising : a.0 < b.0
  pub apart : node_of a ≢ node_of b
  pub below : node_of b < n

pub gate_parts : (n : ℕ) (a b : Lit) → is_gate n (And a b) ≡ true → IsGate n a b
gate_parts n a b h =
    let first = and_parts (nat_le 2 a.0) (nat_lt a.0 b.0 && (not (nat_eq (node_of a) (node_of b)) && nat_lt (node_of b) n)) h in
    let second = and_parts (nat_lt a.0 b.0) (not (nat_eq (node_of a) (node_of b)) && nat_lt (node_of b) n) first.1 in
    let third = and_parts (not (nat_eq (node_of a) (node_of b))) (nat_lt (node_of b) n) second.1 in
    record {
      above = leb-true 2 a.0 first.0;
      rising = ltb-true a.0 b.0 second.0;
      apart = eqb-false (node_of a) (node_of b) (not-true (nat_eq (node_of a) (node_of b)) third.0);
      below = ltb-true (node_of b) n third.1;
    }

pub gate_from : (n : ℕ) (a b : Lit) → IsGate n a b → is_gate n (And a b) ≡ true
gate_from n a b g =
    and_from (nat_le 2 a.0) (nat_lt a.0 b.0 && (not (nat_eq (node_of a) (node_of b)) && nat_lt (node_of b) n)) (le-leb 2 a.0 g.above)
    (and_from (nat_lt a.0 b.0) (not (nat_eq (node_of a) (node_of b)) && nat_lt (node_of b) n) (lt-ltb a.0 b.0 g.rising)
    (and_from (not (nat_eq (node_of a) (node_of b))) (nat_lt (node_of b) n) (not_from_false (nat_eq (node_of a) (node_of b)) (ne_eqb (node_of a) (node_of b) g.apart)) (lt-ltb (node_of b) n g.below)))

-- a gate is an AND
pub gate_is_and : (n : ℕ) (row : Row) → is_gate n row ≡ true → (a : Lit) × (b : Lit) × (row ≡ And a b) × IsGate n a b
gate_is_and n Free h = absurd (both_ways false refl h)
gate_is_and n Source h = absurd (both_ways false refl h)
gate_is_and n (And a b) h = (a, b, refl, gate_parts n a b h)
gate_is_and n (Alias a) h = absurd (both_ways false refl h)

-- kept sets

-- the sources are kept, and with each node those that it refers to
pub record IsKeeping (count : ℕ) (rows : List Row) (keep : ℕ → Bool) : Type 0 where
  pub stays : (n : ℕ) → n ≤ count + 1 → kept_below keep n ≡ n
  pub front : (n : ℕ) → n < count + 1 → keep n ≡ true
  pub closed : (n : ℕ) → keep n ≡ true → AllRefs (λ m. keep m ≡ true) (row_at rows n)

pub kept_closed : (count : ℕ) (rows : List Row) (lits : List Lit) (set : ℕ → Bool) → IsHashed count rows → IsReachedSet rows lits set → IsKeeping count rows (is_kept count set)
kept_closed count rows lits set hashed reached = record {
  stays = front_stays count set;
  front = front_kept count set;
  closed = λ n k. elim (or_cases (nat_lt n (count + 1)) (set n) k) [
    | inl front ↦ subst (AllRefs (λ m. is_kept count set m ≡ true)) (sym (hashed.front n (ltb-true n (count + 1) front))) tt
    | inr inside ↦ wider (row_at rows n) (reached.closed n inside)
  ];
}
  where
    wider : (row : Row) → AllRefs (λ m. set m ≡ true) row → AllRefs (λ m. is_kept count set m ≡ true) row
    wider Free h = tt
    wider Source h = tt
    wider (And a b) h = (or_right (nat_lt (node_of a) (count + 1)) (set (node_of a)) h.0, or_right (nat_lt (node_of b) (count + 1)) (set (node_of b)) h.1)
    wider (Alias a) h = or_right (nat_lt (node_of a) (count + 1)) (set (node_of a)) h

-- the place of each kept AND's row, and what stands there
kept_refs : (keep : ℕ → Bool) (row : Row) (a b : Lit) → row ≡ And a b → AllRefs (λ m. keep m ≡ true) row → (keep (node_of a) ≡ true) × (keep (node_of b) ≡ true)
kept_refs keep row a b e h = subst (AllRefs (λ m. keep m ≡ true)) e h

moved_gate : (keep : ℕ → Bool) (n : ℕ) (a b : Lit) → IsGate n a b → kept_below keep 1 ≡ 1 → keep (node_of a) ≡ true → keep (node_of b) ≡ true → keep n ≡ true
    → IsGate (kept_below keep n) (moved_lit (kept_below keep) a) (moved_lit (kept_below keep) b)
moved_gate keep n a b gate one ka kb kn =
    let lower : node_of a < node_of b = omega (arith, gate.rising, gate.apart) in
    let up = below_kept_rises keep (node_of a) (node_of b) ka lower in
    let down = below_kept_rises keep (node_of b) n kb gate.below in
    let first = below_rises keep 1 (node_of a) (omega (arith, gate.above)) in
    record {
      above = omega arith;
      rising = omega arith;
      apart = λ e. omega (arith, e);
      below = omega arith;
    }

-- moved literals that are equal were equal
lits_apart : (keep : ℕ → Bool) (a b : Lit) → keep (node_of a) ≡ true → keep (node_of b) ≡ true → moved_lit (kept_below keep) a ≡ moved_lit (kept_below keep) b → a ≡ b
lits_apart keep a b ka kb e =
    let same : 2 * kept_below keep (node_of a) + a.0 % 2 ≡ 2 * kept_below keep (node_of b) + b.0 % 2 = ap (λ (l : Lit). l.0) e in
    let nodes : node_of a ≡ node_of b = kept_apart keep (node_of a) (node_of b) ka kb (omega arith) in
    let numbers : a.0 ≡ b.0 = omega arith in
    ap (λ (k : ℕ). let l : Lit = record { 0 = k } in l) numbers

and_first : (a b c d : Lit) → And a b ≡ And c d → a ≡ c
and_first a b c d e = cc

and_second : (a b c d : Lit) → And a b ≡ And c d → b ≡ d
and_second a b c d e = cc

-- where the places of new rows come from
record From (count : ℕ) (rows : List Row) (keep : ℕ → Bool) (j : ℕ) : Type 0 where
  pub node : ℕ
  pub first : Lit
  pub second : Lit
  pub above : count < node
  pub inside : node < length rows
  pub kept : keep node ≡ true
  pub place : kept_below keep node ≡ j
  pub was : row_at rows node ≡ And first second
  pub gate : IsGate node first second
  pub now : row_at (kept_rows keep rows) j ≡ And (moved_lit (kept_below keep) first) (moved_lit (kept_below keep) second)
  pub first_kept : keep (node_of first) ≡ true
  pub second_kept : keep (node_of second) ≡ true

from_at : (count : ℕ) (rows : List Row) (keep : ℕ → Bool) → IsHashed count rows → IsKeeping count rows keep → (j : ℕ) → count < j → j < length (kept_rows keep rows) → From count rows keep j
from_at count rows keep hashed keeping j above lt =
    let (m, inside, k, place) = kept_onto keep (length rows) j (omega (arith, length-kept keep rows)) in
    let high : count < m = elim (cases_lt count m) [ inl l ↦ l | inr ge ↦ absurd (omega (arith, keeping.stays m (omega arith))) ] in
    let (a, b, is, gate) = gate_is_and m (row_at rows m) (hashed.gates m high inside) in
    let refs = kept_refs keep (row_at rows m) a b is (keeping.closed m k) in
    record {
      node = m;
      first = a;
      second = b;
      above = high;
      inside = inside;
      kept = k;
      place = place;
      was = is;
      gate = gate;
      now = ap (row_at (kept_rows keep rows)) (sym place) ∙ kept_at keep rows m inside k ∙ ap (moved_row (kept_below keep)) is;
      first_kept = refs.0;
      second_kept = refs.1;
    }

pub kept_hashed : (count : ℕ) (rows : List Row) (keep : ℕ → Bool) → IsHashed count rows → IsKeeping count rows keep → IsHashed count (kept_rows keep rows)
kept_hashed count rows keep hashed keeping = record {
  there = omega (arith, length-kept keep rows, keeping.stays (count + 1) (omega arith), below_rises keep (count + 1) (length rows) (omega (arith, hashed.there)));
  front = λ n lt.
      ap (row_at (kept_rows keep rows)) (sym (keeping.stays n (omega arith))) ∙ kept_at keep rows n (omega (arith, hashed.there)) (keeping.front n lt) ∙ ap (moved_row (kept_below keep)) (hashed.front n lt);
  gates = λ j above lt.
      let f = from_at count rows keep hashed keeping j above lt in
      ap (is_gate j) f.now ∙ gate_from j (moved_lit (kept_below keep) f.first) (moved_lit (kept_below keep) f.second)
      (subst (λ k. IsGate k (moved_lit (kept_below keep) f.first) (moved_lit (kept_below keep) f.second)) f.place
      (moved_gate keep f.node f.first f.second f.gate (keeping.stays 1 (omega arith)) f.first_kept f.second_kept f.kept));
  once = λ i j above lt inside e.
      let f = from_at count rows keep hashed keeping i above (omega arith) in
      let g = from_at count rows keep hashed keeping j (omega arith) inside in
      let pair = sym f.now ∙ e ∙ g.now in
      let first = lits_apart keep f.first g.first f.first_kept g.first_kept (and_first (moved_lit (kept_below keep) f.first) (moved_lit (kept_below keep) f.second) (moved_lit (kept_below keep) g.first) (moved_lit (kept_below keep) g.second) pair) in
      let second = lits_apart keep f.second g.second f.second_kept g.second_kept (and_second (moved_lit (kept_below keep) f.first) (moved_lit (kept_below keep) f.second) (moved_lit (kept_below keep) g.first) (moved_lit (kept_below keep) g.second) pair) in
      let low : f.node < g.node = elim (cases_lt f.node g.node) [ inl l ↦ l | inr ge ↦ absurd (omega (arith, below_rises keep g.node f.node ge, f.place, g.place)) ] in
      hashed.once f.node g.node f.above low g.inside (f.was ∙ ap₂ (λ x y. And x y) first second ∙ sym g.was);
}

-- values

moved_value : (keep : ℕ → Bool) (v w : ℕ → Bool) (l : Lit) → w (kept_below keep (node_of l)) ≡ v (node_of l) → lit_value w (moved_lit (kept_below keep) l) ≡ lit_value v l
moved_value keep v w l e =
    let node : node_of (moved_lit (kept_below keep) l) ≡ kept_below keep (node_of l) = omega arith in
    let sign : (2 * kept_below keep (node_of l) + l.0 % 2) % 2 ≡ l.0 % 2 = omega arith in
    ap₂ (λ (s : ℕ) (b : Bool). if nat_eq s 0 then b else not b) sign (ap w node ∙ e)

values_stay : (count : ℕ) (rows : List Row) (keep : ℕ → Bool) → IsHashed count rows → IsKeeping count rows keep → (given v w : ℕ → Bool)
    → Fits rows v → HasGiven rows given v → Fits (kept_rows keep rows) w → HasGiven (kept_rows keep rows) given w → (k n : ℕ) → n < k → n < length rows → keep n ≡ true → w (kept_below keep n) ≡ v n
values_stay count rows keep hashed keeping given v w fv gv fw gw zero n lt inside kept = absurd (omega arith)
values_stay count rows keep hashed keeping given v w fv gv fw gw (suc k) n lt inside kept = elim (cases_lt n (count + 1)) [
  | inl front ↦
      let at = keeping.stays n (omega arith) in
      let there : n < length (kept_rows keep rows) = omega (arith, kept_there keep rows n inside kept) in
      let new : is_open (row_at (kept_rows keep rows) n) ≡ true = (let h = kept_hashed count rows keep hashed keeping in ap is_open (h.front n front)) in
      ap w at ∙ gw n there new ∙ sym (gv n inside (ap is_open (hashed.front n front)))
  | inr above ↦
      let (a, b, is, gate) = gate_is_and n (row_at rows n) (hashed.gates n (omega arith) inside) in
      let refs = kept_refs keep (row_at rows n) a b is (keeping.closed n kept) in
      let old : v n ≡ (lit_value v a && lit_value v b) = subst (RowFits v n) is (fv.each n) in
      let row : row_at (kept_rows keep rows) (kept_below keep n) ≡ And (moved_lit (kept_below keep) a) (moved_lit (kept_below keep) b) = kept_at keep rows n inside kept ∙ ap (moved_row (kept_below keep)) is in
      let new : w (kept_below keep n) ≡ (lit_value w (moved_lit (kept_below keep) a) && lit_value w (moved_lit (kept_below keep) b)) = subst (RowFits w (kept_below keep n)) row (fw.each (kept_below keep n)) in
      let small : node_of a < n = omega (arith, gate.rising, gate.below) in
      let first = moved_value keep v w a (values_stay count rows keep hashed keeping given v w fv gv fw gw k (node_of a) (omega arith) (omega arith) refs.0) in
      let second = moved_value keep v w b (values_stay count rows keep hashed keeping given v w fv gv fw gw k (node_of b) (omega (arith, gate.below)) (omega (arith, gate.below)) refs.1) in
      new ∙ ap₂ (λ x y. x && y) first second ∙ sym old
]

-- levels

moved_level : (keep : ℕ → Bool) (rows : List Row) (l : Lit) → level_in (levels_of (kept_rows keep rows)) (kept_below keep (node_of l)) ≡ level_in (levels_of rows) (node_of l)
    → level_by (kept_rows keep rows) (moved_lit (kept_below keep) l) ≡ level_by rows l
moved_level keep rows l e =
    let node : node_of (moved_lit (kept_below keep) l) ≡ kept_below keep (node_of l) = omega arith in
    ap (level_in (levels_of (kept_rows keep rows))) node ∙ e

levels_stay : (count : ℕ) (rows : List Row) (keep : ℕ → Bool) → IsHashed count rows → IsKeeping count rows keep → (k n : ℕ) → n < k → n < length rows → keep n ≡ true
    → level_in (levels_of (kept_rows keep rows)) (kept_below keep n) ≡ level_in (levels_of rows) n
levels_stay count rows keep hashed keeping zero n lt inside kept = absurd (omega arith)
levels_stay count rows keep hashed keeping (suc k) n lt inside kept = elim (cases_lt n (count + 1)) [
  | inl front ↦
      let at = keeping.stays n (omega arith) in
      ap (level_in (levels_of (kept_rows keep rows))) at ∙ source_level count (kept_rows keep rows) (kept_hashed count rows keep hashed keeping) n front ∙ sym (source_level count rows hashed n front)
  | inr above ↦
      let (a, b, is, gate) = gate_is_and n (row_at rows n) (hashed.gates n (omega arith) inside) in
      let refs = kept_refs keep (row_at rows n) a b is (keeping.closed n kept) in
      let row : row_at (kept_rows keep rows) (kept_below keep n) ≡ And (moved_lit (kept_below keep) a) (moved_lit (kept_below keep) b) = kept_at keep rows n inside kept ∙ ap (moved_row (kept_below keep)) is in
      let small : node_of a < n = omega (arith, gate.rising, gate.below) in
      let first = moved_level keep rows a (levels_stay count rows keep hashed keeping k (node_of a) (omega arith) (omega arith) refs.0) in
      let second = moved_level keep rows b (levels_stay count rows keep hashed keeping k (node_of b) (omega (arith, gate.below)) (omega (arith, gate.below)) refs.1) in
      gate_level count (kept_rows keep rows) (kept_hashed count rows keep hashed keeping) (kept_below keep n) (moved_lit (kept_below keep) a) (moved_lit (kept_below keep) b) row
      ∙ ap₂ (λ (x : ℕ) (y : ℕ). max x y + 1) first second ∙ sym (gate_level count rows hashed n a b is)
]

-- reach

reach_stays : (count : ℕ) (rows : List Row) (lits : List Lit) (set : ℕ → Bool) → IsHashed count rows → IsReachedSet rows lits set → (keeping : IsKeeping count rows (is_kept count set))
    → (j : ℕ) → count < j → j < length (kept_rows (is_kept count set) rows) → Reached (kept_rows (is_kept count set) rows) (kept_lits (is_kept count set) lits) j
reach_stays count rows lits set hashed reached keeping j above lt new closed observes = result
  where
    keep : ℕ → Bool
    keep = is_kept count set

    new_rows : List Row
    new_rows = kept_rows keep rows

    f : From count rows keep j
    f = from_at count rows keep hashed keeping j above lt

    old : ℕ → Bool
    old n = keep n && new (kept_below keep n)

    in_set : set f.node ≡ true
    in_set = elim (or_cases (nat_lt f.node (count + 1)) (set f.node) f.kept) [ inl front ↦ absurd (omega (arith, ltb-true f.node (count + 1) front, f.above)) | inr s ↦ s ]

    at_lit : (l : Lit) → keep (node_of l) ≡ true → new (node_of (moved_lit (kept_below keep) l)) ≡ true → old (node_of l) ≡ true
    at_lit l k h = and_from (keep (node_of l)) (new (kept_below keep (node_of l))) k (ap new (let e : kept_below keep (node_of l) ≡ node_of (moved_lit (kept_below keep) l) = omega arith in e) ∙ h)

    refs : (row moved : Row) → moved ≡ moved_row (kept_below keep) row → AllRefs (λ m. keep m ≡ true) row → AllRefs (λ m. new m ≡ true) moved → AllRefs (λ m. old m ≡ true) row
    refs Free moved e k h = tt
    refs Source moved e k h = tt
    refs (And a b) moved e k h =
        let both : AllRefs (λ m. new m ≡ true) (And (moved_lit (kept_below keep) a) (moved_lit (kept_below keep) b)) = subst (AllRefs (λ m. new m ≡ true)) e h in
        (at_lit a k.0 both.0, at_lit b k.1 both.1)
    refs (Alias a) moved e k h =
        let one : AllRefs (λ m. new m ≡ true) (Alias (moved_lit (kept_below keep) a)) = subst (AllRefs (λ m. new m ≡ true)) e h in
        at_lit a k one

    old_closed : IsClosed rows old
    old_closed n h =
        let parts = and_parts (keep n) (new (kept_below keep n)) h in
        elim (cases_lt n (length rows)) [
          | inl inside ↦ refs (row_at rows n) (row_at new_rows (kept_below keep n)) (kept_at keep rows n inside parts.0) (keeping.closed n parts.0) (closed (kept_below keep n) parts.1)
          | inr past ↦ subst (AllRefs (λ m. old m ≡ true)) (sym (get_or_past rows n Free past)) tt
        ]

    old_observes : HasObserved lits old
    old_observes i d inside =
        let l = get_or lits i d in
        let k : keep (node_of l) ≡ true = or_right (nat_lt (node_of l) (count + 1)) (set (node_of l)) (reached.observes i d inside) in
        let moved : get_or (kept_lits keep lits) i (moved_lit (kept_below keep) d) ≡ moved_lit (kept_below keep) l = get_or-map (moved_lit (kept_below keep)) lits i d (moved_lit (kept_below keep) d) inside in
        at_lit l k (ap (λ (x : Lit). new (node_of x)) (sym moved) ∙ observes i (moved_lit (kept_below keep) d) (omega (arith, length-map lits (moved_lit (kept_below keep)))))

    result : new j ≡ true
    result = ap new (sym f.place) ∙ (and_parts (keep f.node) (new (kept_below keep f.node)) (reached.least f.node in_set old old_closed old_observes)).1

-- what compaction gives

lits_stay : (count : ℕ) (rows : List Row) (keep : ℕ → Bool) (v w : ℕ → Bool) → ((n : ℕ) → n < length rows → keep n ≡ true → w (kept_below keep n) ≡ v n)
    → (lits : List Lit) → All (λ l. node_of l < length rows) lits → All (λ l. keep (node_of l) ≡ true) lits → map (lit_value w) (kept_lits keep lits) ≡ map (lit_value v) lits
lits_stay count rows keep v w same [] inside kept = refl
lits_stay count rows keep v w same (l ∷ ls) inside kept =
    ap₂ (λ (b : Bool) (bs : List Bool). b ∷ bs)
    (moved_value keep v w l (same (node_of l) (All-head (λ (x : Lit). node_of x < length rows) l ls inside) (All-head (λ (x : Lit). keep (node_of x) ≡ true) l ls kept)))
    (lits_stay count rows keep v w same ls (All-tail (λ (x : Lit). node_of x < length rows) l ls inside) (All-tail (λ (x : Lit). keep (node_of x) ≡ true) l ls kept))

lit_stays : (place : ℕ → ℕ) (l : Lit) → place (node_of l) ≡ node_of l → moved_lit place l ≡ l
lit_stays place l e =
    let numbers : 2 * place (node_of l) + l.0 % 2 ≡ l.0 = omega arith in
    ap (λ (k : ℕ). let m : Lit = record { 0 = k } in m) numbers

pub compaction : ((rows : List Row) (given : ℕ → Bool) → InOrder rows → given 0 ≡ false → OneValuation rows given) → (count : ℕ) (rows : List Row) (lits : List Lit) (set : ℕ → Bool)
    → IsHashed count rows → All (λ l. node_of l < length rows) lits → IsReachedSet rows lits set → IsCompaction count rows lits (kept_rows (is_kept count set) rows) (kept_lits (is_kept count set) lits)
compaction one_valuation count rows lits set hashed inside reached = record {
  hashed = new_hashed;
  same_count = length-map lits (moved_lit (kept_below keep));
  within = All-map (λ (l : Lit). node_of l < length new_rows) (moved_lit (kept_below keep)) lits
      (λ i d lt. let at = kept_there keep rows (node_of (get_or lits i d)) (inside i d lt) (kept i d lt) in omega (arith, at));
  reached = reach_stays count rows lits set hashed reached keeping;
  fewer = omega (arith, length-kept keep rows, below_le keep (length rows));
  same_function = function;
  levels = λ i lt.
      let moved : lit_at (kept_lits keep lits) i ≡ moved_lit (kept_below keep) (lit_at lits i) = get_or-map (moved_lit (kept_below keep)) lits i (record { 0 = 0 }) (record { 0 = 0 }) lt in
      let there = inside i (record { 0 = 0 }) lt in
      let same : level_by new_rows (lit_at (kept_lits keep lits) i) ≡ level_by rows (lit_at lits i) =
      ap (level_by new_rows) moved ∙ moved_level keep rows (lit_at lits i) (levels_stay count rows keep hashed keeping (suc (node_of (lit_at lits i))) (node_of (lit_at lits i)) (omega arith) there (kept i (record { 0 = 0 }) lt)) in
      omega (arith, same);
  sources_stay = λ i l lt front e.
      let moved : get_or (kept_lits keep lits) i (record { 0 = 0 }) ≡ moved_lit (kept_below keep) (lit_at lits i) = get_or-map (moved_lit (kept_below keep)) lits i (record { 0 = 0 }) (record { 0 = 0 }) lt in
      moved ∙ ap (moved_lit (kept_below keep)) e ∙ lit_stays (kept_below keep) l (keeping.stays (node_of l) (omega arith));
}
  where
    keep : ℕ → Bool
    keep = is_kept count set

    new_rows : List Row
    new_rows = kept_rows keep rows

    keeping : IsKeeping count rows keep
    keeping = kept_closed count rows lits set hashed reached

    new_hashed : IsHashed count new_rows
    new_hashed = kept_hashed count rows keep hashed keeping

    kept : All (λ (l : Lit). keep (node_of l) ≡ true) lits
    kept i d lt = or_right (nat_lt (node_of (get_or lits i d)) (count + 1)) (set (node_of (get_or lits i d))) (reached.observes i d lt)

    function : (bits : List Bool) → rows_function new_rows (kept_lits keep lits) bits ≡ rows_function rows lits bits
    function bits =
        let was = one_valuation rows (given_by bits) (hashed_in_order count rows hashed) refl in
        let now = one_valuation new_rows (given_by bits) (hashed_in_order count new_rows new_hashed) refl in
        lits_stay count rows keep (value_in (values_of (given_by bits) rows)) (value_in (values_of (given_by bits) new_rows))
        (λ n lt k. values_stay count rows keep hashed keeping (given_by bits) (value_in (values_of (given_by bits) rows)) (value_in (values_of (given_by bits) new_rows)) was.0 was.1 now.0 now.1 (suc n) n (omega arith) lt k)
        lits inside kept

-- what the code asks for

refs_in : (k : ℕ) (row : Row) → AllRefs (λ m. m < k) row → refs_below k row ≡ true
refs_in k Free h = refl
refs_in k Source h = refl
refs_in k (And a b) h = and_from (nat_lt (node_of a) k) (nat_lt (node_of b) k) (lt-ltb (node_of a) k h.0) (lt-ltb (node_of b) k h.1)
refs_in k (Alias a) h = lt-ltb (node_of a) k h

all_refs_in : (k : ℕ) (rows : List Row) → ((n : ℕ) → n < length rows → AllRefs (λ m. m < k) (row_at rows n)) → list_all (refs_below k) rows ≡ true
all_refs_in k [] h = refl
all_refs_in k (row ∷ rows) h = and_from (refs_below k row) (list_all (refs_below k) rows) (refs_in k row (h 0 (omega arith))) (all_refs_in k rows (λ n lt. h (suc n) (omega arith)))

pub hashed_within : (count : ℕ) (rows : List Row) → IsHashed count rows → refs_within rows ≡ true
hashed_within count rows hashed = all_refs_in (length rows) rows (λ n lt. AllRefs-weaker (λ m. m < n) (λ m. m < length rows) (λ m l. omega arith) (row_at rows n) (hashed_in_order count rows hashed n))

pub hashed_order : (count : ℕ) (rows : List Row) → IsHashed count rows → in_order_from 0 rows ≡ true
hashed_order count rows hashed = in_order_since rows (hashed_in_order count rows hashed)

pub all_lits_in : (k : ℕ) (lits : List Lit) → All (λ l. node_of l < k) lits → list_all (λ l. nat_lt (node_of l) k) lits ≡ true
all_lits_in k [] h = refl
all_lits_in k (l ∷ ls) h =
    and_from (nat_lt (node_of l) k) (list_all (λ x. nat_lt (node_of x) k) ls) (lt-ltb (node_of l) k (All-head (λ (x : Lit). node_of x < k) l ls h))
    (all_lits_in k ls (All-tail (λ (x : Lit). node_of x < k) l ls h))

pub refs_there : (rows : List Row) (n k : ℕ) (row : Row) → in_order_from 0 rows ≡ true → n < length rows → k ≡ length rows → row ≡ row_at rows n → AllRefs (λ m. m < k) row
refs_there rows n k row order lt e is = subst (AllRefs (λ m. m < k)) (sym is) (AllRefs-weaker (λ m. m < n) (λ m. m < k) (λ m l. omega arith) (row_at rows n) (in_order_means rows order n))

-- rows that are all reached are compacted already
pub reached_compaction : (count : ℕ) (rows : List Row) (lits : List Lit) (set : ℕ → Bool) → IsHashed count rows → All (λ l. node_of l < length rows) lits → IsReachedSet rows lits set
    → ((n : ℕ) → count < n → n < length rows → set n ≡ true) → IsCompaction count rows lits rows lits
reached_compaction count rows lits set hashed inside reached all = record {
  hashed = hashed;
  same_count = refl;
  within = inside;
  reached = λ n above lt. reached.least n (all n above lt);
  fewer = omega arith;
  same_function = λ bits. refl;
  levels = λ i lt. omega arith;
  sources_stay = λ i l lt low at. at;
}
