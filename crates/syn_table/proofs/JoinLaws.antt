-- The joining of a seat that holds and pins nothing keeps the rule of the table; what the rule says of a seat's numbers.
use Rattle.std.proofs.Common.{◌≡◌, ◌≢◌, ℕ, zero, suc, ◌<◌, ◌≤◌, All, List, [], ◌∷◌, ◌++◌, drop, set, get_or, refl, sym, ap, ap₂, ◌∙◌, subst, arith, inl, inr}
use Rattle.std.proofs.lemmas.Bool.{cases_lt}
use mathlib.Core.Option.{some, none}
use lib.ListN.{get_elem?}
use Rattle.atomic_table.specs.Table.{State, Me, Allows, Joins, keeps, step}
use Rattle.atomic_table.proofs.Lists.{at_set, set_again, set_else}
use Rattle.syn_rows.specs.References.{times}
use Rattle.syn_core_laws.specs.declared.View.{View}
use Rattle.syn_core_laws.specs.Cores.{Core}
use Rattle.syn_core_laws.specs.Openings.{empty_view}
use Rattle.syn_core_laws.specs.Splits.{core_after_join}
use Rattle.syn_core_laws.proofs.Counting.{hits_same, times_append}
use Rattle.syn_core_laws.proofs.Splitting.{joins_keep_sound}
use Rattle.syn_table.specs.declared.Known.{Known}
use Rattle.syn_table.specs.declared.Opening.{Opening}
use Rattle.syn_table.specs.Numbers.{all_numbers}
use Rattle.syn_table.specs.Rule.{views_of, HasOwnNumber, IsTied, IsTable, IsCore, IsActive}
use Rattle.syn_table.specs.Splitting.{with_joined, spent_known, AreNumbers, TellsNumbers}
use Rattle.syn_table.proofs.Numbering.{numbers_set, numbers_in, length_in, all_counted}
use Rattle.syn_table.proofs.Ruling.{views_set, tied_still, view_at}
use Rattle.syn_table.proofs.Listed.{laid_as, spent_pins, own_from}

module _ (opening : Opening) (words : List ℕ) (seats : List Known) (c : Core) (id other : ℕ) (k o : Known) (t : IsTable opening words seats c) (at : get_elem? seats id ≡ some k) (apart : other ≢ id) (there : get_elem? seats other ≡ some o) (small : k.core.number < 64) (held : o.core.held ≡ []) (pins : o.core.pins ≡ []) where
  abbrev taken : List Known
  taken = set seats id (with_joined k o)

  still : get_elem? taken other ≡ some o
  still = set_else seats id other (with_joined k o) apart ∙ there

  abbrev joined_seats : List Known
  joined_seats = set taken other spent_known

  abbrev after : Core
  after = core_after_join c id k.core other o.core

  all_kept : (n : ℕ) → times n (all_numbers joined_seats) ≡ times n (all_numbers seats)
  all_kept n = omega (arith, numbers_set n taken other o spent_known still, numbers_set n seats id k (with_joined k o) at, times_append n k.numbers o.numbers)

  views : after.seats ≡ views_of joined_seats
  views = sym (views_set taken other spent_known ∙ ap (λ (vs : List View). set vs other (empty_view 64)) (views_set seats id (with_joined k o) ∙ ap (λ (vs : List View). set vs id (with_joined k o).core) (sym t.views)))

  mine : IsTied c k
  mine = t.tied id k at

  own : HasOwnNumber (with_joined k o)
  own = own_from (with_joined k o) (drop 1 k.numbers ++ o.numbers) (ap (λ (ns : List ℕ). ns ++ o.numbers) (mine.own small))

  tied : (j : ℕ) (x : Known) → get_elem? joined_seats j ≡ some x → IsTied after x
  tied j x e = elim (at_set taken other j spent_known x e) [
    | inl spent ↦ subst (IsTied after) spent.1 (record { own = λ lt. absurd (omega (arith, lt)); opening = λ lt. absurd (omega (arith, lt)); observed = λ lt. absurd (omega (arith, lt)); spent = λ ge. (refl, refl) })
    | inr old ↦ elim (at_set seats id j (with_joined k o) x old.1) [
      | inl here ↦ subst (IsTied after) here.1 (record { own = λ lt. own; opening = mine.opening; observed = mine.observed; spent = λ ge. absurd (omega (arith, ge, small)) })
      | inr else ↦ tied_still c after x refl refl (t.tied j x else.1)
    ]
  ]

  pub join_table : IsTable opening words joined_seats after
  join_table = record {
    laid = laid_as words c after.seats t.laid;
    views = views;
    opened = t.opened;
    observed = t.observed;
    nodes = t.nodes;
    small = record { nodes = t.small.nodes; literals = t.small.literals; spent = spent_pins after joined_seats views tied };
    sound = joins_keep_sound c id other k.core o.core t.sound (λ e. apart (sym e)) (view_at opening words seats c id k t at) (view_at opening words seats c other o t there) held pins;
    tied = tied;
    once = λ n lt. all_kept n ∙ t.once n lt;
    below = λ n ge. all_kept n ∙ t.below n ge;
  }

pub joins_allowed : (opening : Opening) (id other : ℕ) (k o : Known) → k.core.number < 64 → o.core.held ≡ [] → o.core.pins ≡ [] → Joins (IsCore opening) id k other o (with_joined k o) spent_known
joins_allowed opening id other k o small held pins s (c, t) at apart there =
    (core_after_join c id k.core other o.core, join_table opening s.words s.views c id other k o t at apart (sym (set_else s.views id other (with_joined k o) apart) ∙ there) small held pins)

-- ---- a seat's numbers
small_numbers : (xs : List ℕ) → ((n : ℕ) → 64 ≤ n → times n xs ≡ 0) → All (λ n. n < 64) xs
small_numbers [] empty k d lt = absurd (omega arith)
small_numbers (x ∷ xs) empty zero d lt = elim (cases_lt x 64) [ inl low ↦ low | inr ge ↦ absurd (let all = empty x ge in let one = hits_same x in omega (arith, all, one)) ]
small_numbers (x ∷ xs) empty (suc k) d lt = small_numbers xs (λ n ge. let all = empty n ge in omega (arith, all)) k d (omega arith)

pub seat_numbers : (opening : Opening) (words : List ℕ) (seats : List Known) (c : Core) (id : ℕ) (k : Known) → IsTable opening words seats c → get_elem? seats id ≡ some k → AreNumbers k.numbers
seat_numbers opening words seats c id k t at = record {
  few = (let all = all_counted 64 (all_numbers seats) t.once t.below in let one = length_in seats id k at in omega (arith, all, one));
  small = small_numbers k.numbers (λ n ge. let all = t.below n ge in let one = numbers_in n seats id k at in omega (arith, all, one));
}

same_word : (words : List ℕ) (i : ℕ) → set words i (get_or words i 0) ≡ words
same_word [] i = refl
same_word (w ∷ ws) zero = refl
same_word (w ∷ ws) (suc i) = ap (λ (l : List ℕ). w ∷ l) (same_word ws i)

-- a load of the seats' word changes nothing
pub look_allowed : (opening : Opening) (slots id : ℕ) (me : Me ℕ Known) → Allows (IsCore opening) slots id me 0 (λ n. n) (TellsNumbers (step slots 0 0 0 none) me)
look_allowed opening slots id me s (c, t) homes at small = (
  me.0,
  keeps,
  tt,
  subst (IsCore opening)
      (ap₂ (λ (ws : List ℕ) (ks : List Known). let st : State ℕ Known = record { words = ws; homes = s.homes; views = ks } in st) (sym (same_word s.words 0)) (sym (set_again s.views id me.0 at)))
      (c, t),
  (refl, seat_numbers opening s.words s.views c id me.0 t at),
)

pub joined_active : (k o : Known) → IsActive k → IsActive (with_joined k o)
joined_active k o a = record { number = a.number; own = own_from (with_joined k o) (drop 1 k.numbers ++ o.numbers) (ap (λ (ns : List ℕ). ns ++ o.numbers) a.own); within = a.within; shown = record { no_circle = a.shown.no_circle; used = a.shown.used; pinned = a.shown.pinned; rows = a.shown.rows; keys = a.shown.keys; idles = a.shown.idles; few = a.shown.few }; constant = a.constant }
