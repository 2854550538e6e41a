-- The steps of the walk keep its state.
use Rattle.std.proofs.Common.{◌≡◌, ◌≢◌, ℕ, zero, suc, ◌+◌, ◌<◌, ◌≤◌, ◌&&◌, ◌||◌, not, nat_eq, nat_lt, Bool, true, false, List, [], ◌∷◌, ◌++◌, length, map, take, get_or, refl, sym, ap, ◌∙◌, subst, inl, inr, arith, Option, Some, None, MatchOption, sum_by}
use Rattle.std.proofs.Math.ListN.{set, length-set}
use Rattle.std.specs.List.{list_all}
use Rattle.std.proofs.lemmas.Bool.{ltb-true, and_parts, and_from, or_left, or_right, or_parts, or_from, both_ways, not-true, not_from_false, false_from_ne_true, cases_lt}
use Rattle.std.proofs.lemmas.Bool.Decides.{eqb_tells}
use Rattle.std.proofs.lemmas.Grind.{get_or-set_at}
use Rattle.std.proofs.lemmas.List.{get_or-set_other, get_or_past}
use Rattle.std.proofs.lemmas.List.Sums.{sum_by-set}
use Rattle.syn_netlist.specs.declared.order_walk.Stage.{Stage}
use Rattle.syn_netlist.specs.declared.order_walk.Stage.TheVariants.{Waiting, Open, Done}
use Rattle.syn_netlist.specs.declared.tables.Table.{Table}
use Rattle.syn_lists.specs.Numbers.{has_number}
use Rattle.syn_netlist.specs.Numbers.{all_below}
use Rattle.syn_netlist.specs.Tables.{tables_below}
use Rattle.syn_netlist.specs.Walk.{AreDrivers, table_output, output_at, inputs_at, driver_at, stage_at, is_open, is_done, weight, driver_done, is_finished, driver_among, reads_made, seen_at, Leads, Linked, Begins, IsOrderWalk, IsNext, GoOn, Meets}
use Rattle.syn_lists.specs.Numbers.{distinct_numbers}
use Rattle.syn_lists.proofs.Once.{number_same, same_number, has_last, has_other, once_front, once_more}
use Rattle.syn_netlist.proofs.Places.{below_parts, below_from, all_below-append}

-- the last of a list

below_front : (n : ℕ) (front : List ℕ) (t : ℕ) → all_below n (front ++ t ∷ []) ≡ true → (all_below n front ≡ true) × (t < n)
below_front n [] t h = (refl, (below_parts n t [] h).0)
below_front n (x ∷ xs) t h =
    let (here, rest) = below_parts n x (xs ++ t ∷ []) h in
    let (front, last) = below_front n xs t rest in
    (below_from n x xs here front, last)

-- stages

pub done_weight : (s : Stage) → is_done s ≡ true → weight s ≡ 0
done_weight Waiting h = absurd (both_ways false refl h)
done_weight Open h = absurd (both_ways false refl h)
done_weight Done h = refl

pub weight_done : (s : Stage) → weight s ≤ 0 → is_done s ≡ true
weight_done Waiting h = absurd (omega arith)
weight_done Open h = absurd (omega arith)
weight_done Done h = refl

pub open_weight : (s : Stage) → is_open s ≡ true → weight s ≡ 1
open_weight Waiting h = absurd (both_ways false refl h)
open_weight Open h = refl
open_weight Done h = absurd (both_ways false refl h)

pub waiting_weight : (s : Stage) → is_open s ≡ false → is_done s ≡ false → weight s ≡ 2
waiting_weight Waiting h k = refl
waiting_weight Open h k = absurd (both_ways true h refl)
waiting_weight Done h k = absurd (both_ways true k refl)

open_undone : (s : Stage) → is_open s ≡ true → is_done s ≡ false
open_undone Waiting h = refl
open_undone Open h = refl
open_undone Done h = absurd (both_ways false refl h)

stage_here : (stages : List Stage) (t : ℕ) (s : Stage) → t < length stages → stage_at (set stages t s) t ≡ s
stage_here stages t s lt = get_or-set_at stages t t s Waiting refl lt

stage_other : (stages : List Stage) (t : ℕ) (s : Stage) (k : ℕ) → k ≢ t → stage_at (set stages t s) k ≡ stage_at stages k
stage_other stages t s k ne = get_or-set_other stages t k s Waiting ne

pub GoOn-set : (stages : List Stage) (t : ℕ) (s : Stage) → t < length stages → weight s ≤ weight (stage_at stages t) → GoOn stages (set stages t s)
GoOn-set stages t s lt le k = elim (eqb_tells t k) [
  | inl (b, e) ↦ subst (λ j. weight (stage_at (set stages t s) j) ≤ weight (stage_at stages j)) e (let h = ap weight (stage_here stages t s lt) in omega arith)
  | inr (b, e) ↦ (let h = ap weight (stage_other stages t s k (λ q. e (sym q))) in omega arith)
]

later_done : (old new : List Stage) → GoOn old new → (k : ℕ) → is_done (stage_at old k) ≡ true → is_done (stage_at new k) ≡ true
later_done old new g k h = weight_done (stage_at new k) (let a = done_weight (stage_at old k) h in let b = g k in omega arith)

later_finished : (drivers : List (Option ℕ)) (old new : List Stage) → GoOn old new → (names : List ℕ) → list_all (is_finished drivers old) names ≡ true → list_all (is_finished drivers new) names ≡ true
later_finished drivers old new g [] h = refl
later_finished drivers old new g (name ∷ names) h =
    let parts = and_parts (is_finished drivers old name) (list_all (is_finished drivers old) names) h in
    and_from (is_finished drivers new name) (list_all (is_finished drivers new) names) (one (driver_at drivers name) parts.0) (later_finished drivers old new g names parts.1)
  where
    one : (m : Option ℕ) → driver_done old m ≡ true → driver_done new m ≡ true
    one None h = refl
    one (Some t) h = later_done old new g t h

later_begins : (old new : List Stage) → GoOn old new → (path : List ℕ) → Begins old path → Begins new path
later_begins old new g [] b = tt
later_begins old new g (p ∷ ps) b = λ k lt. later_done old new g k (b k lt)

Begins-front : (stages : List Stage) (front : List ℕ) (t : ℕ) → Begins stages (front ++ t ∷ []) → Begins stages front
Begins-front stages [] t b = tt
Begins-front stages (p ∷ ps) t b = b

pub Begins-more : (stages : List Stage) (front : List ℕ) (t u : ℕ) → Begins stages (front ++ t ∷ []) → Begins stages ((front ++ t ∷ []) ++ u ∷ [])
Begins-more stages [] t u b = b
Begins-more stages (p ∷ ps) t u b = b

module _ (tables : List Table) (drivers : List (Option ℕ)) where
  -- the path

  Linked-front : (seen front : List ℕ) (t : ℕ) → Linked tables drivers seen (front ++ t ∷ []) → Linked tables drivers seen front
  Linked-front seen [] t l = tt
  Linked-front seen (p ∷ []) t l = tt
  Linked-front seen (p ∷ q ∷ ps) t l = (l.0, Linked-front seen (q ∷ ps) t l.1)

  pub Linked-more : (seen front : List ℕ) (t u : ℕ) → Linked tables drivers seen (front ++ t ∷ []) → Leads tables drivers seen t u → Linked tables drivers seen ((front ++ t ∷ []) ++ u ∷ [])
  Linked-more seen [] t u l m = (m, tt)
  Linked-more seen (p ∷ []) t u l m = (l.0, (m, tt))
  Linked-more seen (p ∷ q ∷ ps) t u l m = (l.0, Linked-more seen (q ∷ ps) t u l.1 m)

  Leads-set : (seen : List ℕ) (t at p u : ℕ) → p ≢ t → Leads tables drivers seen p u → Leads tables drivers (set seen t at) p u
  Leads-set seen t at p u ne l =
      let same : seen_at (set seen t at) p ≡ seen_at seen p = get_or-set_other seen t p at 0 ne in
      record {
        inside = subst (λ k. k < length (inputs_at tables p)) (sym same) l.inside;
        made = ap (λ k. driver_at drivers (get_or (inputs_at tables p) k 0)) same ∙ l.made;
      }

  -- a change of the last table's place leaves the links before it
  Linked-set : (seen front : List ℕ) (t at : ℕ) → has_number front t ≡ false → Linked tables drivers seen (front ++ t ∷ []) → Linked tables drivers (set seen t at) (front ++ t ∷ [])
  Linked-set seen [] t at h l = tt
  Linked-set seen (p ∷ []) t at h l = (Leads-set seen t at p t (not_same p h) l.0, tt)
    where
      not_same : (p : ℕ) → has_number (p ∷ []) t ≡ false → p ≢ t
      not_same p h e = both_ways (nat_eq p t) (or_parts (nat_eq p t) false h).0 (subst (λ k. nat_eq p k ≡ true) e (number_same p))
  Linked-set seen (p ∷ q ∷ ps) t at h l =
      let parts = or_parts (nat_eq p t) (has_number (q ∷ ps) t) h in
      (Leads-set seen t at p q (λ e. both_ways (nat_eq p t) parts.0 (subst (λ k. nat_eq p k ≡ true) e (number_same p))) l.0, Linked-set seen (q ∷ ps) t at parts.1 l.1)

  -- the order

  reads_made-more : (before order : List ℕ) (t : ℕ) → reads_made tables drivers before order ≡ true → list_all (λ name. driver_among (before ++ order) (driver_at drivers name)) (inputs_at tables t) ≡ true
      → reads_made tables drivers before (order ++ t ∷ []) ≡ true
  reads_made-more before [] t r h = and_from _ true (subst (λ (l : List ℕ). list_all (λ name. driver_among l (driver_at drivers name)) (inputs_at tables t) ≡ true) (append_nil before) h) refl
    where
      append_nil : (xs : List ℕ) → xs ++ [] ≡ xs
      append_nil [] = refl
      append_nil (x ∷ xs) = ap (λ (l : List ℕ). x ∷ l) (append_nil xs)
  reads_made-more before (u ∷ order) t r h =
      let parts = and_parts (list_all (λ name. driver_among before (driver_at drivers name)) (inputs_at tables u)) (reads_made tables drivers (before ++ u ∷ []) order) r in
      and_from (list_all (λ name. driver_among before (driver_at drivers name)) (inputs_at tables u)) (reads_made tables drivers (before ++ u ∷ []) (order ++ t ∷ [])) parts.0
      (reads_made-more (before ++ u ∷ []) order t parts.1 (subst (λ (l : List ℕ). list_all (λ name. driver_among l (driver_at drivers name)) (inputs_at tables t) ≡ true) (sym (append_assoc before u order)) h))
    where
      append_assoc : (xs : List ℕ) (y : ℕ) (zs : List ℕ) → (xs ++ y ∷ []) ++ zs ≡ xs ++ (y ∷ zs)
      append_assoc [] y zs = refl
      append_assoc (x ∷ xs) y zs = ap (λ (l : List ℕ). x ∷ l) (append_assoc xs y zs)

  pub finished_among : (stages : List Stage) (order : List ℕ) → ((t : ℕ) → t < length stages → is_done (stage_at stages t) ≡ has_number order t) → (names : List ℕ) → list_all (is_finished drivers stages) names ≡ true
      → list_all (λ name. driver_among order (driver_at drivers name)) names ≡ true
  finished_among stages order d [] h = refl
  finished_among stages order d (name ∷ names) h =
      let parts = and_parts (is_finished drivers stages name) (list_all (is_finished drivers stages) names) h in
      and_from (driver_among order (driver_at drivers name)) (list_all (λ name. driver_among order (driver_at drivers name)) names) (one (driver_at drivers name) parts.0) (finished_among stages order d names parts.1)
    where
      one : (m : Option ℕ) → driver_done stages m ≡ true → driver_among order m ≡ true
      one None h = refl
      one (Some t) h = elim (cases_lt t (length stages)) [
        | inl lt ↦ sym (d t lt) ∙ h
        | inr le ↦ absurd (both_ways (is_done (stage_at stages t)) (ap is_done (get_or_past stages t Waiting le)) h)
      ]

  -- the steps

  pub finish : (stages : List Stage) (seen front order : List ℕ) (top : ℕ) → IsOrderWalk tables drivers stages seen (front ++ top ∷ []) order → list_all (is_finished drivers stages) (inputs_at tables top) ≡ true
      → IsOrderWalk tables drivers (set stages top Done) seen front (order ++ top ∷ [])
  finish stages seen front order top w h = record {
    stages_fit = length-set stages top Done ∙ w.stages_fit;
    seen_fit = w.seen_fit;
    open_ones = λ k lt. elim (eqb_tells top k) [
      | inl (b, e) ↦ subst (λ j. is_open (stage_at (set stages top Done) j) ≡ has_number front j) e (ap is_open (stage_here stages top Done inside) ∙ sym away)
      | inr (b, e) ↦ (let ne : k ≢ top = λ q. e (sym q) in ap is_open (stage_other stages top Done k ne) ∙ w.open_ones k (subst (λ n. k < n) (length-set stages top Done) lt) ∙ has_other front top k ne)
    ];
    done_ones = λ k lt. elim (eqb_tells top k) [
      | inl (b, e) ↦ subst (λ j. is_done (stage_at (set stages top Done) j) ≡ has_number (order ++ top ∷ []) j) e (ap is_done (stage_here stages top Done inside) ∙ sym (has_last order top))
      | inr (b, e) ↦ (let ne : k ≢ top = λ q. e (sym q) in ap is_done (stage_other stages top Done k ne) ∙ w.done_ones k (subst (λ n. k < n) (length-set stages top Done) lt) ∙ sym (has_other order top k ne))
    ];
    path_below = (below_front (length tables) front top w.path_below).0;
    path_once = (once_front front top w.path_once).0;
    order_below = all_below-append (length tables) order (top ∷ []) w.order_below (below_from (length tables) top [] below refl);
    order_once = once_more order top w.order_once fresh;
    looked = λ t lt. later_finished drivers stages (set stages top Done) goes (take (seen_at seen t) (inputs_at tables t)) (w.looked t lt);
    linked = Linked-front seen front top w.linked;
    begins = later_begins stages (set stages top Done) goes front (Begins-front stages front top w.begins);
    made = reads_made-more [] order top w.made (finished_among stages order w.done_ones (inputs_at tables top) h);
  }
    where
      below : top < length tables
      below = (below_front (length tables) front top w.path_below).1

      inside : top < length stages
      inside = subst (λ n. top < n) (sym w.stages_fit) below

      away : has_number front top ≡ false
      away = (once_front front top w.path_once).1

      opened : is_open (stage_at stages top) ≡ true
      opened = w.open_ones top inside ∙ has_last front top

      fresh : has_number order top ≡ false
      fresh = sym (w.done_ones top inside) ∙ open_undone (stage_at stages top) opened

      goes : GoOn stages (set stages top Done)
      goes = GoOn-set stages top Done inside (omega arith)

  pub open_one : (stages : List Stage) (seen path order : List ℕ) (next : ℕ) → IsOrderWalk tables drivers stages seen path order → next < length tables → is_open (stage_at stages next) ≡ false → is_done (stage_at stages next) ≡ false
      → Linked tables drivers seen (path ++ next ∷ []) → Begins stages (path ++ next ∷ []) → IsOrderWalk tables drivers (set stages next Open) seen (path ++ next ∷ []) order
  open_one stages seen path order next w below unopened undone linked begins = record {
    stages_fit = length-set stages next Open ∙ w.stages_fit;
    seen_fit = w.seen_fit;
    open_ones = λ k lt. elim (eqb_tells next k) [
      | inl (b, e) ↦ subst (λ j. is_open (stage_at (set stages next Open) j) ≡ has_number (path ++ next ∷ []) j) e (ap is_open (stage_here stages next Open inside) ∙ sym (has_last path next))
      | inr (b, e) ↦ (let ne : k ≢ next = λ q. e (sym q) in ap is_open (stage_other stages next Open k ne) ∙ w.open_ones k (subst (λ n. k < n) (length-set stages next Open) lt) ∙ sym (has_other path next k ne))
    ];
    done_ones = λ k lt. elim (eqb_tells next k) [
      | inl (b, e) ↦ subst (λ j. is_done (stage_at (set stages next Open) j) ≡ has_number order j) e (ap is_done (stage_here stages next Open inside) ∙ sym undone ∙ w.done_ones next inside)
      | inr (b, e) ↦ (let ne : k ≢ next = λ q. e (sym q) in ap is_done (stage_other stages next Open k ne) ∙ w.done_ones k (subst (λ n. k < n) (length-set stages next Open) lt))
    ];
    path_below = all_below-append (length tables) path (next ∷ []) w.path_below (below_from (length tables) next [] below refl);
    path_once = once_more path next w.path_once (sym (w.open_ones next inside) ∙ unopened);
    order_below = w.order_below;
    order_once = w.order_once;
    looked = λ t lt. later_finished drivers stages (set stages next Open) goes (take (seen_at seen t) (inputs_at tables t)) (w.looked t lt);
    linked = linked;
    begins = later_begins stages (set stages next Open) goes (path ++ next ∷ []) begins;
    made = w.made;
  }
    where
      inside : next < length stages
      inside = subst (λ n. next < n) (sym w.stages_fit) below

      goes : GoOn stages (set stages next Open)
      goes = GoOn-set stages next Open inside (let h = waiting_weight (stage_at stages next) unopened undone in omega arith)

  pub look_on : (stages : List Stage) (seen front order : List ℕ) (top at : ℕ) → IsOrderWalk tables drivers stages seen (front ++ top ∷ []) order → list_all (is_finished drivers stages) (take at (inputs_at tables top)) ≡ true
      → IsOrderWalk tables drivers stages (set seen top at) (front ++ top ∷ []) order
  look_on stages seen front order top at w h = record {
    stages_fit = w.stages_fit;
    seen_fit = length-set seen top at ∙ w.seen_fit;
    open_ones = w.open_ones;
    done_ones = w.done_ones;
    path_below = w.path_below;
    path_once = w.path_once;
    order_below = w.order_below;
    order_once = w.order_once;
    looked = λ t lt. elim (eqb_tells top t) [
      | inl (b, e) ↦ subst (λ j. list_all (is_finished drivers stages) (take (seen_at (set seen top at) j) (inputs_at tables j)) ≡ true) e
          (ap (λ k. list_all (is_finished drivers stages) (take k (inputs_at tables top))) (get_or-set_at seen top top at 0 refl inside) ∙ h)
      | inr (b, e) ↦ ap (λ k. list_all (is_finished drivers stages) (take k (inputs_at tables t))) (get_or-set_other seen top t at 0 (λ q. e (sym q))) ∙ w.looked t lt
    ];
    linked = Linked-set seen front top at (once_front front top w.path_once).1 w.linked;
    begins = w.begins;
    made = w.made;
  }
    where
      inside : top < length seen
      inside = subst (λ n. top < n) (sym w.seen_fit) (below_front (length tables) front top w.path_below).1

  leads_now : (stages : List Stage) (seen front order : List ℕ) (top at next : ℕ) → IsOrderWalk tables drivers stages seen (front ++ top ∷ []) order → IsNext drivers stages (inputs_at tables top) at next → Leads tables drivers (set seen top at) top next
  leads_now stages seen front order top at next w n = record {
    inside = subst (λ k. k < length (inputs_at tables top)) (sym here) n.inside;
    made = ap (λ k. driver_at drivers (get_or (inputs_at tables top) k 0)) here ∙ n.driver;
  }
    where
      here : seen_at (set seen top at) top ≡ at
      here = get_or-set_at seen top top at 0 refl (subst (λ n. top < n) (sym w.seen_fit) (below_front (length tables) front top w.path_below).1)

  pub advance : (stages : List Stage) (seen front order : List ℕ) (top at next : ℕ) → IsOrderWalk tables drivers stages seen (front ++ top ∷ []) order → IsNext drivers stages (inputs_at tables top) at next → next < length tables
      → is_open (stage_at stages next) ≡ false → IsOrderWalk tables drivers (set stages next Open) (set seen top at) ((front ++ top ∷ []) ++ next ∷ []) order
  advance stages seen front order top at next w n below unopened =
      let on = look_on stages seen front order top at w n.before in
      open_one stages (set seen top at) (front ++ top ∷ []) order next on below unopened n.waits
      (Linked-more (set seen top at) front top next on.linked (leads_now stages seen front order top at next w n))
      (Begins-more stages front top next on.begins)

  pub meet : (stages : List Stage) (seen front order : List ℕ) (top at next : ℕ) → IsOrderWalk tables drivers stages seen (front ++ top ∷ []) order → IsNext drivers stages (inputs_at tables top) at next → next < length tables
      → is_open (stage_at stages next) ≡ true → Meets tables drivers stages (set seen top at) (front ++ top ∷ []) order next
  meet stages seen front order top at next w n below opened = record {
    walk = look_on stages seen front order top at w n.before;
    front = front;
    last = top;
    path_is = refl;
    leads = leads_now stages seen front order top at next w n;
    again = sym (w.open_ones next (subst (λ n. next < n) (sym w.stages_fit) below)) ∙ opened;
  }

  -- the first table of a path
  pub begin : (stages : List Stage) (seen order : List ℕ) (root : ℕ) → IsOrderWalk tables drivers stages seen [] order → root < length tables → is_done (stage_at stages root) ≡ false
      → ((k : ℕ) → k < root → is_done (stage_at stages k) ≡ true) → IsOrderWalk tables drivers (set stages root Open) seen (root ∷ []) order
  begin stages seen order root w below undone before = open_one stages seen [] order root w below (w.open_ones root (subst (λ n. root < n) (sym w.stages_fit) below)) undone tt before

  -- the last of the path is open, and there
  pub top_is : (stages : List Stage) (seen front order : List ℕ) (top : ℕ) → IsOrderWalk tables drivers stages seen (front ++ top ∷ []) order → (top < length tables) × (is_open (stage_at stages top) ≡ true)
  top_is stages seen front order top w =
      let below = (below_front (length tables) front top w.path_below).1 in
      (below, w.open_ones top (subst (λ n. top < n) (sym w.stages_fit) below) ∙ has_last front top)

-- a step makes the weight less
pub less_weight : (stages : List Stage) (t : ℕ) (s : Stage) → t < length stages → weight s < weight (stage_at stages t) → sum_by weight (set stages t s) < sum_by weight stages
less_weight stages t s lt less = let h = sum_by-set weight stages t s Waiting lt in omega arith

-- the inputs of a table are names, and makers are tables
pub inputs_below : (n : ℕ) (tables : List Table) (t : ℕ) → tables_below n tables ≡ true → all_below n (inputs_at tables t) ≡ true
inputs_below n [] t h = refl
inputs_below n (x ∷ xs) zero h = (and_parts (nat_lt x.output n) (all_below n x.inputs) (and_parts (nat_lt x.output n && all_below n x.inputs) (tables_below n xs) h).0).1
inputs_below n (x ∷ xs) (suc t) h = inputs_below n xs t (and_parts (nat_lt x.output n && all_below n x.inputs) (tables_below n xs) h).1

pub driver_is : (tables : List Table) (drivers : List (Option ℕ)) (name u : ℕ) → AreDrivers tables drivers → driver_at drivers name ≡ Some u → (u < length tables) × (output_at tables u ≡ name)
driver_is tables drivers name u m e = elim (cases_lt name (length drivers)) [
  | inl lt ↦ subst (λ o. MatchOption o (has_number (map table_output tables) name ≡ false) (λ t. (t < length tables) × (output_at tables t ≡ name))) e (m.at name lt)
  | inr le ↦ (let past : driver_at drivers name ≡ None = get_or_past drivers name None le in cc)
]

pub output_below : (n : ℕ) (tables : List Table) (t : ℕ) → tables_below n tables ≡ true → t < length tables → output_at tables t < n
output_below n [] t h lt = absurd (omega arith)
output_below n (x ∷ xs) zero h lt = ltb-true x.output n (and_parts (nat_lt x.output n) (all_below n x.inputs) (and_parts (nat_lt x.output n && all_below n x.inputs) (tables_below n xs) h).0).0
output_below n (x ∷ xs) (suc t) h lt = output_below n xs t (and_parts (nat_lt x.output n && all_below n x.inputs) (tables_below n xs) h).1 (omega arith)
