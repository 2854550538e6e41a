-- The leaves that are listed are those of the search, and the least cut.
use Rattle.std.proofs.Common.{◌≡◌, ◌≢◌, ℕ, zero, suc, ◌+◌, ◌⊎◌, ◌<◌, ◌≤◌, if◌then◌else◌, nat_eq, Bool, true, false, List, [], ◌∷◌, length, refl, sym, ap, ◌∙◌, subst, inl, inr, arith}
use Rattle.std.proofs.lemmas.Bool.{both_ways, cases_Bool, cases_lt, eq-eqb}
use Rattle.syn_rows.specs.declared.Row.{Row}
use Rattle.syn_rows.specs.Nodes.{has_node}
use Rattle.syn_rows.specs.Rows.{InOrder, row_at}
use Rattle.syn_rows.specs.Reach.{is_and}
use Rattle.syn_hashed.specs.Hashed.{IsHashed}
use Rattle.syn_cones.specs.Cones.{Refers}
use Rattle.syn_cones.specs.Walk.{put_node, rises}
use Rattle.syn_paths.specs.declared.places.Next.{Next}
use Rattle.syn_paths.specs.declared.places.Next.TheVariants.{Off}
use Rattle.syn_paths.specs.declared.places.Place.{Place}
use Rattle.syn_paths.specs.declared.places.Place.TheVariants.{In, Out}
use Rattle.syn_paths.specs.declared.places.Step.{Step}
use Rattle.syn_paths.specs.Tops.{FallsBelow, IsInTop, IsLowFor, label_in}
use Rattle.syn_paths.specs.Paths.{ArePathsInto}
use Rattle.syn_paths.specs.LeastCuts.{IsLeastCut}
use Rattle.syn_paths.specs.Listing.{AreLists, GoesUp}
use Rattle.syn_paths.specs.Checking.{is_marked}
use Rattle.syn_paths.specs.Searching.{AreLow, is_seen, IsStart, next_at, node_at, place_at, State, state}
use Rattle.syn_paths.specs.Adding.{ArePaths, AreStarts}
use Rattle.syn_paths.specs.Rooms.{AllOff, AreTouched, HoldsPaths}
use Rattle.syn_paths.specs.Outcomes.{AreHashed, AreLeavesTo, IsLeafOf, IsOwnCut, with_leaf}
use Rattle.syn_rows.proofs.Nodes.{here_or_there, same_node}
use Rattle.syn_hashed.proofs.Orders.{hashed_in_order}
use Rattle.syn_cones.proofs.Walking.{put_has, put_new, put_old, rises_puts}
use Rattle.syn_paths.proofs.Found.{low_at}
use Rattle.syn_paths.proofs.Searched.{trail_of}
use Rattle.syn_paths.proofs.Added.{are_low, IsLow, off_or_on, Top}
use Rattle.syn_paths.proofs.Listed.{goes_up, lists_into}
use Rattle.syn_paths.proofs.Cutting.{AreLeaves, IsDone}
use Rattle.syn_paths.proofs.Few.{leaves_few}
use Rattle.syn_paths.proofs.Least.{leaves_least, lists_there, rises_once}
use Rattle.syn_paths.proofs.Owned.{refers_there, top_inner}

-- one place more is looked at

leaf_later : (trail : List Step) (ins : List ℕ) (stamp limit v : ℕ) → IsLeafOf trail ins stamp limit v → IsLeafOf trail ins stamp (suc limit) v
leaf_later trail ins stamp limit v (i, lt, at, away) = (i, omega (arith, lt), at, away)

leaf_cases : (trail : List Step) (ins : List ℕ) (stamp limit v : ℕ) → IsLeafOf trail ins stamp (suc limit) v → IsLeafOf trail ins stamp limit v ⊎ ((place_at trail limit ≡ Out v) × (is_marked ins stamp v ≡ false))
leaf_cases trail ins stamp limit v (i, lt, at, away) = elim (cases_lt i limit) [
  | inl less ↦ inl (i, less, at, away)
  | inr past ↦ let e : i ≡ limit = omega (arith, lt, past) in inr (subst (λ k. place_at trail k ≡ Out v) e at, away)
]

out_same : (u v : ℕ) → Out u ≡ Out v → u ≡ v
out_same u v e = ap node_at e

put_rises : (n : ℕ) (ns : List ℕ) → rises ns ≡ true → rises (put_node n ns) ≡ true
put_rises n ns h = rises_puts (n ∷ []) ns h

leaves_one : (trail : List Step) (ins : List ℕ) (stamp limit : ℕ) (leaves : List ℕ) → AreLeavesTo trail ins stamp limit leaves → (place : Place) → place_at trail limit ≡ place → AreLeavesTo trail ins stamp (suc limit) (with_leaf ins stamp leaves place)
leaves_one trail ins stamp limit leaves a (In w) at = record {
  rise = a.rise;
  leaf = λ v h. leaf_later trail ins stamp limit v (a.leaf v h);
  all = λ v h. elim (leaf_cases trail ins stamp limit v h) [ inl old ↦ a.all v old | inr new ↦ absurd (cc (at, new.0)) ];
}
leaves_one trail ins stamp limit leaves a (Out w) at = go (is_marked ins stamp w) refl
  where
    go : (b : Bool) → is_marked ins stamp w ≡ b → AreLeavesTo trail ins stamp (suc limit) (if b then leaves else put_node w leaves)
    go true e = record {
      rise = a.rise;
      leaf = λ v h. leaf_later trail ins stamp limit v (a.leaf v h);
      all = λ v h. elim (leaf_cases trail ins stamp limit v h) [
        | inl old ↦ a.all v old
        | inr new ↦ absurd (both_ways (is_marked ins stamp v) new.1 (subst (λ k. is_marked ins stamp k ≡ true) (out_same w v (sym at ∙ new.0)) e))
      ];
    }
    go false e = record {
      rise = put_rises w leaves a.rise;
      leaf = λ v h. elim (put_has w v leaves h) [
        | inl is ↦ (limit, omega arith, at ∙ ap Out is, subst (λ k. is_marked ins stamp k ≡ false) is e)
        | inr old ↦ leaf_later trail ins stamp limit v (a.leaf v old)
      ];
      all = λ v h. elim (leaf_cases trail ins stamp limit v h) [
        | inl old ↦ put_old w v leaves (a.all v old)
        | inr new ↦ subst (λ k. has_node (put_node w leaves) k ≡ true) (out_same w v (sym at ∙ new.0)) (put_new w leaves)
      ];
    }

pub leaves_more : (trail : List Step) (ins : List ℕ) (stamp limit : ℕ) (leaves : List ℕ) → AreLeavesTo trail ins stamp limit leaves → AreLeavesTo trail ins stamp (suc limit) (with_leaf ins stamp leaves (place_at trail limit))
leaves_more trail ins stamp limit leaves a = leaves_one trail ins stamp limit leaves a (place_at trail limit) refl

pub leaf_last : (trail : List Step) (ins : List ℕ) (stamp limit last v : ℕ) → limit ≤ last → IsLeafOf trail ins stamp limit v → IsLeafOf trail ins stamp last v
leaf_last trail ins stamp limit last v le (i, lt, at, away) = (i, omega (arith, lt, le), at, away)

-- no path is held

pub none_held : (rows : List Row) (labels : List ℕ) (root level : ℕ) (next : List Next) → AllOff next → HoldsPaths rows labels root level next [] []
none_held rows labels root level next off = record {
  paths = record {
    flow = record {
      outside = λ v on top. on (off v);
      refers = λ v w to. absurd (cc (off v, to));
      goes_on = λ v w to. absurd (cc (off v, to));
      once = λ v w x to also. absurd (cc (off v, to));
      last = λ v e. absurd (cc (off v, e));
      fed = λ v on. absurd (on (off v));
    };
    low = λ v on. absurd (on (off v));
  };
  sources_are = λ v h. absurd (both_ways false refl h);
  once = refl;
  each = λ v end on. absurd (on (off v));
  touched_are = λ v on. absurd (on (off v));
}

-- the steps that are left

pub off_all : (next : List Next) → AreTouched next [] → AllOff next
off_all next t v = elim (off_or_on (next_at next v)) [ inl off ↦ off | inr on ↦ absurd (both_ways false refl (t v on)) ]

pub touched_less : (next after : List Next) (node : ℕ) (rest : List ℕ) → AreTouched next (node ∷ rest) → next_at after node ≡ Off → ((v : ℕ) → v ≢ node → next_at after v ≡ next_at next v) → AreTouched after rest
touched_less next after node rest t off others v on = elim (cases_Bool (nat_eq v node)) [
  | inl e ↦ absurd (on (subst (λ k. next_at after k ≡ Off) (sym (same_node v node e)) off))
  | inr e ↦
      let other : v ≢ node = λ is. both_ways (nat_eq v node) e (eq-eqb v node is) in
      elim (here_or_there node v rest (t v (λ gone. on (others v other ∙ gone)))) [ inl is ↦ absurd (other is) | inr there ↦ there ]
]

-- the search of hashed rows: what it marks is no constant

refers_some : (rows : List Row) (n m : ℕ) → Refers rows n m → 0 < n
refers_some rows zero m r = absurd (both_ways false refl r)
refers_some rows (suc n) m r = omega arith

abbrev IsLowThere : List ℕ → ℕ → ℕ → ℕ → Type 0
IsLowThere labels root level v = IsLow labels root level v × (0 < v)

low_there : (count : ℕ) (rows : List Row) (labels : List ℕ) (root level : ℕ) (next : List Next) (starts : List ℕ) → IsHashed count rows → FallsBelow rows (label_in labels) root → AreStarts rows labels root level starts → ArePaths rows labels root level next
    → AreLow rows next (Top rows labels root level) (IsStart starts) (IsLowThere labels root level)
low_there count rows labels root level next starts hashed falls s p = record {
  out = λ v low top. base.out v low.0 top;
  starts = λ v h. let at = s.below v h in (base.starts v h, refers_there count rows hashed at.0 v at.2);
  below = base.below;
  refs = λ w v low r. (base.refs w v low.0 r, refers_there count rows hashed w v r);
  steps = λ w v to. (base.steps w v to, refers_some rows v w (p.flow.refers w v to));
}
  where
    base : AreLow rows next (Top rows labels root level) (IsStart starts) (IsLow labels root level)
    base = are_low rows labels root level next starts (hashed_in_order count rows hashed) falls s p

-- what the search leaves is the least cut

are_leaves : (rows : List Row) (next : List Next) (starts : List ℕ) (stamp : ℕ) (s : State) (leaves : List ℕ) → IsDone rows next starts stamp s → AreLeavesTo s.trail s.ins stamp (length s.trail) leaves → AreLeaves s stamp leaves
are_leaves rows next starts stamp s leaves w a = record {
  all = λ v seen away. let at = w.stands (Out v) seen in a.all v (at.0, at.1, at.2, away);
  reached = λ v h. let l = a.leaf v h in subst (λ k. is_seen s.ins s.outs stamp k ≡ true) l.2 (w.seen l.0 l.1);
}

-- few leaves, whichever rising ones
pub leaves_fit : (rows : List Row) (labels : List ℕ) (root level : ℕ) (next : List Next) (starts sources touched : List ℕ) (stamp : ℕ) (s : State) → AreHashed rows → root < length next
    → HoldsPaths rows labels root level next sources touched → IsDone rows next starts stamp s
    → (found : List ℕ) → rises found ≡ true → ((v : ℕ) → has_node found v ≡ true → IsLeafOf s.trail s.ins stamp (length s.trail) v) → length found ≤ length sources
leaves_fit rows labels root level next starts sources touched stamp s (count, hashed) lt h w found rise leaf =
    omega (
      arith,
      into.count_is,
      leaves_few rows (Top rows labels root level) next starts stamp s sources lists.0 found h.paths.flow up w lists.1 h.each (rises_once found rise) (λ v there.
          let l = leaf v there in (subst (λ k. is_seen s.ins s.outs stamp k ≡ true) l.2 (w.seen l.0 l.1), l.3)),
    )
  where
    up : GoesUp next
    up = goes_up rows labels root level next (hashed_in_order count rows hashed) lt h.paths

    lists : (lists : List (List ℕ)) × AreLists next sources lists
    lists = lists_there rows next up sources h.sources_are

    into : ArePathsInto rows (IsInTop rows (label_in labels) root level) (length sources) lists.0
    into = lists_into rows labels root level next sources lists.0 (hashed_in_order count rows hashed) lt h.paths h.sources_are h.once lists.1

pub own_cut : (rows : List Row) (labels : List ℕ) (root level k : ℕ) (next : List Next) (starts sources touched : List ℕ) (stamp : ℕ) (s : State) (leaves : List ℕ) → AreHashed rows → is_and (row_at rows root) ≡ true → root < length next
    → FallsBelow rows (label_in labels) root → IsLowFor rows (label_in labels) root level → 0 < level → ((n : ℕ) → is_and (row_at rows n) ≡ false → label_in labels n ≡ 0)
    → AreStarts rows labels root level starts → HoldsPaths rows labels root level next sources touched → length sources < k + 1 → IsDone rows next starts stamp s → AreLeavesTo s.trail s.ins stamp (length s.trail) leaves
    → IsOwnCut rows labels root level k leaves
own_cut rows labels root level k next starts sources touched stamp s leaves (count, hashed) gate lt falls low some others st h few w a = record {
  least = both.0;
  few = omega (arith, both.1, few);
  within = λ v there.
      let l = a.leaf v there in
      let at = low_at rows next (Top rows labels root level) (IsStart starts) (IsLowThere labels root level) s.trail (low_there count rows labels root level next starts hashed falls st h.paths)
      (trail_of rows next (IsStart starts) stamp (state s.ins s.outs s.trail []) [] w) l.0 l.1 in
      let here : IsLowThere labels root level v = subst (λ k. IsLowThere labels root level (node_at k)) l.2 at in
      (here.1, here.0.0, here.0.1);
}
  where
    order : InOrder rows
    order = hashed_in_order count rows hashed

    up : GoesUp next
    up = goes_up rows labels root level next order lt h.paths

    lists : (lists : List (List ℕ)) × AreLists next sources lists
    lists = lists_there rows next up sources h.sources_are

    both : IsLeastCut rows (label_in labels) root level leaves × (length leaves ≤ length sources)
    both = leaves_least rows labels root level next starts sources lists.0
        (record {
          order = order;
          falls = falls;
          low = low;
          begins = st;
          paths = h.paths;
          up = up;
          each = h.each;
          listed = lists.1;
          into = lists_into rows labels root level next sources lists.0 order lt h.paths h.sources_are h.once lists.1;
        })
        stamp s leaves (top_inner rows labels root level gate some others) w (are_leaves rows next starts stamp s leaves w a) (λ v there. (a.leaf v there).3) a.rise
