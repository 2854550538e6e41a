-- A search gives no greater stamp than its own, and what it follows is touched.
use Rattle.std.proofs.Common.{◌≡◌, ◌≢◌, ℕ, ◌<◌, nat_eq, true, List, [], ◌∷◌, ◌++◌, length, get_or, sym, ◌∙◌, subst, inl, inr, arith, Option}
use Rattle.std.proofs.lemmas.Bool.{both_ways, cases_Bool, cases_lt, eq-eqb}
use Rattle.std.proofs.lemmas.List.{get_or_past, get_or-set_other}
use Rattle.syn_rows.specs.Nodes.{has_node}
use Rattle.syn_paths.specs.declared.places.Next.{Next}
use Rattle.syn_paths.specs.declared.places.Next.TheVariants.{Off}
use Rattle.syn_paths.specs.declared.places.Place.{Place}
use Rattle.syn_paths.specs.declared.places.Place.TheVariants.{In, Out}
use Rattle.syn_paths.specs.Checking.{AreUpTo}
use Rattle.syn_paths.specs.Searching.{enter_all, entered, left, node_at, see_in, see_out, State}
use Rattle.syn_paths.specs.Rooms.{AreTouched}
use Rattle.syn_rows.proofs.Nodes.{has_here, has_left, has_right, same_node}
use Rattle.syn_paths.proofs.Checked.{up_to_set}

-- marks without a stamp
pub zero_up : (marks : List ℕ) → ((k : ℕ) → k < length marks → get_or marks k 0 ≡ 0) → AreUpTo marks 0
zero_up marks zeros = record {
  each = λ m. elim (cases_lt m (length marks)) [ inl lt ↦ omega (arith, zeros m lt) | inr past ↦ omega (arith, get_or_past marks m 0 past) ];
}

ins_up : (ins : List ℕ) (stamp : ℕ) (p : Place) → AreUpTo ins stamp → AreUpTo (see_in ins stamp p) stamp
ins_up ins stamp (In v) up = up_to_set ins v stamp up
ins_up ins stamp (Out v) up = up

outs_up : (outs : List ℕ) (stamp : ℕ) (p : Place) → AreUpTo outs stamp → AreUpTo (see_out outs stamp p) stamp
outs_up outs stamp (In v) up = up
outs_up outs stamp (Out v) up = up_to_set outs v stamp up

pub entered_up : (stamp : ℕ) (s : State) (p : Place) (from : Option ℕ) → AreUpTo s.ins stamp → AreUpTo s.outs stamp → AreUpTo (entered stamp s p from).ins stamp × AreUpTo (entered stamp s p from).outs stamp
entered_up stamp s p from ins outs = (ins_up s.ins stamp p ins, outs_up s.outs stamp p outs)

pub all_up : (stamp : ℕ) (s : State) (places : List Place) (from : Option ℕ) → AreUpTo s.ins stamp → AreUpTo s.outs stamp → AreUpTo (enter_all stamp s places from).ins stamp × AreUpTo (enter_all stamp s places from).outs stamp
all_up stamp s [] from ins outs = (ins, outs)
all_up stamp s (p ∷ places) from ins outs =
    let one = entered_up stamp s p from ins outs in
    all_up stamp (entered stamp s p from) places from one.0 one.1

-- what comes behind the node of a place is set: the node is touched
pub touched_more : (next : List Next) (touched : List ℕ) (p : Place) (behind : Next) → AreTouched next touched → AreTouched (left next p behind) (touched ++ node_at p ∷ [])
touched_more next touched (In w) behind t = λ v on. has_left touched (w ∷ []) v (t v on)
touched_more next touched (Out w) behind t = λ v on. elim (cases_Bool (nat_eq v w)) [
  | inl e ↦ has_right touched (w ∷ []) v (subst (λ k. has_node (w ∷ []) k ≡ true) (sym (same_node v w e)) (has_here w []))
  | inr e ↦
      let other : v ≢ w = λ is. both_ways (nat_eq v w) e (eq-eqb v w is) in
      has_left touched (w ∷ []) v (t v (λ off. on (get_or-set_other next w v behind Off other ∙ off)))
]
