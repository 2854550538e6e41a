-- A round over the nodes.
use Rattle.std.proofs.Common.{◌≡◌, ℕ, ◌<◌, All, List, [], ◌∷◌, ◌++◌, length, get_or, take, drop, sym, ap, ◌∙◌, subst, inl, inr, arith}
use Rattle.std.proofs.Math.ListN.{set, length-set}
use Rattle.std.proofs.lemmas.Bool.Decides.{eqb_tells}
use Rattle.std.proofs.lemmas.Grind.{get_or-set_at}
use Rattle.std.proofs.lemmas.List.{get_or-map, get_or-set_other, length-map, map-append}
use Rattle.std.proofs.lemmas.List.Elements.{All-nil, All-cons, All-append, All-take, All-drop, All-weaker, All-same}
use Rattle.arrayvec.specs.ArrayVec.{ArrayVec}
use Rattle.syn_rows.specs.declared.Row.{Row}
use Rattle.syn_cuts.specs.Leaves.{leaves, leaves_of}
use Rattle.syn_cuts.proofs.Cutting.{cut_alone}
use Rattle.syn_cuts.proofs.Rising.{alone_of}
use Rattle.syn_covering.specs.Cuts.{AreLutCuts, IsLutCut}
use Rattle.syn_area.specs.Kept.{AreCandidates, AreListed, AreVisited, IsKept, cut_in}
use Rattle.syn_area.specs.declared.lists.Listed.{Listed}
use Rattle.syn_area.proofs.Joining.{as_kept}

-- a cut in its list, by the place
pub kept_at : (rows : List Row) (m : ℕ) (cuts : List (ArrayVec ℕ)) (i : ℕ) (cut : ArrayVec ℕ) (slice : List ℕ) → All (IsKept rows m) (leaves_of cuts) → i < length cuts → cut ≡ get_or cuts i cut → slice ≡ cut.items → IsKept rows m slice
kept_at rows m cuts i cut slice all lt is e =
    let at : get_or (leaves_of cuts) i [] ≡ slice = get_or-map leaves cuts i cut [] lt ∙ ap leaves (sym is) ∙ sym e in
    subst (IsKept rows m) at (all i [] (omega (arith, lt, length-map cuts leaves)))

-- a cut chosen anew
pub chosen_set : (k : ℕ) (rows : List Row) (old new : List (List ℕ)) (node : ℕ) (c : List ℕ) → new ≡ set old node c → node < length old → IsLutCut k rows node c → AreLutCuts k rows (cut_in old) → AreLutCuts k rows (cut_in new)
chosen_set k rows old new node c e lt is fit n a = elim (eqb_tells n node) [
  | inl p ↦
      let here : cut_in new n ≡ c = ap (λ (l : List (List ℕ)). cut_in l n) e ∙ get_or-set_at old node n c [] p.1 lt in
      subst (IsLutCut k rows n) (sym here) (subst (λ m. IsLutCut k rows m c) (sym p.1) is)
  | inr p ↦
      let other : cut_in new n ≡ cut_in old n = ap (λ (l : List (List ℕ)). cut_in l n) e ∙ get_or-set_other old node n c [] p.1 in
      subst (IsLutCut k rows n) (sym other) (fit n a)
]

pub length_set : (old new : List (List ℕ)) (node : ℕ) (c : List ℕ) → new ≡ set old node c → length new ≡ length old
length_set old new node c e = ap length e ∙ length-set old node c

-- candidates are kept
pub candidates_kept : (k : ℕ) (rows : List Row) (node : ℕ) (kept : List (List ℕ)) → AreCandidates k rows node kept → All (IsKept rows node) kept
candidates_kept k rows node kept a = All-weaker (IsLutCut k rows node) (IsKept rows node) (as_kept k rows node) kept a

-- a cut after others
pub candidates_push : (k : ℕ) (rows : List Row) (node : ℕ) (old new : List (ArrayVec ℕ)) (cut : ArrayVec ℕ) → new ≡ old ++ cut ∷ [] → AreCandidates k rows node (leaves_of old) → IsLutCut k rows node cut.items → AreCandidates k rows node (leaves_of new)
candidates_push k rows node old new cut e all is =
    All-same (IsLutCut k rows node) (leaves_of new) (leaves_of old ++ cut.items ∷ []) (ap leaves_of e ∙ map-append leaves old (cut ∷ []))
    (All-append (IsLutCut k rows node) (leaves_of old) (cut.items ∷ []) all (All-cons (IsLutCut k rows node) cut.items [] is (All-nil (IsLutCut k rows node))))

-- the node alone
pub alone_kept : (rows : List Row) (n : ℕ) → 0 < n → IsKept rows n (n ∷ [])
alone_kept rows n positive =
    let is = alone_of n positive in
    record { cut = cut_alone rows n; rising = is.rising; low = is.low; sized = is.sized }

-- a listed cut, by the place
pub listed_at : (rows : List Row) (listed : List Listed) (i : ℕ) (l : Listed) → AreListed rows listed → i < length listed → l ≡ get_or listed i l → IsKept rows l.node l.cut.items
listed_at rows listed i l all lt is = subst (λ (x : Listed). IsKept rows x.node x.cut.items) (sym is) (all i l lt)

-- a cut is listed after others
pub listed_push : (rows : List Row) (old new : List Listed) (l : Listed) → new ≡ old ++ l ∷ [] → AreListed rows old → IsKept rows l.node l.cut.items → AreListed rows new
listed_push rows old new l e all is =
    let P : Listed → Type 0 = λ x. IsKept rows x.node x.cut.items in
    All-same P new (old ++ l ∷ []) e (All-append P old (l ∷ []) all (All-cons P l [] is (All-nil P)))

-- some of the listed cuts, one after the other
pub listed_part : (rows : List Row) (listed part : List Listed) (start len : ℕ) → part ≡ take len (drop start listed) → AreListed rows listed → AreListed rows part
listed_part rows listed part start len e all =
    let P : Listed → Type 0 = λ x. IsKept rows x.node x.cut.items in
    All-same P part (take len (drop start listed)) e (All-take P len (drop start listed) (All-drop P start listed all))

-- one node more
pub visited : (k : ℕ) (rows : List Row) (listed new : List Listed) (chosen after : List (List ℕ)) → AreVisited k rows listed chosen → AreListed rows new → length after ≡ length chosen → AreLutCuts k rows (cut_in after) → AreVisited k rows new after
visited k rows listed new chosen after before all same fit = record { count = same ∙ before.count; kept = all; fit = fit }
