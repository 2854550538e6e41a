-- One round of a sweep keeps the outputs.
use Rattle.std.proofs.Common.{◌≡◌, ℕ, ◌<◌, Bool, true, false, List, [], ◌∷◌, ◌++◌, length, map, flat_map, bytes_eq, refl, sym, ap, ap₂, ◌∙◌, subst, inl, inr, arith}
use Rattle.std.specs.List.{AllByRecursion, All}
use Rattle.std.proofs.lemmas.List.Elements.{recursion_from_All}
use Rattle.std.proofs.lemmas.Bool.{both_ways, or_cases}
use Rattle.syn_rows.specs.Rows.{node_of}
use Rattle.syn_rows.proofs.Folds.{one_valuation_is}
use Rattle.syn_netlist.specs.Lists.{Frame, Latch, Netlist, latch_output, latch_reads, observed, sources}
use Rattle.syn_netlist.specs.Order.{Ordered}
use Rattle.syn_netlist.specs.Values.{Consistent}
use Rattle.syn_netlist.specs.Words.{has_word}
use Rattle.syn_netlist.proofs.Sets.{same_word, has_left, has_right, map_from_each, each_from_map}
use Rattle.syn_netlist.proofs.Evaluation.{ordered_has_one}
use Rattle.syn_network.specs.GraphShape.{GraphHasFunction, GraphShape, lit_of}
use Rattle.syn_network.proofs.Spelled.{graph_has_function_is}
use Rattle.syn_seq.specs.Runs.{BeginAlike, Follows, GoesOn, IsRun, before_all, free_signals, values_in}
use Rattle.syn_seq.specs.Rounds.{AreFates, Dropped, Fate, HasFate, HoldMerged, IsFate, Kept, Merged, fate_at, kept_by, latch_at, latch_node, swept_frame}
use Rattle.syn_seq.specs.Sequential.{AreSomeOf}
use Rattle.syn_seq.specs.Laws.{RoundKeeps}
use Rattle.syn_seq.proofs.Agreeing.{AgreeIn, needed_same}
use Rattle.syn_seq.proofs.Alike.{among_firsts, begun_alike, no_steps, outputs_alike, outputs_same, reads_alike}
use Rattle.syn_seq.proofs.Keeping.{all_kept, all_reads, has_output, has_reads, kept_each, some_kept}
use Rattle.syn_seq.proofs.Merging.{EachHolds, merged_hold}
use Rattle.syn_seq.proofs.NeedRows.{needs_reads}
use Rattle.syn_seq.proofs.There.{free_is_no_latch, free_is_source, latch_is_source, outputs_once}
use Rattle.syn_seq.proofs.Transitive.{all_some}
use Rattle.syn_seq.proofs.Zeroed.{is_dropped, zeroed, zeroed_dropped, zeroed_else, zeroed_others}

graphs_have_functions : GraphHasFunction
graphs_have_functions = graph_has_function_is one_valuation_is ordered_has_one

-- The third premise of the law: observed signals agree where each latch has its fate.
abbrev FatesAgree : Netlist → Netlist → List Fate → Type 0
FatesAgree n m fates =
    (v w : List ℕ → Bool) → Consistent n v → Consistent m w → map v (free_signals n.frame) ≡ map w (free_signals n.frame)
    → ((j : ℕ) → j < length fates → HasFate n fates v w j (fate_at fates j)) → map v (observed (swept_frame n.frame fates)) ≡ map w (observed (swept_frame n.frame fates))

-- the latches that a round keeps
abbrev kept_in : Netlist → List Fate → List Latch
kept_in n fates = kept_by fates n.frame.latches

needed_outputs : (n : Netlist) (set : ℕ → Bool) (ws : List (List ℕ)) → AllByRecursion (λ l. set (node_of l) ≡ true) (map (lit_of n) ws) → (x : List ℕ) → has_word ws x ≡ true → set (node_of (lit_of n x)) ≡ true
needed_outputs n set [] a x h = absurd (both_ways false refl h)
needed_outputs n set (w ∷ ws) a x h = elim (or_cases (bytes_eq w x) (has_word ws x) h) [
  | inl e ↦ subst (λ (y : List ℕ). set (node_of (lit_of n y)) ≡ true) (same_word w x e) a.0
  | inr t ↦ needed_outputs n set ws a.1 x t
]

-- beside a valuation one in which the dropped latches are 0
record IsZeroed (n : Netlist) (fates : List Fate) (v z : List ℕ → Bool) : Type 0 where
  consistent : Consistent n z
  free : map v (free_signals n.frame) ≡ map z (free_signals n.frame)
  dropped : (j : ℕ) → j < length n.frame.latches → fate_at fates j ≡ Dropped → z (latch_at n j).output ≡ false
  others : (j : ℕ) → j < length n.frame.latches → is_dropped (fate_at fates j) ≡ false → z (latch_at n j).output ≡ v (latch_at n j).output

zeroed_there : (n : Netlist) (fates : List Fate) → Ordered n → AreFates n fates → (v : List ℕ → Bool) → (z : List ℕ → Bool) × IsZeroed n fates v z
zeroed_there n fates o f v =
    let given : List ℕ → Bool = zeroed fates n.frame.latches v in
    let (z, c, e) = (ordered_has_one n o).0 given in
    let at = λ (j : ℕ) (lt : j < length n.frame.latches). each_from_map z given (sources n.frame) e (latch_at n j).output (latch_is_source n.frame (latch_at n j).output (has_output n.frame.latches j lt)) in (
      z,
      record {
        consistent = c;
        free = map_from_each v z (free_signals n.frame) (λ x s. sym (each_from_map z given (sources n.frame) e x (free_is_source n.frame x s) ∙ zeroed_else fates n.frame.latches v x (free_is_no_latch n o.once x s)));
        dropped = λ j lt d. at j lt ∙ zeroed_dropped fates n.frame.latches v j (subst (λ (k : ℕ). j < k) (sym f.count) lt) lt d;
        others = λ j lt d. at j lt ∙ zeroed_others fates n.frame.latches v (outputs_once n o.once) j lt d;
      },
    )

-- it and the valuation agree on what the set has
zeroed_agrees : (n : Netlist) (fates : List Fate) (f : AreFates n fates) (v z : List ℕ → Bool) → IsZeroed n fates v z → AgreeIn n f.needed v z
zeroed_agrees n fates f v z i = record {
  free = i.free;
  latches = λ j lt s. sym (i.others j lt (kept_needed (fate_at fates j) j s (f.right j (subst (λ (k : ℕ). j < k) (sym f.count) lt))));
}
  where
    kept_needed : (fate : Fate) (j : ℕ) → f.needed (latch_node n j) ≡ true → IsFate n fates f.needed j fate → is_dropped fate ≡ false
    kept_needed Kept j s r = refl
    kept_needed (Merged i) j s r = refl
    kept_needed Dropped j s r = absurd (both_ways (f.needed (latch_node n j)) r s)

-- in it each latch has its fate
zeroed_fates : (n : Netlist) (fates : List Fate) (f : AreFates n fates) (v w z : List ℕ → Bool) → IsZeroed n fates v z → HoldMerged n fates v → map v (map latch_output (kept_in n fates)) ≡ map w (map latch_output (kept_in n fates))
    → (j : ℕ) → j < length fates → HasFate n fates z w j (fate_at fates j)
zeroed_fates n fates f v w z i held same j lf = one (fate_at fates j) refl
  where
    lt : j < length n.frame.latches
    lt = subst (λ (k : ℕ). j < k) f.count lf

    one : (fate : Fate) → fate_at fates j ≡ fate → HasFate n fates z w j fate
    one Kept e = i.others j lt (ap is_dropped e) ∙ kept_each v w fates n.frame.latches same j lt e
    one (Merged k) e =
        let r : IsFate n fates f.needed j (Merged k) = subst (λ (x : Fate). IsFate n fates f.needed j x) e (f.right j lf) in
        let less : k < length n.frame.latches = grind (arith, r.0, lt) in
        i.others j lt (ap is_dropped e) ∙ held k j e ∙ sym (i.others k less (ap is_dropped r.1))
    one Dropped e = i.dropped j lt e

-- what one step has alike
record AgreeNow (n : Netlist) (fates : List Fate) (v w : List ℕ → Bool) : Type 0 where
  outputs : map v n.frame.outputs ≡ map w n.frame.outputs
  reads : (c : List ℕ) → has_word (flat_map latch_reads (kept_in n fates)) c ≡ true → v c ≡ w c

agree_now : (n m : Netlist) (fates : List Fate) → Ordered n → GraphShape n → AreFates n fates → FatesAgree n m fates → (v w : List ℕ → Bool) → Consistent n v → Consistent m w → HoldMerged n fates v
    → map v (free_signals n.frame) ≡ map w (free_signals n.frame) → map v (map latch_output (kept_in n fates)) ≡ map w (map latch_output (kept_in n fates)) → AgreeNow n fates v w
agree_now n m fates o s f premise v w cv cw held free same =
    let (z, i) = zeroed_there n fates o f v in
    let swept : Frame = swept_frame n.frame fates in
    let observed_alike : map z (observed swept) ≡ map w (observed swept) = premise z w i.consistent cw (sym i.free ∙ free) (zeroed_fates n fates f v w z i held same) in
    let near = λ (x : List ℕ) (t : has_word (observed n.frame) x ≡ true) (d : f.needed (node_of (lit_of n x)) ≡ true).
    needed_same graphs_have_functions n o s f.needed f.closed v z cv i.consistent (zeroed_agrees n fates f v z i) x t d in
    let all : List (List ℕ) = n.frame.outputs ++ flat_map latch_reads n.frame.latches in
    let needs = needed_outputs n f.needed n.frame.outputs (recursion_from_All (λ l. f.needed (node_of l) ≡ true) (map (lit_of n) n.frame.outputs) f.outputs) in
    let read_near = all_reads (λ c. v c ≡ z c) (kept_in n fates)
    (all_kept (λ l. (c : List ℕ) → has_word (latch_reads l) c ≡ true → v c ≡ z c) fates n.frame.latches
    (λ j lt e c t. near c (among_firsts all c (has_right n.frame.outputs (flat_map latch_reads n.frame.latches) c (has_reads n.frame.latches j c lt t)))
    (needs_reads n f.needed f.closed j lt (subst (λ (x : Fate). IsFate n fates f.needed j x) e (f.right j (subst (λ (k : ℕ). j < k) (sym f.count) lt))) c t))) in
    record {
      outputs = map_from_each v z n.frame.outputs (λ x t. near x (among_firsts all x (has_left n.frame.outputs (flat_map latch_reads n.frame.latches) x t)) (needs x t)) ∙ outputs_alike swept z w observed_alike;
      reads = λ c t. read_near c t ∙ reads_alike swept z w observed_alike c t;
    }

-- further steps
steps : (n m : Netlist) (fates : List Fate) → Ordered n → GraphShape n → AreFates n fates → m.frame ≡ swept_frame n.frame fates → FatesAgree n m fates → (u v u' v' : List ℕ → Bool)
    → ((c : List ℕ) → has_word (flat_map latch_reads (kept_in n fates)) c ≡ true → u c ≡ u' c) → ((c : List ℕ) → has_word (flat_map latch_reads (kept_in n fates)) c ≡ true → v c ≡ v' c)
    → map v (map latch_output (kept_in n fates)) ≡ map v' (map latch_output (kept_in n fates)) → (vs ws : List (List ℕ → Bool)) → EachHolds n fates vs → GoesOn n u v vs → GoesOn m u' v' ws
    → values_in (free_signals n.frame) vs ≡ values_in (free_signals n.frame) ws → values_in n.frame.outputs vs ≡ values_in n.frame.outputs ws
steps n m fates o s f frame premise u v u' v' hu hv ho [] [] held g g' e = refl
steps n m fates o s f frame premise u v u' v' hu hv ho [] (w' ∷ ws) held g g' e = absurd (no_steps (map w' (free_signals n.frame)) (values_in (free_signals n.frame) ws) e)
steps n m fates o s f frame premise u v u' v' hu hv ho (w ∷ vs) [] held g g' e = absurd (no_steps (map w (free_signals n.frame)) (values_in (free_signals n.frame) vs) (sym e))
steps n m fates o s f frame premise u v u' v' hu hv ho (w ∷ vs) (w' ∷ ws) held g g' e =
    let follow' = subst (λ (f : Frame). All (Follows u' v' w') f.latches) frame g'.1 in
    let follow = all_some (Follows u v w) (kept_in n fates) n.frame.latches (some_kept fates n.frame.latches) (recursion_from_All (Follows u v w) n.frame.latches g.1) in
    let outs = outputs_same u v w u' v' w' (kept_in n fates) hu hv ho follow (recursion_from_All (Follows u' v' w') (kept_in n fates) follow') in
    let here : map w (free_signals n.frame) ≡ map w' (free_signals n.frame) = cc in
    let rest : values_in (free_signals n.frame) vs ≡ values_in (free_signals n.frame) ws = cc in
    let now = agree_now n m fates o s f premise w w' g.0 g'.0 held.0 here outs in
    ap₂ (λ (b : List Bool) (bs : List (List Bool)). b ∷ bs) now.outputs (steps n m fates o s f frame premise v w v' w' hv now.reads outs vs ws held.1 g.2 g'.2 rest)

runs : (n m : Netlist) (fates : List Fate) → Ordered n → GraphShape n → AreFates n fates → m.frame ≡ swept_frame n.frame fates → FatesAgree n m fates → (vs ws : List (List ℕ → Bool)) → EachHolds n fates vs → IsRun n vs → IsRun m ws
    → values_in (free_signals n.frame) vs ≡ values_in (free_signals n.frame) ws → BeginAlike (kept_in n fates) vs ws → values_in n.frame.outputs vs ≡ values_in n.frame.outputs ws
runs n m fates o s f frame premise [] [] held r r' e b = refl
runs n m fates o s f frame premise [] (w ∷ ws) held r r' e b = absurd (no_steps (map w (free_signals n.frame)) (values_in (free_signals n.frame) ws) e)
runs n m fates o s f frame premise (v ∷ vs) [] held r r' e b = absurd (no_steps (map v (free_signals n.frame)) (values_in (free_signals n.frame) vs) (sym e))
runs n m fates o s f frame premise (v ∷ vs) (w ∷ ws) held r r' e b =
    let here : map v (free_signals n.frame) ≡ map w (free_signals n.frame) = cc in
    let rest : values_in (free_signals n.frame) vs ≡ values_in (free_signals n.frame) ws = cc in
    let outs = begun_alike v w (kept_in n fates) (recursion_from_All (λ latch. v latch.output ≡ w latch.output) (kept_in n fates) b) in
    let now = agree_now n m fates o s f premise v w r.0 r'.0 held.0 here outs in
    ap₂ (λ (x : List Bool) (xs : List (List Bool)). x ∷ xs) now.outputs (steps n m fates o s f frame premise before_all v before_all w (λ c t. refl) now.reads outs vs ws held.1 r.2 r'.2 rest)

pub round_keeps : RoundKeeps
round_keeps n m fates o s om sm f frame premise =
    let swept : FatesAgree n m fates = λ v w cv cw free has. subst (λ (f : Frame). map v (observed f) ≡ map w (observed f)) frame (premise v w cv cw free has) in
    record {
      model = ap (λ (f : Frame). f.model) (sym frame);
      inputs = ap (λ (f : Frame). f.inputs) (sym frame);
      clocks = ap (λ (f : Frame). f.clocks) (sym frame);
      outputs = ap (λ (f : Frame). f.outputs) (sym frame);
      latches = subst (λ (ks : List Latch). AreSomeOf ks n.frame.latches) (ap (λ (f : Frame). f.latches) (sym frame)) (some_kept fates n.frame.latches);
      agree = λ vs ws r r' e b.
          runs n m fates o s f frame swept vs ws (merged_hold n fates f vs r) r r' (e ∙ ap (λ (f : Frame). values_in (free_signals f) ws) frame) (subst (λ (f : Frame). BeginAlike f.latches vs ws) frame b)
          ∙ ap (λ (f : Frame). values_in f.outputs ws) (sym frame);
      left = (ordered_has_one n o).0;
      right = (ordered_has_one m om).0;
    }
