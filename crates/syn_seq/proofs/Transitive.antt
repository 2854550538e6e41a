-- Giving the same outputs over every sequence of inputs is transitive.
use Rattle.std.proofs.Common.{◌≡◌, ℕ, Bool, List, [], ◌∷◌, ◌++◌, map, refl, sym, ap, ap₂, ◌∙◌, subst, inl, inr}
use Rattle.std.specs.List.{AllByRecursion}
use Rattle.std.proofs.lemmas.List.Elements.{All-from_recursion, recursion_from_All}
use Rattle.syn_netlist.specs.Lists.{Latch, Netlist}
use Rattle.syn_netlist.specs.Order.{DefinedOnce}
use Rattle.syn_netlist.specs.Words.{without}
use Rattle.syn_seq.specs.Runs.{BeginAlike, Begins, IsRun, free_signals, values_in}
use Rattle.syn_seq.specs.Sequential.{AreSomeOf, SameSequentially}
use Rattle.syn_seq.specs.Laws.{SequentialIsTransitive}
use Rattle.syn_seq.proofs.Alike.{no_steps}
use Rattle.syn_seq.proofs.There.{runs_are_there}

some_trans : (ks bs cs : List Latch) → AreSomeOf ks bs → AreSomeOf bs cs → AreSomeOf ks cs
some_trans [] bs cs h k = tt
some_trans (k0 ∷ ks) [] cs h k = absurd h
some_trans (k0 ∷ ks) (b ∷ bs) [] h k = absurd k
some_trans (k0 ∷ ks) (b ∷ bs) (c ∷ cs) h k = elim k [
  | inl kk ↦ elim h [
    | inl hh ↦ inl (hh.0 ∙ kk.0, some_trans ks bs cs hh.1 kk.1)
    | inr hh ↦ inr (some_trans (k0 ∷ ks) bs cs hh kk.1)
  ]
  | inr kk ↦ inr (some_trans (k0 ∷ ks) (b ∷ bs) cs h kk)
]

pub all_some : (P : Latch → Type 0) (ks ls : List Latch) → AreSomeOf ks ls → AllByRecursion P ls → AllByRecursion P ks
all_some P [] ls s a = tt
all_some P (k ∷ ks) [] s a = absurd s
all_some P (k ∷ ks) (l ∷ ls) s a = elim s [
  | inl ss ↦ (subst P (sym ss.0) a.0, all_some P ks ls ss.1 a.1)
  | inr ss ↦ all_some P (k ∷ ks) ls ss a.1
]

each_again : (P Q : Latch → Type 0) (ls : List Latch) → ((k : Latch) → P k → Q k) → AllByRecursion P ls → AllByRecursion Q ls
each_again P Q [] h a = tt
each_again P Q (l ∷ ls) h a = (h l a.0, each_again P Q ls h a.1)

both_again : (P Q R : Latch → Type 0) (ls : List Latch) → ((k : Latch) → P k → Q k → R k) → AllByRecursion P ls → AllByRecursion Q ls → AllByRecursion R ls
both_again P Q R [] h a b = tt
both_again P Q R (l ∷ ls) h a b = (h l a.0 b.0, both_again P Q R ls h a.1 b.1)

begin_turned : (ls : List Latch) (us vs : List (List ℕ → Bool)) → BeginAlike ls us vs → BeginAlike ls vs us
begin_turned ls [] [] b = tt
begin_turned ls [] (v ∷ vs) b = tt
begin_turned ls (u ∷ us) [] b = tt
begin_turned ls (u ∷ us) (v ∷ vs) b = All-from_recursion (λ k. v k.output ≡ u k.output) ls (each_again (λ k. u k.output ≡ v k.output) (λ k. v k.output ≡ u k.output) ls (λ k e. sym e) (recursion_from_All (λ k. u k.output ≡ v k.output) ls b))

-- some of the latches begin alike by way of runs in which all do
begin_on : (ks ls : List Latch) → AreSomeOf ks ls → (us : List (List ℕ → Bool)) (v : List ℕ → Bool) (vs ws : List (List ℕ → Bool)) → BeginAlike ls us (v ∷ vs) → BeginAlike ks (v ∷ vs) ws → BeginAlike ks us ws
begin_on ks ls s [] v vs [] b c = tt
begin_on ks ls s [] v vs (w ∷ ws) b c = tt
begin_on ks ls s (u ∷ us) v vs [] b c = tt
begin_on ks ls s (u ∷ us) v vs (w ∷ ws) b c =
    All-from_recursion (λ k. u k.output ≡ w k.output) ks
    (both_again (λ k. u k.output ≡ v k.output) (λ k. v k.output ≡ w k.output) (λ k. u k.output ≡ w k.output) ks (λ k e f. e ∙ f)
    (all_some (λ k. u k.output ≡ v k.output) ks ls s (recursion_from_All (λ k. u k.output ≡ v k.output) ls b))
    (recursion_from_All (λ k. v k.output ≡ w k.output) ks c))

free_same : (n m : Netlist) → SameSequentially n m → free_signals n.frame ≡ free_signals m.frame
free_same n m s = ap₂ (λ (i c : List (List ℕ)). i ++ without i c) s.inputs s.clocks

agree : (n m p : Netlist) → DefinedOnce m → SameSequentially n m → SameSequentially m p → (vs ws : List (List ℕ → Bool)) → IsRun n vs → IsRun p ws → values_in (free_signals n.frame) vs ≡ values_in (free_signals p.frame) ws → BeginAlike p.frame.latches vs ws → values_in n.frame.outputs vs ≡ values_in p.frame.outputs ws
agree n m p d s t [] [] r r' e b = refl
agree n m p d s t [] (w ∷ ws) r r' e b = absurd (no_steps (map w (free_signals p.frame)) (values_in (free_signals p.frame) ws) e)
agree n m p d s t (v ∷ vs) ws r r' e b =
    let begins = All-from_recursion (Begins v) m.frame.latches (all_some (Begins v) m.frame.latches n.frame.latches s.latches (recursion_from_All (Begins v) n.frame.latches r.1)) in
    let (us, run, values, alike) = runs_are_there m v vs d s.right begins in
    let near = ap (λ (ws : List (List ℕ)). values_in ws (v ∷ vs)) (free_same n m s) in
    s.agree (v ∷ vs) us r run (near ∙ sym values) (begin_turned m.frame.latches us (v ∷ vs) alike)
    ∙ t.agree us ws run r' (values ∙ sym near ∙ e) (begin_on p.frame.latches m.frame.latches t.latches us v vs ws alike b)

pub sequential_is_transitive : SequentialIsTransitive
sequential_is_transitive n m p d s t = record {
  model = s.model ∙ t.model;
  inputs = s.inputs ∙ t.inputs;
  clocks = s.clocks ∙ t.clocks;
  outputs = s.outputs ∙ t.outputs;
  latches = some_trans p.frame.latches m.frame.latches n.frame.latches t.latches s.latches;
  agree = λ vs ws r r' e b. agree n m p d s t vs ws r r' e b;
  left = s.left;
  right = t.right;
}
