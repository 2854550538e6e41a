-- Laws of reading.
use Rattle.std.proofs.Common.{arith, ◌≡◌, ℕ, List, [], ◌∷◌, map, sym, ap, ◌∙◌, subst, inl, inr, Option, Some, None}
use Rattle.syn_netlist.specs.Words.{has_word}
use Rattle.syn_netlist.specs.Lists.{Netlist, output_of}
use Rattle.syn_models.proofs.Circles.{one_circle}
use Rattle.syn_models.proofs.Faults.{not_both_flat, one_flat_fault}
use Rattle.syn_models.proofs.Trees.{one_flattening}
use Rattle.syn_models.proofs.WordSets.{found_passes}
use Rattle.syn_models.specs.declared.flat_fault.FlatFault.{FlatFault}
use Rattle.syn_models.specs.FlatFaults.{IsFirstFlatFault, Flattens, WithinWords}
use Rattle.syn_models.specs.Models as models
use Rattle.syn_models.specs.Models.{Model, Models, all_of}
use Rattle.syn_reader.specs.ModelFaults.{first_line_fault}
use Rattle.syn_reader.specs.Parted.{by_model}
use Rattle.syn_reader.specs.Saying.{SpellAll, SpellModel, names_of}
use Rattle.syn_reader.proofs.Saying.{say_computed}
use Rattle.syn_reader.specs.Faults.{Fault, Cycle, TooManySources, TooLarge, models_fault}
use Rattle.syn_reader.specs.Limits.{IsNetFault, NetWithin}
use Rattle.syn_reader.specs.Statements.{Statement, statements}
use Rattle.syn_reader.specs.Laws.{NotBoth, OneFault, OneNetlist}
use Rattle.syn_reader.specs.Reading.{NoCircle, Spells}
use Rattle.syn_reader.proofs.Alike.{Alike, AllAlike, fault_alike, flattens_alike, within_alike}

-- models that the same statements spell
spelled_alike : (ss : List Statement) (m n : Model) → SpellModel ss m → SpellModel ss n → Alike m n
spelled_alike ss m n h g =
    let said : Some m.statements ≡ Some n.statements = sym ((say_computed ss m.statements).0 h.said) ∙ (say_computed ss n.statements).0 g.said in
    let same : m.statements ≡ n.statements = cc in
    record {
      name = h.name ∙ sym g.name;
      statements = same;
      words = h.words ∙ sym g.words;
      names = λ w. h.names w ∙ ap (λ (l : List models.Statement). has_word (names_of l) w) same ∙ sym (g.names w);
    }

all_alike : (parts : List (List Statement)) (ms ns : List Model) → SpellAll parts ms → SpellAll parts ns → AllAlike ms ns
all_alike [] [] [] h g = tt
all_alike [] [] (n ∷ ns) h g = absurd g
all_alike [] (m ∷ ms) ns h g = absurd h
all_alike (p ∷ ps) [] ns h g = absurd h
all_alike (p ∷ ps) (m ∷ ms) [] h g = absurd g
all_alike (p ∷ ps) (m ∷ ms) (n ∷ ns) h g = (spelled_alike p m n h.0 g.0, all_alike ps ms ns h.1 g.1)

-- models that the same file spells
pub file_alike : (bytes : List ℕ) (ms ns : Models) → Spells bytes ms → Spells bytes ns → AllAlike (all_of ms) (all_of ns)
file_alike bytes ms ns h g = all_alike (by_model (statements bytes)) (all_of ms) (all_of ns) h.spelled g.spelled

-- netlists to which such models are flattened
same_netlist : (bytes : List ℕ) (ms ns : Models) (n m : Netlist) → Spells bytes ms → Spells bytes ns → Flattens ms n → Flattens ns m → n ≡ m
same_netlist bytes ms ns n m h g f e = one_flattening ns n m (flattens_alike ms ns n (file_alike bytes ms ns h g) f).flattening e.flattening

pub one_netlist : OneNetlist
one_netlist bytes n m r q = same_netlist bytes r.models q.models n m r.spelled q.spelled r.flattened q.flattened

circle_there : (n : Netlist) (names : List (List ℕ)) → IsNetFault n (Cycle names) → NoCircle n → ⊥
circle_there n names (first, before, set, a) none = none first (set, a.cyclic.reading, found_passes set (map output_of n.tables) first a.begins)

-- a netlist within the limits has no fault
no_net_fault : (n : Netlist) (fault : Fault) → NoCircle n → NetWithin n → IsNetFault n fault → ⊥
no_net_fault n (Cycle names) none w h = circle_there n names h none
no_net_fault n (TooManySources k) none w h = let b = w.sources in let e = h.1 in let l = h.2 in omega arith
no_net_fault n (TooLarge k) none w h = let b = w.cost in let e = h.2 in let l = h.3 in omega arith
no_net_fault n other none w h = absurd h

one_net_fault : (n : Netlist) (f g : Fault) → IsNetFault n f → IsNetFault n g → f ≡ g
one_net_fault n (Cycle a) (Cycle b) x y = ap Cycle (one_circle n.tables x.0 y.0 x.1 y.1 a b x.2 y.2 x.3 y.3)
one_net_fault n (Cycle a) (TooManySources k) x y = absurd (circle_there n a x y.0)
one_net_fault n (Cycle a) (TooLarge k) x y = absurd (circle_there n a x y.0)
one_net_fault n (Cycle a) other x y = absurd y
one_net_fault n (TooManySources k) (Cycle b) x y = absurd (circle_there n b y x.0)
one_net_fault n (TooManySources k) (TooManySources l) x y = ap TooManySources (x.1 ∙ sym y.1)
one_net_fault n (TooManySources k) (TooLarge l) x y = absurd (let a = x.1 in let b = x.2 in let c = y.1 in omega arith)
one_net_fault n (TooManySources k) other x y = absurd y
one_net_fault n (TooLarge k) (Cycle b) x y = absurd (circle_there n b y x.0)
one_net_fault n (TooLarge k) (TooManySources l) x y = absurd (let a = y.1 in let b = y.2 in let c = x.1 in omega arith)
one_net_fault n (TooLarge k) (TooLarge l) x y = ap TooLarge (x.2 ∙ sym y.2)
one_net_fault n (TooLarge k) other x y = absurd y
one_net_fault n other g x y = absurd x

not_some : (f : Fault) (o : Option Fault) → o ≡ None → o ≡ Some f → ⊥
not_some f o e h = let z : ◌≡◌ {A = Option Fault} None (Some f) = sym e ∙ h in cc

-- models that are flattened within the limit of words have no fault
no_models_fault : (bytes : List ℕ) (ms ns ws : Models) (n : Netlist) (fault : FlatFault) → Spells bytes ms → Spells bytes ns → Spells bytes ws → Flattens ms n → WithinWords ws → IsFirstFlatFault ns fault → ⊥
no_models_fault bytes ms ns ws n fault h g k f w x =
    not_both_flat ms n fault f (within_alike ws ms (file_alike bytes ws ms k h) w) (fault_alike ns ms fault (file_alike bytes ns ms g h) x)

pub not_both : NotBoth
not_both bytes n fault r w (inl h) = not_some fault (first_line_fault bytes) r.spelled.faultless h
not_both bytes n fault r w (inr (inl (ms, s, (flat, x, e)))) = no_models_fault bytes r.models ms w.words.0 n flat r.spelled s w.words.1 r.flattened w.words.2 x
not_both bytes n fault r w (inr (inr (ms, s, few, (m, f, x)))) =
    no_net_fault n fault r.acyclic w.netlist (subst (λ (k : Netlist). IsNetFault k fault) (same_netlist bytes ms r.models m n s r.spelled f r.flattened) x)

same_fault : (f g : Fault) (o : Option Fault) → o ≡ Some f → o ≡ Some g → f ≡ g
same_fault f g o a b = let e : Some f ≡ Some g = sym a ∙ b in cc

pub one_fault : OneFault
one_fault bytes f g (inl x) (inl y) = same_fault f g (first_line_fault bytes) x y
one_fault bytes f g (inl x) (inr (inl (ms, s, y))) = absurd (not_some f (first_line_fault bytes) s.faultless x)
one_fault bytes f g (inl x) (inr (inr (ms, s, few, y))) = absurd (not_some f (first_line_fault bytes) s.faultless x)
one_fault bytes f g (inr (inl (ms, s, x))) (inl y) = absurd (not_some g (first_line_fault bytes) s.faultless y)
one_fault bytes f g (inr (inl (ms, s, (a, x, d)))) (inr (inl (ns, t, (b, y, e)))) =
    let same : a ≡ b = one_flat_fault ns a b (fault_alike ms ns a (file_alike bytes ms ns s t) x) y in
    same_fault f g (models_fault b) (sym (ap models_fault same) ∙ d) e
one_fault bytes f g (inr (inl (ms, s, (a, x, d)))) (inr (inr (ns, t, few, (n, e, y)))) = absurd (no_models_fault bytes ns ms ns n a t s t e few x)
one_fault bytes f g (inr (inr (ms, s, few, x))) (inl y) = absurd (not_some g (first_line_fault bytes) s.faultless y)
one_fault bytes f g (inr (inr (ms, s, few, (n, e, x)))) (inr (inl (ns, t, (b, y, d)))) = absurd (no_models_fault bytes ms ns ms n b s t s e few y)
one_fault bytes f g (inr (inr (ms, s, few, (n, e, x)))) (inr (inr (ns, t, more, (m, d, y)))) =
    one_net_fault m f g (subst (λ (k : Netlist). IsNetFault k f) (same_netlist bytes ms ns n m s t e d) x) y
