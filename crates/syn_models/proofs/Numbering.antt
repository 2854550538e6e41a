-- The names of all instances get their numbers, instance by instance.
use Rattle.std.proofs.Common.{◌≡◌, ℕ, suc, ◌+◌, ◌^◌, ◌≤◌, ◌<◌, ◌++◌, nat_lt, true, List, [], ◌∷◌, map, length, refl, sym, ap, ap₂, ◌∙◌, subst, inl, inr, append_assoc, append-nil, length-append, arith}
use Rattle.std.proofs.lemmas.Bool.{cases_eq, and_from, lt-ltb}
use Rattle.std.proofs.lemmas.List.{get_or_push, get_or_append_left}
use Rattle.syn_netlist.specs.Numbers.{word_at, all_below, Grows}
use Rattle.syn_netlist.proofs.Growing.{all_below-more, length-grows, Grows-again, Grows-same}
use Rattle.syn_models.specs.declared.hierarchy.Model as code
use Rattle.syn_models.specs.declared.met.Instance as met
use Rattle.syn_models.specs.Called.{Spells, called_number}
use Rattle.syn_models.specs.Calling.{Calls, inner_count, map_at, home_at, AreMaps, AreSpelled}
use Rattle.syn_models.specs.Flattening.{as_it_is, called_inside, inner_name}
use Rattle.syn_models.specs.Views.{bind_in}
use Rattle.syn_models.specs.Walking.{entry_in, inner_names, homes_of, Wired}
use Rattle.syn_models.proofs.Instance.{spells_grows}

-- the names so far, with what is left of the instances
pub record IsCalling (all : List (List ℕ)) (maps : List (List ℕ)) (main : code.Model) (list rest : List met.Instance) (count i : ℕ) : Type 0 where
  pub grows : Grows main.names all
  pub homes : List (List (List ℕ))
  pub whole : homes ++ map inner_names rest ≡ homes_of main list
  pub at : length homes ≡ suc i
  pub wired : Wired homes rest
  pub few : length all + inner_count rest < 2 ^ 31
  pub maps_are : AreMaps (length all) homes maps
  pub spelled : (calls : ℕ → List ℕ → List ℕ) → calls 0 ≡ as_it_is → Calls calls (inner_name count) 1 (map entry_in list) → AreSpelled all homes calls maps × Calls calls (inner_name count) (suc i) (map entry_in rest)

pub calling_begins : (all : List (List ℕ)) (maps : List (List ℕ)) (main : code.Model) (list : List met.Instance) (count : ℕ) → Wired (main.names ∷ []) list → length main.names + inner_count list < 2 ^ 31 → all ≡ main.names
    → AreMaps (length all) (main.names ∷ []) maps → ((calls : ℕ → List ℕ → List ℕ) → calls 0 ≡ as_it_is → AreSpelled all (main.names ∷ []) calls maps) → IsCalling all maps main list list count 0
calling_begins all maps main list count w few e are s = record {
  grows = subst (Grows main.names) (sym e) (Grows-same main.names);
  homes = main.names ∷ [];
  whole = refl;
  at = refl;
  wired = w;
  few = subst (λ (n : ℕ). n + inner_count list < 2 ^ 31) (sym (ap length e)) few;
  maps_are = are;
  spelled = λ calls b g. (s calls b, g);
}

-- what the next instance needs

pub outer_there : (all : List (List ℕ)) (maps : List (List ℕ)) (main : code.Model) (list rest : List met.Instance) (count i : ℕ) (x : met.Instance) (h : IsCalling all maps main list (x ∷ rest) count i) → x.outer.number < length maps
outer_there all maps main list rest count i x h = (let b = h.wired.0.below in let a = h.maps_are.all in omega arith)

-- one more map

maps_push : (n m : ℕ) (homes : List (List (List ℕ))) (maps : List (List ℕ)) (own : List (List ℕ)) (new : List ℕ) → n ≤ m → AreMaps n homes maps → length new ≡ length own → all_below m new ≡ true → AreMaps m (homes ++ own ∷ []) (maps ++ new ∷ [])
maps_push n m homes maps own new le are size below = record {
  all = (let a = are.all in omega (arith, length-append homes (own ∷ []), length-append maps (new ∷ [])));
  sizes = λ k l. elim (cases_eq k (length homes)) [
    | inl e ↦ ap length (get_or_push maps new [] k (are.all ∙ sym e)) ∙ size ∙ sym (ap length (get_or_push homes own [] k (sym e)))
    | inr ne ↦ (
        let b : k < length homes = omega (arith, length-append homes (own ∷ [])) in
        let c : k < length maps = (let a = are.all in omega arith) in
        ap length (get_or_append_left maps (new ∷ []) [] k c) ∙ are.sizes k b ∙ sym (ap length (get_or_append_left homes (own ∷ []) [] k b)))
  ];
  below = λ k l. elim (cases_eq k (length homes)) [
    | inl e ↦ ap (all_below m) (get_or_push maps new [] k (are.all ∙ sym e)) ∙ below
    | inr ne ↦ (
        let b : k < length homes = omega (arith, length-append homes (own ∷ [])) in
        let c : k < length maps = (let a = are.all in omega arith) in
        ap (all_below m) (get_or_append_left maps (new ∷ []) [] k c) ∙ all_below-more n m (map_at maps k) le (are.below k b))
  ];
}

spelled_push : (old all : List (List ℕ)) (homes : List (List (List ℕ))) (calls : ℕ → List ℕ → List ℕ) (maps : List (List ℕ)) (own : List (List ℕ)) (new : List ℕ) → length maps ≡ length homes → Grows old all → AreSpelled old homes calls maps
    → Spells all own (calls (length homes)) new → AreSpelled all (homes ++ own ∷ []) calls (maps ++ new ∷ [])
spelled_push old all homes calls maps own new same grows are s k l = elim (cases_eq k (length homes)) [
  | inl e ↦ subst (λ (h : List (List ℕ)). Spells all h (calls k) (map_at (maps ++ new ∷ []) k)) (sym (get_or_push homes own [] k (sym e)))
      (subst (λ (m : List ℕ). Spells all own (calls k) m) (sym (get_or_push maps new [] k (same ∙ sym e))) (subst (λ (j : ℕ). Spells all own (calls j) new) (sym e) s))
  | inr ne ↦ (
      let b : k < length homes = omega (arith, length-append homes (own ∷ [])) in
      let c : k < length maps = (let a = same in omega arith) in
      subst (λ (h : List (List ℕ)). Spells all h (calls k) (map_at (maps ++ new ∷ []) k)) (sym (get_or_append_left homes (own ∷ []) [] k b))
      (subst (λ (m : List ℕ). Spells all (home_at homes k) (calls k) m) (sym (get_or_append_left maps (new ∷ []) [] k c)) (spells_grows old all (home_at homes k) (calls k) (map_at maps k) grows (are k b))))
]

pub calling_on : (old all : List (List ℕ)) (maps more : List (List ℕ)) (main : code.Model) (list rest : List met.Instance) (count i : ℕ) (x : met.Instance) (new : List ℕ) → more ≡ maps ++ new ∷ []
    → length new ≡ length (inner_names x) → Grows old all → length all ≤ length old + length (inner_names x)
    → ((names : List (List ℕ)) (called : List ℕ → List ℕ) → Spells old names called (map_at maps x.outer.number) → Spells all (inner_names x) (called_inside called (inner_name count (suc i)) (map (bind_in names) x.binds.now)) new)
    → all_below (length all) new ≡ true
    → IsCalling old maps main list (x ∷ rest) count i → IsCalling all more main list rest count (i + 1)
calling_on old all maps more main list rest count i x new e size grows few each below h = record {
  grows = Grows-again main.names old all h.grows grows;
  homes = h.homes ++ inner_names x ∷ [];
  whole = append_assoc h.homes (inner_names x ∷ []) (map inner_names rest) ∙ h.whole;
  at = (let a = h.at in omega (arith, length-append h.homes (inner_names x ∷ [])));
  wired = h.wired.1;
  few = (let f = h.few in omega arith);
  maps_are = subst (AreMaps (length all) (h.homes ++ inner_names x ∷ [])) (sym e) (maps_push (length old) (length all) h.homes maps (inner_names x) new (length-grows old all grows) h.maps_are size below);
  spelled = λ calls b g.
      let s = h.spelled calls b g in
      let outer : Spells old x.outer.home.now.names (calls x.outer.number) (map_at maps x.outer.number) = subst (λ (n : List (List ℕ)). Spells old n (calls x.outer.number) (map_at maps x.outer.number)) h.wired.0.names (s.0 x.outer.number h.wired.0.below) in
      let mine : Spells all (inner_names x) (calls (length h.homes)) new =
      subst (λ (f : List ℕ → List ℕ). Spells all (inner_names x) f new) (sym s.1.0 ∙ ap calls (sym h.at)) (each x.outer.home.now.names (calls x.outer.number) outer) in (
        subst (AreSpelled all (h.homes ++ inner_names x ∷ []) calls) (sym e) (spelled_push old all h.homes calls maps (inner_names x) new h.maps_are.all grows s.0 mine),
        subst (λ (n : ℕ). Calls calls (inner_name count) n (map entry_in rest)) (let a : suc (suc i) ≡ suc (i + 1) = omega arith in a) s.1.1,
      );
}

-- the main model's own map

pub own_spells : (names : List (List ℕ)) (numbers : List ℕ) → length numbers ≡ length names → all_below (length names) numbers ≡ true → ((i : ℕ) → i < length names → called_number numbers i ≡ i) → (called : List ℕ → List ℕ) → called ≡ as_it_is → Spells names names called numbers
own_spells names numbers size below each called e = record {
  below = below;
  at = λ i l. ap (word_at names) (each i (let s = size in omega arith)) ∙ sym (ap (λ (f : List ℕ → List ℕ). f (word_at names i)) e);
}

below_from : (count : ℕ) (numbers : List ℕ) → ((i : ℕ) → i < length numbers → called_number numbers i < count) → all_below count numbers ≡ true
below_from count [] h = refl
below_from count (n ∷ ns) h = and_from (nat_lt n count) (all_below count ns) (lt-ltb n count (h 0 (omega arith))) (below_from count ns (λ i l. h (suc i) (omega arith)))

pub own_below : (count : ℕ) (numbers : List ℕ) → length numbers ≡ count → ((i : ℕ) → i < count → called_number numbers i ≡ i) → all_below count numbers ≡ true
own_below count numbers size each = below_from count numbers (λ i l. (let e = each i (omega arith) in omega arith))

pub main_maps : (names : List (List ℕ)) (numbers : List ℕ) → length numbers ≡ length names → ((i : ℕ) → i < length names → called_number numbers i ≡ i) → AreMaps (length names) (names ∷ []) (numbers ∷ [])
main_maps names numbers size each = record {
  all = refl;
  sizes = λ k l. first (λ (j : ℕ). length (map_at (numbers ∷ []) j) ≡ length (home_at (names ∷ []) j)) k l size;
  below = λ k l. first (λ (j : ℕ). all_below (length names) (map_at (numbers ∷ []) j) ≡ true) k l (own_below (length names) numbers size each);
}
  where
    first : (P : ℕ → Type 0) (k : ℕ) → k < 1 → P 0 → P k
    first P k l p = subst P (let e : 0 ≡ k = omega arith in e) p

pub main_spelled : (names : List (List ℕ)) (numbers : List ℕ) → length numbers ≡ length names → ((i : ℕ) → i < length names → called_number numbers i ≡ i) → (calls : ℕ → List ℕ → List ℕ) → calls 0 ≡ as_it_is → AreSpelled names (names ∷ []) calls (numbers ∷ [])
main_spelled names numbers size each calls e k l =
    subst (λ (j : ℕ). Spells names (home_at (names ∷ []) j) (calls j) (map_at (numbers ∷ []) j)) (let z : 0 ≡ k = omega arith in z)
    (own_spells names numbers size (own_below (length names) numbers size each) each (calls 0) e)

pub calling_ends : (all : List (List ℕ)) (maps : List (List ℕ)) (main : code.Model) (list rest : List met.Instance) (count i : ℕ) → rest ≡ [] → IsCalling all maps main list rest count i
    → AreMaps (length all) (homes_of main list) maps × ((calls : ℕ → List ℕ → List ℕ) → calls 0 ≡ as_it_is → Calls calls (inner_name count) 1 (map entry_in list) → AreSpelled all (homes_of main list) calls maps)
calling_ends all maps main list rest count i e h =
    let homes : h.homes ≡ homes_of main list = sym (append-nil h.homes) ∙ ap (λ (r : List met.Instance). h.homes ++ map inner_names r) (sym e) ∙ h.whole in (
      subst (λ (l : List (List (List ℕ))). AreMaps (length all) l maps) homes h.maps_are,
      λ calls b g. subst (λ (l : List (List (List ℕ))). AreSpelled all l calls maps) homes (h.spelled calls b g).0,
    )
