-- Functions that are carried from the cuts of fan-ins.
use Rattle.std.proofs.Common.{◌≡◌, ℕ, ◌<◌, true, false, nat_eq, nat_lt, All, List, Option, None, [], ◌∷◌, ◌++◌, length, get_or, set, refl, sym, ap, ◌∙◌, subst, inl, inr, arith}
use Rattle.std.proofs.lemmas.Bool.{and_parts, both_ways, cases_eq, cases_lt, false_from_ne_true, ltb-true, or_cases}
use Rattle.std.proofs.lemmas.List.{get_or_append_left, get_or_default, get_or_push, get_or-set_other, get_or-set_same, length-map, length-set, length_push}
use Rattle.std.proofs.lemmas.List.Elements.{All-get_or, All-weaker}
use Rattle.std.specs.Global.{Vec}
use Rattle.arrayvec.specs.ArrayVec.{ArrayVec}
use Rattle.syn_rows.specs.declared.Row.{Row}
use Rattle.syn_rows.specs.Nodes.{has_node}
use Rattle.syn_rows.proofs.Nodes.{same_node}
use Rattle.syn_cones.specs.CutTruth.{IsCutFunction}
use Rattle.syn_cones.specs.Leaves.{are_below}
use Rattle.syn_cuts.specs.Naming.{numbers_of}
use Rattle.syn_cuts.proofs.Naming.{rows_again}
use Rattle.syn_cuts.specs.Leaves.{leaves as leaves_in, leaves_of}
use Rattle.syn_cut_functions.specs.CutTruth.{AreCarried, AreFoundFor, AreFoundIn, AreOfAll, HaveCarried, IsFoundIn, IsOwnOf}
use Rattle.syn_cut_functions.specs.Cuts.{cuts_of}
use Rattle.syn_cut_functions.specs.declared.cut_truth.CutTruth.{CutTruth}
use Rattle.syn_cut_functions.specs.declared.cut_truth.Functions.{Functions}
use Rattle.syn_cut_functions.specs.declared.levels.Found.{Found}
use Rattle.syn_cut_functions.proofs.Cuts.{leaves_is}

-- the function over one of the cuts
pub from_cut : (rows : List Row) (node : ℕ) (cuts : List (ArrayVec ℕ)) (known : List CutTruth) (i : ℕ) (cut : ArrayVec ℕ) (d : CutTruth) → AreCarried rows node (leaves_of cuts) known
    → i < length known → i < length cuts → cut ≡ get_or cuts i cut → IsCutFunction rows cut.items node (get_or known i d).function
from_cut rows node cuts known i cut d are there inside is =
    subst (λ ls. IsCutFunction rows ls node (get_or known i d).function) (sym (leaves_is cuts i cut is)) (are i cut.items d there (omega (arith, inside, length-map cuts leaves_in)))

-- the functions of a node that has its list
pub at_list : (rows : List Row) (node : ℕ) (cuts : List (ArrayVec ℕ)) (lists : List Functions) (d : Functions) → HaveCarried rows lists → node < length lists → leaves_of cuts ≡ cuts_of rows node
    → AreCarried rows node (leaves_of cuts) (get_or lists node d).carried.items
at_list rows node cuts lists d have lt same =
    subst (λ (cs : List (List ℕ)). AreCarried rows node cs (get_or lists node d).carried.items) (sym same) (have node d lt)

-- those of a node that were read
pub carried_read : (rows : List Row) (lists : List Functions) (at node : ℕ) (own : Functions) (read : List CutTruth) → HaveCarried rows lists → at ≡ node → at < length lists → own ≡ get_or lists at own → read ≡ own.carried.items
    → AreCarried rows node (cuts_of rows node) read
carried_read rows lists at node own read have same lt is value =
    subst (λ m. AreCarried rows m (cuts_of rows m) read) same
    (subst (AreCarried rows at (cuts_of rows at)) (sym (value ∙ ap (λ (f : Functions). f.carried.items) is)) (have at own lt))

-- a node isn't among nodes below it
pub not_below : (node : ℕ) (ns : List ℕ) → are_below node ns ≡ true → has_node ns node ≡ false
not_below node [] below = refl
not_below node (n ∷ ns) below =
    let parts = and_parts (nat_lt n node) (are_below node ns) below in
    false_from_ne_true (has_node (n ∷ ns) node) (λ has. elim (or_cases (nat_eq n node) (has_node ns node) has) [
      | inl e ↦ omega (arith, ltb-true n node parts.0, same_node n node e)
      | inr t ↦ both_ways (has_node ns node) (not_below node ns parts.1) t
    ])

-- one function more
pub more_carried : (rows : List Row) (node : ℕ) (cuts : List (List ℕ)) (known : List CutTruth) (one : CutTruth) (i : ℕ) (c : List ℕ) → length known ≡ i → AreCarried rows node cuts known
    → c ≡ get_or cuts i c → IsCutFunction rows c node one.function → AreCarried rows node cuts (known ++ one ∷ [])
more_carried rows node cuts known one i c count are is here k d e lt inside = elim (cases_lt k (length known)) [
  | inl low ↦ subst (λ (f : CutTruth). IsCutFunction rows (get_or cuts k d) node f.function) (sym (get_or_append_left known (one ∷ []) e k low)) (are k d e low inside)
  | inr high ↦
      let same : i ≡ k = let long = length_push known one in omega (arith, long, lt, high, count) in
      subst (λ (f : CutTruth). IsCutFunction rows (get_or cuts k d) node f.function) (sym (get_or_push known one e k (count ∙ same)))
      (subst (λ l. IsCutFunction rows l node one.function) (is ∙ ap (λ m. get_or cuts m c) same ∙ get_or_default cuts k c d inside) here)
]

-- no functions are right
pub none_own : (rows : List Row) (node : ℕ) (cuts : List (List ℕ)) (known : List CutTruth) → known ≡ [] → AreCarried rows node cuts known
none_own rows node cuts known none i c d lt inside = absurd (omega (arith, lt, ap length none))

-- no functions at all
abbrev pub IsNothing : Functions → Type 0
IsNothing f = (f.carried.items ≡ []) × (f.numbers ≡ None)

-- no functions of all nodes are right
pub nothing_of_all : (rows : List Row) (lists : List Functions) → length lists ≡ length rows → All IsNothing lists → AreOfAll rows lists
nothing_of_all rows lists count none = record {
  count = count;
  each = λ node d lt. record {
    carried = none_own rows node (cuts_of rows node) (get_or lists node d).carried.items (none node d lt).0;
    numbers = rw (none node d lt).1 tt;
  };
}

-- those that are carried on, of all nodes
pub have_carried : (rows : List Row) (lists : List Functions) → AreOfAll rows lists → HaveCarried rows lists
have_carried rows lists are node d lt = (are.each node d lt).carried

-- the functions of a node set at its place
pub set_lists : (rows : List Row) (lists : List Functions) (node : ℕ) (own : Functions) → AreOfAll rows lists → IsOwnOf rows node own → AreOfAll rows (set lists node own)
set_lists rows lists node own are is = record {
  count = length-set lists node own ∙ are.count;
  each = λ m d lt. elim (cases_eq m node) [
    | inl same ↦
        subst (λ k. IsOwnOf rows k (get_or (set lists node own) k d)) (sym same)
        (subst (IsOwnOf rows node) (sym (get_or-set_same lists node own d (omega (arith, lt, same, length-set lists node own)))) is)
    | inr other ↦ subst (IsOwnOf rows m) (sym (get_or-set_other lists node m own d other)) (are.each m d (omega (arith, lt, length-set lists node own)))
  ];
}

-- the functions of a node that are at its place
pub own_at : (rows : List Row) (lists : List Functions) (node : ℕ) (own : Functions) → AreOfAll rows lists → node < length rows → own ≡ get_or lists node own → IsOwnOf rows node own
own_at rows lists node own are within is = subst (IsOwnOf rows node) (sym is) (are.each node own (omega (arith, within, are.count)))

-- the numbers of a node taken
pub numbers_taken : (rows : List Row) (lists : List Functions) (node : ℕ) (own : Functions) (left : Option (Vec ℕ)) → AreOfAll rows lists → node < length rows → own ≡ get_or lists node own → left ≡ None
    → AreOfAll rows (set lists node (record { carried = own.carried; numbers = left }))
numbers_taken rows lists node own left are within is none =
    set_lists rows lists node (record { carried = own.carried; numbers = left }) are (record { carried = (own_at rows lists node own are within is).carried; numbers = rw none tt })

-- the functions of a node set as they are carried on
pub carried_set : (rows : List Row) (lists : List Functions) (node : ℕ) (own : Functions) (carried : Vec CutTruth) → AreOfAll rows lists → node < length rows → own ≡ get_or lists node own
    → AreCarried rows node (cuts_of rows node) carried.items → AreOfAll rows (set lists node (record { carried = carried; numbers = own.numbers }))
carried_set rows lists node own carried are within is found =
    set_lists rows lists node (record { carried = carried; numbers = own.numbers }) are (record { carried = found; numbers = (own_at rows lists node own are within is).numbers })

-- the functions of a node at a place of those that were found
pub own_found : (rows : List Row) (found : List Found) (i node : ℕ) (d : Found) → i < length found → (get_or found i d).node ≡ node → All (IsFoundIn rows) found
    → AreCarried rows node (cuts_of rows node) (get_or found i d).own.carried.items
own_found rows found i node d lt same all =
    subst (λ m. AreCarried rows m (cuts_of rows m) (get_or found i d).own.carried.items) same (All-get_or (IsFoundIn rows) found i d lt all).own.carried

-- what is found, by the name of the rows

pub found_named : (rows : List Row) (name : List ℕ) (list : Vec Found) → name ≡ numbers_of rows → AreFoundIn rows list → AreFoundFor name list
found_named rows name list is are = subst (λ t. AreFoundFor t list) (sym is) (subst (λ rs. AreFoundIn rs list) (sym (rows_again rows)) are)

pub found_of : (rows : List Row) (name : List ℕ) (list : Vec Found) → name ≡ numbers_of rows → AreFoundFor name list → AreFoundIn rows list
found_of rows name list is are = subst (λ rs. AreFoundIn rs list) (rows_again rows) (subst (λ t. AreFoundFor t list) is are)

pub all_found_of : (rows : List Row) (name : List ℕ) (lists : List (Vec Found)) → name ≡ numbers_of rows → All (AreFoundFor name) lists → All (λ list. All (IsFoundIn rows) list.items) lists
all_found_of rows name lists is = All-weaker (AreFoundFor name) (λ list. All (IsFoundIn rows) list.items) (λ list are. (found_of rows name list is are).each) lists
