-- Conjunctions: what is gathered, moved and joined keeps the AND.
use Rattle.std.proofs.Common.{◌≡◌, ◌≢◌, ℕ, ◌+◌, ◌%◌, ◌<◌, ◌&&◌, nat_eq, not, Bool, true, false, All, Some, List, [], ◌∷◌, ◌++◌, length, get_or, map, set, drop, refl, sym, ap, ap₂, ◌∙◌, subst, arith, inl, inr}
use Rattle.std.specs.List.{list_all}
use Rattle.std.proofs.lemmas.Bool.{cases_Bool, cases_lt, cond_both, cond-true, cond-false}
use Rattle.std.proofs.lemmas.List.{drop_more, get_or_past, get_or-map, length-map}
use Rattle.std.proofs.lemmas.List.Elements.{All-append, All-cons, All-nil, All-pop, All-push, All-set}
use Rattle.std.proofs.lemmas.List.Folds.{list_all-append, list_all-map}
use Rattle.syn_rows.specs.declared.Lit.{Lit}
use Rattle.syn_rows.specs.declared.Row.{Row}
use Rattle.syn_rows.specs.declared.Row.TheVariants.{Free, And}
use Rattle.syn_rows.specs.Rows.{node_of, row_at, AllRefs, InOrder}
use Rattle.syn_rows.specs.Joining.{complement, constant}
use Rattle.syn_rows.specs.Values.{lit_value, row_value, value_in, values_of}
use Rattle.syn_rows.proofs.Folds.{values_step}
use Rattle.syn_rows.proofs.JoinLaws.{complement_node, complement_value, even_value}
use Rattle.syn_hashed.specs.Hashed.{IsHashed}
use Rattle.syn_hashed.specs.Growing.{Extends, IsAnd, value_by}
use Rattle.syn_hashed.proofs.Rising.{extends_longer, literal_kept, source_value}
use Rattle.syn_remaking.specs.Remaking.{AllStand, Stands, moved}
use Rattle.syn_pairs.specs.Conjunctions.{AreLeaves, AreThere, IsAll, IsConjunction, SameAll}
use Rattle.syn_pairs.proofs.Keeping.{last_moved, last_parted, same_tests, two_joined}

-- gathering

and_inside : (rows : List Row) (n : ℕ) (a b : Lit) → row_at rows n ≡ And a b → n < length rows
and_inside rows n a b row = elim (cases_lt n (length rows)) [
  | inl lt ↦ lt
  | inr ge ↦ absurd (cc (row, get_or_past rows n Free ge))
]

-- the value of an AND's node
and_value : (rows : List Row) → InOrder rows → (n : ℕ) (a b : Lit) → row_at rows n ≡ And a b → (given : ℕ → Bool) → value_in (values_of given rows) n ≡ (value_by given rows a && value_by given rows b)
and_value rows order n a b row given = values_step rows order given n (and_inside rows n a b row) ∙ ap (row_value given (value_in (values_of given rows)) n) row

fan_ins_before : (rows : List Row) → InOrder rows → (n : ℕ) (a b : Lit) → row_at rows n ≡ And a b → (node_of a < n) × (node_of b < n)
fan_ins_before rows order n a b row = subst (AllRefs (λ m. m < n)) row (order n)

and_true : (a b : Bool) → ((a && (b && true)) && true) ≡ (a && b)
and_true true true = refl
and_true true false = refl
and_true false b = refl

pub begun : (rows : List Row) → InOrder rows → (n : ℕ) (a b : Lit) → row_at rows n ≡ And a b → AreLeaves rows n (a ∷ b ∷ []) []
begun rows order n a b row = record {
  first = (let low = fan_ins_before rows order n a b row in All-cons (λ (l : Lit). node_of l < n) a (b ∷ []) low.0 (All-cons (λ (l : Lit). node_of l < n) b [] low.1 (All-nil (λ (l : Lit). node_of l < n))));
  second = All-nil (λ (l : Lit). node_of l < n);
  value = λ given zero. and_true (value_by given rows a) (value_by given rows b) ∙ sym (and_value rows order n a b row given);
}

-- all but the last, and the last
parts_before : (n : ℕ) (xs : List Lit) (x : Lit) → All (λ l. node_of l < n) (xs ++ x ∷ []) → All (λ l. node_of l < n) xs × (node_of x < n)
parts_before n xs x h = All-pop (λ (l : Lit). node_of l < n) (xs ++ x ∷ []) xs (Some x) refl h

-- the leaf that waits last is found
pub found_last : (rows : List Row) (n : ℕ) (waiting found : List Lit) (leaf : Lit) → AreLeaves rows n (waiting ++ leaf ∷ []) found → AreLeaves rows n waiting (found ++ leaf ∷ [])
found_last rows n waiting found leaf all = record {
  first = (parts_before n waiting leaf all.first).0;
  second = All-push (λ (l : Lit). node_of l < n) found leaf all.second (parts_before n waiting leaf all.first).1;
  value = λ given zero. last_moved (value_by given rows) waiting found leaf ∙ all.value given zero;
}

-- in its place the two wait whose AND it is
pub parted_last : (rows : List Row) → InOrder rows → (n : ℕ) (waiting found : List Lit) (leaf a b : Lit) → leaf.0 % 2 ≡ 0 → row_at rows (node_of leaf) ≡ And a b
    → AreLeaves rows n (waiting ++ leaf ∷ []) found → AreLeaves rows n ((waiting ++ a ∷ []) ++ b ∷ []) found
parted_last rows order n waiting found leaf a b even row all = record {
  first = All-push (λ (l : Lit). node_of l < n) (waiting ++ a ∷ []) b (All-push (λ (l : Lit). node_of l < n) waiting a parts.0 (omega (arith, parts.1, low.0))) (omega (arith, parts.1, low.1));
  second = all.second;
  value = λ given zero.
      ap (λ (r : Bool). r && list_all (value_by given rows) found)
      (last_parted (value_by given rows) waiting leaf a b (even_value (value_in (values_of given rows)) leaf even ∙ and_value rows order (node_of leaf) a b row given))
      ∙ all.value given zero;
}
  where
    parts : All (λ (l : Lit). node_of l < n) waiting × (node_of leaf < n)
    parts = parts_before n waiting leaf all.first

    low : (node_of a < node_of leaf) × (node_of b < node_of leaf)
    low = fan_ins_before rows order (node_of leaf) a b row

-- at the end both lists are one
pub gathered : (rows : List Row) (n : ℕ) (waiting found : List Lit) → AreLeaves rows n waiting found → IsConjunction rows n (waiting ++ found)
gathered rows n waiting found all = record {
  before = All-append (λ (l : Lit). node_of l < n) waiting found all.first all.second;
  value = λ given zero. list_all-append (value_by given rows) waiting found ∙ all.value given zero;
}

-- the literals that stand for leaves

moved_node : (literals : List Lit) (l : Lit) → node_of (moved literals l) ≡ node_of (get_or literals (node_of l) constant)
moved_node literals l = let own = get_or literals (node_of l) constant in cond_both (nat_eq (l.0 % 2) 0) own (complement own) (λ (x : Lit). node_of x ≡ node_of own) (λ _. refl) (λ _. complement_node own)

moved_is : (v w : ℕ → Bool) (literals : List Lit) (l : Lit) → lit_value w (get_or literals (node_of l) constant) ≡ v (node_of l) → lit_value w (moved literals l) ≡ lit_value v l
moved_is v w literals l same = let own = get_or literals (node_of l) constant in elim (cases_Bool (nat_eq (l.0 % 2) 0)) [
  | inl t ↦ ap (lit_value w) (cond-true (nat_eq (l.0 % 2) 0) own (complement own) t) ∙ same ∙ sym (cond-true (nat_eq (l.0 % 2) 0) (v (node_of l)) (not (v (node_of l))) t)
  | inr f ↦
      ap (lit_value w) (cond-false (nat_eq (l.0 % 2) 0) own (complement own) f) ∙ complement_value w own ∙ ap not same
      ∙ sym (cond-false (nat_eq (l.0 % 2) 0) (v (node_of l)) (not (v (node_of l))) f)
]

pub moved_there : (rows new : List Row) (literals leaves : List Lit) → AllStand rows new literals → All (λ l. node_of l < length literals) leaves → AreThere new (map (moved literals) leaves)
moved_there rows new literals leaves all before i d lt =
    let low : i < length leaves = let same = length-map leaves (moved literals) in omega arith in
    let l = get_or leaves i constant in
    let inside : node_of l < length literals = before i constant low in
    let there = (all (node_of l) inside).there in
    subst (λ (x : Lit). node_of x < length new) (sym (get_or-map (moved literals) leaves i constant d low)) (subst (λ (k : ℕ). k < length new) (sym (moved_node literals l)) there)

pub moved_all : (rows new : List Row) (literals leaves : List Lit) → AllStand rows new literals → All (λ l. node_of l < length literals) leaves → (given : ℕ → Bool) → given 0 ≡ false
    → list_all (value_by given new) (map (moved literals) leaves) ≡ list_all (value_by given rows) leaves
moved_all rows new literals leaves all before given zero =
    list_all-map (value_by given new) (moved literals) leaves
    ∙ same_tests (λ (l : Lit). value_by given new (moved literals l)) (value_by given rows) leaves
    (λ i d lt. moved_is (value_in (values_of given rows)) (value_in (values_of given new)) literals (get_or leaves i d) ((all (node_of (get_or leaves i d)) (before i d lt)).value given zero))

-- the AND of what was gathered stands for its node
pub all_stands : (rows old new : List Row) (literals leaves : List Lit) (n : ℕ) (l : Lit) → n ≡ length literals → AllStand rows old literals → IsConjunction rows n leaves
    → node_of l < length new → IsAll old (map (moved literals) leaves) new l → Stands rows new n l
all_stands rows old new literals leaves n l is all conjunction there joined = record {
  there = there;
  value = λ given zero. joined given zero ∙ moved_all rows old literals leaves all before given zero ∙ conjunction.value given zero;
}
  where
    before : All (λ (l : Lit). node_of l < length literals) leaves
    before = subst (λ (k : ℕ). All (λ (l : Lit). node_of l < k) leaves) is conjunction.before

-- joining

pub there_kept : (old new : List Row) (lits : List Lit) → Extends old new → AreThere old lits → AreThere new lits
there_kept old new lits e h i d lt = let longer = extends_longer old new e in let inside = h i d lt in omega (arith, longer, inside)

values_kept : (given : ℕ → Bool) (old new : List Row) (lits : List Lit) → Extends old new → AreThere old lits → list_all (value_by given new) lits ≡ list_all (value_by given old) lits
values_kept given old new lits e h = same_tests (value_by given new) (value_by given old) lits (λ i d lt. literal_kept given old new e (get_or lits i d) (h i d lt))

-- the constant 1
abbrev pub one : Lit
one = record { 0 = 1 }

one_value : (count : ℕ) (rows : List Row) → IsHashed count rows → (given : ℕ → Bool) → given 0 ≡ false → value_by given rows one ≡ true
one_value count rows h given zero = ap not (source_value count rows h given 0 (omega arith) ∙ zero)

pub joined_there : (count : ℕ) (old new : List Row) (lits : List Lit) (i j : ℕ) (l : Lit) → IsHashed count new → Extends old new → AreThere old lits → node_of l < length new → AreThere new (set (set lits j one) i l)
joined_there count old new lits i j l hashed e there inside =
    All-set (λ (x : Lit). node_of x < length new) (set lits j one) i l inside (All-set (λ (x : Lit). node_of x < length new) lits j one (omega (arith, hashed.there)) (there_kept old new lits e there))

pub joined_same : (count : ℕ) (old new : List Row) (lits : List Lit) (i j : ℕ) (d l : Lit) → IsHashed count new → Extends old new → AreThere old lits → i < length lits → j < length lits → i ≢ j
    → IsAnd old (get_or lits i d) (get_or lits j d) new l → SameAll old lits new (set (set lits j one) i l)
joined_same count old new lits i j d l hashed e there li lj apart is given zero =
    two_joined (value_by given new) lits i j d d l one li lj apart (one_value count new hashed given zero)
    (is given zero ∙ sym (ap₂ (λ (a : Bool) (b : Bool). a && b) (literal_kept given old new e (get_or lits i d) (there i d li)) (literal_kept given old new e (get_or lits j d) (there j d lj))))
    ∙ values_kept given old new lits e there

pub same_itself : (rows : List Row) (lits : List Lit) → SameAll rows lits rows lits
same_itself rows lits given zero = refl

pub same_through : (first old new : List Row) (before lits left : List Lit) → SameAll first before old lits → SameAll old lits new left → SameAll first before new left
same_through first old new before lits left s t given zero = t given zero ∙ s given zero

pub all_through : (first old new : List Row) (before lits : List Lit) (l : Lit) → SameAll first before old lits → IsAll old lits new l → IsAll first before new l
all_through first old new before lits l s t given zero = t given zero ∙ s given zero

-- The literal has the AND of the first literals, of which those from an index on are left.
pub record IsBegun (old : List Row) (lits : List Lit) (new : List Row) (l : Lit) (i : ℕ) : Type 0 where
  pub there : node_of l < length new
  pub value : (given : ℕ → Bool) → given 0 ≡ false → (value_by given new l && list_all (value_by given old) (drop i lits)) ≡ list_all (value_by given old) lits

pub begins : (count : ℕ) (rows : List Row) (lits : List Lit) → IsHashed count rows → IsBegun rows lits rows one 0
begins count rows lits h = record {
  there = omega (arith, h.there);
  value = λ given zero. ap (λ (b : Bool). b && list_all (value_by given rows) lits) (one_value count rows h given zero);
}

and_regroup : (a b c : Bool) → ((a && b) && c) ≡ (a && (b && c))
and_regroup true b c = refl
and_regroup false b c = refl

pub goes_on : (old mid new : List Row) (lits : List Lit) (all l : Lit) (i : ℕ) (d : Lit) → Extends old mid → AreThere old lits → i < length lits → IsBegun old lits mid all i
    → node_of l < length new → IsAnd mid all (get_or lits i d) new l → IsBegun old lits new l (i + 1)
goes_on old mid new lits all l i d e there lt begun inside is = record {
  there = inside;
  value = λ given zero.
      ap (λ (b : Bool). b && list_all (value_by given old) (drop (i + 1) lits))
      (is given zero ∙ ap (λ (b : Bool). value_by given mid all && b) (literal_kept given old mid e (get_or lits i d) (there i d lt)))
      ∙ and_regroup (value_by given mid all) (value_by given old (get_or lits i d)) (list_all (value_by given old) (drop (i + 1) lits))
      ∙ ap (λ (ls : List Lit). value_by given mid all && list_all (value_by given old) ls) (sym (drop_more lits i d lt))
      ∙ begun.value given zero;
}

and_end : (a : Bool) → a ≡ (a && true)
and_end true = refl
and_end false = refl

pub ends : (old new : List Row) (lits : List Lit) (l : Lit) (i : ℕ) → drop i lits ≡ [] → IsBegun old lits new l i → IsAll old lits new l
ends old new lits l i none begun given zero = and_end (value_by given new l) ∙ ap (λ (ls : List Lit). value_by given new l && list_all (value_by given old) ls) (sym none) ∙ begun.value given zero
