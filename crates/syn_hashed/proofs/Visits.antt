-- Nodes that are visited one after the other.
use Rattle.std.proofs.Common.{◌≡◌, ◌≢◌, ℕ, zero, suc, ◌+◌, ◌-◌, ◌*◌, ◌%◌, ◌<◌, ◌≤◌, ◌&&◌, nat_le, nat_eq, not, if◌then◌else◌, Bool, true, false, All, List, [], ◌∷◌, length, map, set, refl, sym, ap, ap₂, ◌∙◌, subst, arith, inl, inr, Option, Some, None, IfSome, IsSome}
use Rattle.std.proofs.lemmas.List.{get_or-set_same, get_or-set_other, length-set, get_or_past}
use Rattle.std.proofs.lemmas.List.Sums.{sum_by-set}
use Rattle.std.proofs.lemmas.Bool.{cases_Bool, cases_eq, cases_lt, cond-true, cond-false, le-leb, lt-leb, eqb-true, eqb-false, both_ways}
use Rattle.syn_rows.specs.declared.Lit.{Lit}
use Rattle.syn_rows.specs.declared.Row.{Row}
use Rattle.syn_rows.specs.declared.Row.TheVariants.{Free, Source, And, Alias}
use Rattle.syn_rows.specs.Rows.{node_of, row_at}
use Rattle.syn_rows.specs.Values.{lit_value, value_in, values_of, Fits, RowFits}
use Rattle.syn_rows.specs.Reach.{ands_in, is_and, IsReachedSet}
use Rattle.syn_rows.specs.References.{and_count}
use Rattle.syn_hashed.specs.Hashed.{IsHashed}
use Rattle.syn_rows.specs.Levels.{HasLevels, level_in, levels_of, row_level}
use Rattle.std.proofs.Common.{max}
use Rattle.syn_hashed.specs.Growing.{value_by, level_by, Extends, IsAnd, IsJoin}
use Rattle.syn_hashed.proofs.LevelLaws.{level_kept, source_level, join_level}
use Rattle.syn_hashed.specs.Visiting.{visited, with_sign, literal_of, both, fan_ins_of, unvisited, IsVisit, IsMade, FirstsOf, StaysVisited, IsMadeAgain}
use Rattle.syn_hashed.specs.Walking.{VisitsReached}
use Rattle.syn_hashed.specs.Compacting.{CanCompact, HasSources}
use Rattle.syn_rows.specs.Values.{given_by}
use Rattle.std.specs.Option.{is_some}
use Rattle.std.proofs.lemmas.List.{length-map}
use Rattle.std.proofs.lemmas.List.Elements.{All-nil, All-cons}
use Rattle.syn_hashed.specs.Hashed.{lit_at}
use Rattle.std.proofs.lemmas.Bool.{eq-eqb}
use Rattle.syn_hashed.proofs.Rising.{extends_itself, extends_longer, literal_kept, source_value}
use Rattle.syn_hashed.proofs.Joining.{plain_value, not_value}
use Rattle.syn_hashed.proofs.Counted.{ands_fewer, ands_more}

-- what stands for a literal

signed_value : (w : ℕ → Bool) (lit l x : Lit) (b : Bool) → with_sign lit (Some l) ≡ Some x → w (node_of l) ≡ w (node_of l) → lit_value w l ≡ b → lit_value w x ≡ (if nat_eq (lit.0 % 2) 0 then b else not b)
signed_value w lit l x b e same h = elim (cases_Bool (nat_eq (lit.0 % 2) 0)) [
  | inl t ↦
      let at : l ≡ x = some_same l x (sym (ap (λ (y : Lit). Some y) (cond-true (nat_eq (lit.0 % 2) 0) l (flipped l) t)) ∙ e) in
      ap (lit_value w) (sym at) ∙ h ∙ sym (cond-true (nat_eq (lit.0 % 2) 0) b (not b) t)
  | inr f ↦
      let at : flipped l ≡ x = some_same (flipped l) x (sym (ap (λ (y : Lit). Some y) (cond-false (nat_eq (lit.0 % 2) 0) l (flipped l) f)) ∙ e) in
      ap (lit_value w) (sym at) ∙ not_value w l (flipped l) refl ∙ ap not h ∙ sym (cond-false (nat_eq (lit.0 % 2) 0) b (not b) f)
]
  where
    flipped : Lit → Lit
    flipped m = record { 0 = if nat_eq (m.0 % 2) 0 then m.0 + 1 else m.0 - 1 }

    some_same : (y z : Lit) → Some y ≡ Some z → y ≡ z
    some_same y z p = cc

pub signed_node : (lit l x : Lit) → with_sign lit (Some l) ≡ Some x → node_of x ≡ node_of l
signed_node lit l x e = elim (cases_Bool (nat_eq (lit.0 % 2) 0)) [
  | inl t ↦
      let at : l ≡ x = some_same l x (sym (ap (λ (y : Lit). Some y) (cond-true (nat_eq (lit.0 % 2) 0) l (flipped l) t)) ∙ e) in
      ap node_of (sym at)
  | inr f ↦
      let at : flipped l ≡ x = some_same (flipped l) x (sym (ap (λ (y : Lit). Some y) (cond-false (nat_eq (lit.0 % 2) 0) l (flipped l) f)) ∙ e) in
      ap node_of (sym at) ∙ flipped_node l
]
  where
    flipped : Lit → Lit
    flipped m = record { 0 = if nat_eq (m.0 % 2) 0 then m.0 + 1 else m.0 - 1 }

    some_same : (y z : Lit) → Some y ≡ Some z → y ≡ z
    some_same y z p = cc

    flipped_node : (m : Lit) → node_of (flipped m) ≡ node_of m
    flipped_node m = elim (cases_Bool (nat_eq (m.0 % 2) 0)) [
      | inl t ↦ let number : (flipped m).0 ≡ m.0 + 1 = cond-true (nat_eq (m.0 % 2) 0) (m.0 + 1) (m.0 - 1) t in let even = eqb-true (m.0 % 2) 0 t in omega (arith, number, even)
      | inr f ↦ let number : (flipped m).0 ≡ m.0 - 1 = cond-false (nat_eq (m.0 % 2) 0) (m.0 + 1) (m.0 - 1) f in let odd : m.0 % 2 ≢ 0 = eqb-false (m.0 % 2) 0 f in omega (arith, number, odd)
    ]

-- what stands for a literal was visited with it
pub sign_parts : (lit : Lit) (o : Option Lit) (x : Lit) → with_sign lit o ≡ Some x → (l : Lit) × (o ≡ Some l) × (with_sign lit (Some l) ≡ Some x)
sign_parts lit None x e = absurd (cc)
sign_parts lit (Some l) x e = (l, refl, e)

-- it has the literal's value, lies no higher, and its node is there
pub record StandsFor (count : ℕ) (rows new : List Row) (lit x : Lit) : Type 0 where
  pub there : node_of x < length new
  pub level : (level : ℕ → ℕ) → HasLevels rows level → level_by new x ≤ level (node_of lit)
  pub value : (given v : ℕ → Bool) → Fits rows v → HasSources count given v → value_by given new x ≡ lit_value v lit

pub stands_for : (count : ℕ) (rows : List Row) (literals : List (Option Lit)) (new : List Row) → IsVisit count rows literals new → (lit x : Lit) → literal_of literals lit ≡ Some x → StandsFor count rows new lit x
stands_for count rows literals new visit lit x e =
    let (l, at, signed) = sign_parts lit (visited literals (node_of lit)) x e in
    let node = signed_node lit l x signed in
    let inside = visit.there (node_of lit) l at in
    record {
      there = omega (arith, node, inside);
      level = λ level h. (let same : level_by new x ≡ level_by new l = ap (level_in (levels_of new)) node in let low = visit.levels (node_of lit) l at level h in omega (arith, same, low));
      value = λ given v fits has. signed_value (value_in (values_of given new)) lit l x (v (node_of lit)) signed refl (visit.values (node_of lit) l at given v fits has);
    }

both_parts : (o p : Option Lit) (x y : Lit) → both o p ≡ Some (x, y) → (o ≡ Some x) × (p ≡ Some y)
both_parts None p x y e = absurd (cc)
both_parts (Some a) None x y e = absurd (cc)
both_parts (Some a) (Some b) x y e = let pair : (a, b) ≡ (x, y) = first_of_some (a, b) (x, y) e in (ap (λ (q : Lit × Lit). Some q.0) pair, ap (λ (q : Lit × Lit). Some q.1) pair)
  where
    first_of_some : (p q : Lit × Lit) → Some p ≡ Some q → p ≡ q
    first_of_some p q h = cc

-- one more node

pub visit_more : (count : ℕ) (rows : List Row) (literals : List (Option Lit)) (new more : List Row) (n : ℕ) (l : Lit) → IsVisit count rows literals new → n < length rows → visited literals n ≡ None → IsMade count rows n new more l
    → IsVisit count rows (set literals n (Some l)) more
visit_more count rows literals new more n l visit lt none made = record {
  all = length-set literals n (Some l) ∙ visit.all;
  there = λ m k e. elim (cases_eq m n) [
    | inl same ↦ let at : l ≡ k = some_same l k (sym (here m same) ∙ e) in subst (λ (z : Lit). node_of z < length more) at made.there
    | inr other ↦ let inside = visit.there m k (sym (get_or-set_other literals n m (Some l) None other) ∙ e) in omega (arith, inside, extends_longer new more made.grown)
  ];
  values = λ m k e. elim (cases_eq m n) [
    | inl same ↦
        let at : l ≡ k = some_same l k (sym (here m same) ∙ e) in
        λ given v fits has. ap (value_by given more) (sym at) ∙ made.value given v fits has ∙ sym (ap v same)
    | inr other ↦
        let old = sym (get_or-set_other literals n m (Some l) None other) ∙ e in
        λ given v fits has. literal_kept given new more made.grown k (visit.there m k old) ∙ visit.values m k old given v fits has
  ];
  levels = λ m k e. elim (cases_eq m n) [
    | inl same ↦
        let at : l ≡ k = some_same l k (sym (here m same) ∙ e) in
        let mine : level_by more k ≡ level_by more l = ap (level_by more) (sym at) in
        λ level h. (let low : level_by more l ≤ level n = made.level level h in let node : level m ≡ level n = ap level same in omega (arith, mine, low, node))
    | inr other ↦
        let old = sym (get_or-set_other literals n m (Some l) None other) ∙ e in
        let kept : level_by more k ≡ level_by new k = level_kept new more made.grown (node_of k) (visit.there m k old) in
        λ level h. (let low : level_by new k ≤ level m = visit.levels m k old level h in omega (arith, kept, low))
  ];
  front = λ m low. elim (cases_eq m n) [
    | inl same ↦ absurd (none_front m same (visit.front m low))
    | inr other ↦ get_or-set_other literals n m (Some l) None other ∙ visit.front m low
  ];
  few = omega (arith, sum_by-set unvisited literals n (Some l) None inside, ap unvisited none, visit.few, made.few, and_count_small (row_at rows n));
  fewer =
      let counted : ands_in (λ m. is_some (visited (set literals n (Some l)) m)) rows ≡ ands_in (λ m. is_some (visited literals m)) rows + and_count (row_at rows n) =
      ands_more 0 n n (λ m. is_some (visited literals m)) (λ m. is_some (visited (set literals n (Some l)) m)) rows (omega arith)
      (λ m ne. ap is_some (sym (get_or-set_other literals n m (Some l) None ne))) (ap is_some none) (ap is_some (here n refl)) in
      omega (arith, counted, visit.fewer, made.few);
}
  where
    inside : n < length literals
    inside = omega (arith, visit.all)

    some_same : (p q : Lit) → Some p ≡ Some q → p ≡ q
    some_same p q h = cc

    here : (m : ℕ) → m ≡ n → visited (set literals n (Some l)) m ≡ Some l
    here m same = ap (visited (set literals n (Some l))) same ∙ get_or-set_same literals n (Some l) None inside

    none_front : (m : ℕ) → m ≡ n → {z : Lit} → visited literals m ≡ Some z → ⊥
    none_front m same {z} e = clash (sym e ∙ (ap (visited literals) same ∙ none))
      where
        clash : Some z ≡ None → ⊥
        clash h = cc

    and_count_small : (row : Row) → and_count row ≤ 1
    and_count_small Free = omega arith
    and_count_small Source = omega arith
    and_count_small (And a b) = omega arith
    and_count_small (Alias a) = omega arith

-- the AND of the literals that stand for the fan-ins
pub and_made : (count : ℕ) (rows : List Row) (literals : List (Option Lit)) (new more : List Row) (n : ℕ) (a b x y l : Lit) → IsVisit count rows literals new → IsHashed count more → row_at rows n ≡ And a b → literal_of literals a ≡ Some x → literal_of literals b ≡ Some y
    → Extends new more → length more ≤ length new + 1 → node_of l < length more → IsAnd new x y more l → IsJoin more x y l → IsMade count rows n new more l
and_made count rows literals new more n a b x y l visit made is fa fb grown few there joined join = record {
  grown = grown;
  few = (let one : and_count (row_at rows n) ≡ 1 = ap and_count is in omega (arith, one, few));
  there = there;
  value = λ given v fits has.
      joined given (sym (has 0 (omega arith)) ∙ fits.constant) ∙ ap₂ (λ p q. p && q) (first.value given v fits has) (second.value given v fits has) ∙ sym (subst (RowFits v n) is (fits.each n));
  level = λ level h.
      let high = join_level count more made x y l join in
      let left : level_by more x ≡ level_by new x = level_kept new more grown (node_of x) first.there in
      let right : level_by more y ≡ level_by new y = level_kept new more grown (node_of y) second.there in
      let above : level n ≡ max (level (node_of a)) (level (node_of b)) + 1 = h n ∙ ap (row_level level n) is in
      omega (arith, high, left, right, above, first.level level h, second.level level h);
}
  where
    first : StandsFor count rows new a x
    first = stands_for count rows literals new visit a x fa

    second : StandsFor count rows new b y
    second = stands_for count rows literals new visit b y fb

-- what stands for an alias's literal
pub alias_made : (count : ℕ) (rows : List Row) (literals : List (Option Lit)) (new : List Row) (n : ℕ) (a l : Lit) → IsVisit count rows literals new → row_at rows n ≡ Alias a → literal_of literals a ≡ Some l → IsMade count rows n new new l
alias_made count rows literals new n a l visit is fa = record {
  grown = extends_itself new;
  few = omega arith;
  there = first.there;
  value = λ given v fits has. first.value given v fits has ∙ sym (subst (RowFits v n) is (fits.each n));
  level = λ level h. (let same : level n ≡ level (node_of a) = h n ∙ ap (row_level level n) is in omega (arith, same, first.level level h));
}
  where
    first : StandsFor count rows new a l
    first = stands_for count rows literals new visit a l fa

pub alias_all : (count : ℕ) (rows : List Row) (literals : List (Option Lit)) (new : List Row) (n : ℕ) (a : Lit) (o : Option Lit) → IsVisit count rows literals new → row_at rows n ≡ Alias a → o ≡ literal_of literals a → IfSome o (λ l. IsMade count rows n new new l)
alias_all count rows literals new n a None visit is fa = tt
alias_all count rows literals new n a (Some l) visit is fa = alias_made count rows literals new n a l visit is (sym fa)

pub stays_more : (literals : List (Option Lit)) (n : ℕ) (l : Lit) → visited literals n ≡ None → StaysVisited literals (set literals n (Some l))
stays_more literals n l none m k e = elim (cases_eq m n) [
  | inl same ↦ absurd (clash k (sym e ∙ (ap (visited literals) same ∙ none)))
  | inr other ↦ get_or-set_other literals n m (Some l) None other ∙ e
]
  where
    clash : (z : Lit) → Some z ≡ None → ⊥
    clash z h = cc

pub row_parts : (literals : List (Option Lit)) (row : Row) (x y : Lit) → fan_ins_of literals row ≡ Some (x, y) → (a : Lit) × (b : Lit) × (row ≡ And a b) × (literal_of literals a ≡ Some x) × (literal_of literals b ≡ Some y)
row_parts literals Free x y e = absurd (cc)
row_parts literals Source x y e = absurd (cc)
row_parts literals (And a b) x y e = let parts = both_parts (literal_of literals a) (literal_of literals b) x y e in (a, b, refl, parts.0, parts.1)
row_parts literals (Alias a) x y e = absurd (cc)

-- the beginning

-- before any other node is visited, node 0 and the sources alone have literals, their own
pub first_known : (count size : ℕ) (literals : List (Option Lit)) → FirstsOf count size literals → (n : ℕ) (l : Lit) → visited literals n ≡ Some l → (n < count + 1) × (l.0 ≡ 2 * n)
first_known count size literals firsts n l e = elim (cases_lt n size) [
  | inl lt ↦ elim (cases_lt count n) [
    | inl above ↦ absurd (clash l (sym (firsts.each n lt ∙ cond-false (nat_le n count) (Some (record { 0 = 2 * n })) None (lt-leb n count above)) ∙ e))
    | inr low ↦ (omega arith, number_of l (record { 0 = 2 * n }) (sym e ∙ (firsts.each n lt ∙ cond-true (nat_le n count) (Some (record { 0 = 2 * n })) None (le-leb n count low))))
  ]
  | inr past ↦ absurd (clash l (sym (get_or_past literals n None (omega (arith, firsts.all))) ∙ e))
]
  where
    number_of : (k m : Lit) → Some k ≡ Some m → k.0 ≡ m.0
    number_of k m h = ap (λ (z : Lit). z.0) (let same : k ≡ m = cc in same)

    clash : (z : Lit) → None ≡ Some z → ⊥
    clash z h = cc

pub first_front : (count size : ℕ) (literals : List (Option Lit)) → FirstsOf count size literals → count < size → (n : ℕ) → n < count + 1 → visited literals n ≡ Some (record { 0 = 2 * n })
first_front count size literals firsts wide n lt = firsts.each n (omega arith) ∙ cond-true (nat_le n count) (Some (record { 0 = 2 * n })) None (le-leb n count (omega arith))

pub visit_begins : (count : ℕ) (rows : List Row) (literals : List (Option Lit)) (new : List Row) → count < length rows → IsHashed count new → length new ≡ count + 1 → FirstsOf count (length rows) literals → IsVisit count rows literals new
visit_begins count rows literals new wide made size firsts = record {
  all = firsts.all;
  there = λ n l e. let at = first_known count (length rows) literals firsts n l e in omega (arith, at.0, at.1, size);
  values = λ n l e given v fits has.
      let at = first_known count (length rows) literals firsts n l e in
      let number : l.0 ≡ 2 * n = at.1 in
      let node : node_of l ≡ n = omega arith in
      plain_value (value_in (values_of given new)) l (omega arith) ∙ ap (value_in (values_of given new)) node ∙ source_value count new made given n at.0 ∙ sym (has n at.0);
  levels = λ n l e level h.
      let at = first_known count (length rows) literals firsts n l e in
      let number : l.0 ≡ 2 * n = at.1 in
      let node : node_of l ≡ n = omega arith in
      let zero_there : level_by new l ≡ 0 = ap (level_in (levels_of new)) node ∙ source_level count new made n at.0 in
      omega (arith, zero_there);
  front = first_front count (length rows) literals firsts wide;
  few = omega (arith, firsts.few, size);
  fewer = omega (arith, size);
}

-- all that a row refers to was visited

some_sign : (lit : Lit) (o : Option Lit) → IsSome o → IsSome (with_sign lit o)
some_sign lit None h = h
some_sign lit (Some l) h = h

pub some_of : (o : Option Lit) (l : Lit) → o ≡ Some l → IsSome o
some_of o l e = subst IsSome (sym e) refl

pub some_is : (o : Option Lit) → IsSome o → (l : Lit) × (o ≡ Some l)
some_is None h = absurd (both_ways false refl h)
some_is (Some l) h = (l, refl)

pub none_where : (o : Option Lit) (b : Bool) → b ≡ is_some o → b ≡ false → o ≡ None
none_where None b e f = refl
none_where (Some l) b e f = absurd (both_ways b f e)

-- the rows made again

pub one_less : (x : Option Lit) (xs : List (Option Lit)) (y : Option Lit) (ys : List (Option Lit)) → x ∷ xs ≡ y ∷ ys → (x ≡ y) × (xs ≡ ys)
one_less x xs y ys e = (cc, cc)

found_there : (count : ℕ) (rows : List Row) (literals : List (Option Lit)) (new : List Row) → IsVisit count rows literals new → (found lits : List Lit) → map (λ l. Some l) found ≡ map (literal_of literals) lits → All (λ l. node_of l < length new) found
found_there count rows literals new visit [] lits e = All-nil (λ (l : Lit). node_of l < length new)
found_there count rows literals new visit (f ∷ fs) [] e = absurd (cc)
found_there count rows literals new visit (f ∷ fs) (l ∷ ls) e =
    let parts = one_less (Some f) (map (λ (x : Lit). Some x) fs) (literal_of literals l) (map (literal_of literals) ls) e in
    let s = stands_for count rows literals new visit l f (sym parts.0) in
    All-cons (λ (x : Lit). node_of x < length new) f fs s.there (found_there count rows literals new visit fs ls parts.1)

found_values : (count : ℕ) (rows : List Row) (literals : List (Option Lit)) (new : List Row) → IsVisit count rows literals new → (given v : ℕ → Bool) → Fits rows v → HasSources count given v → (found lits : List Lit) → map (λ l. Some l) found ≡ map (literal_of literals) lits
    → map (value_by given new) found ≡ map (lit_value v) lits
found_values count rows literals new visit given v fits has [] [] e = refl
found_values count rows literals new visit given v fits has [] (l ∷ ls) e = absurd (cc)
found_values count rows literals new visit given v fits has (f ∷ fs) [] e = absurd (cc)
found_values count rows literals new visit given v fits has (f ∷ fs) (l ∷ ls) e =
    let parts = one_less (Some f) (map (λ (x : Lit). Some x) fs) (literal_of literals l) (map (literal_of literals) ls) e in
    let s = stands_for count rows literals new visit l f (sym parts.0) in
    ap₂ (λ (b : Bool) (bs : List Bool). b ∷ bs) (s.value given v fits has) (found_values count rows literals new visit given v fits has fs ls parts.1)

pub found_at : (literals : List (Option Lit)) (found lits : List Lit) → map (λ l. Some l) found ≡ map (literal_of literals) lits → (i : ℕ) → i < length lits → Some (lit_at found i) ≡ literal_of literals (lit_at lits i)
found_at literals [] [] e i lt = absurd (omega arith)
found_at literals [] (l ∷ ls) e i lt = absurd (cc)
found_at literals (f ∷ fs) [] e i lt = absurd (omega arith)
found_at literals (f ∷ fs) (l ∷ ls) e zero lt = (one_less (Some f) (map (λ (x : Lit). Some x) fs) (literal_of literals l) (map (literal_of literals) ls) e).0
found_at literals (f ∷ fs) (l ∷ ls) e (suc i) lt = found_at literals fs ls (one_less (Some f) (map (λ (x : Lit). Some x) fs) (literal_of literals l) (map (literal_of literals) ls) e).1 i (omega arith)

-- a literal of a node that stands for itself stands for itself
own_literal : (l : Lit) → with_sign l (Some (record { 0 = 2 * node_of l })) ≡ Some l
own_literal l = elim (cases_Bool (nat_eq (l.0 % 2) 0)) [
  | inl t ↦
      let even = eqb-true (l.0 % 2) 0 t in
      let number : 2 * node_of l ≡ l.0 = omega (arith, even) in
      ap (λ (y : Lit). Some y) (cond-true (nat_eq (l.0 % 2) 0) (record { 0 = 2 * node_of l }) (next (2 * node_of l)) t ∙ ap (λ (k : ℕ). let m : Lit = record { 0 = k } in m) number)
  | inr f ↦
      let odd : l.0 % 2 ≢ 0 = eqb-false (l.0 % 2) 0 f in
      let up : (if nat_eq ((2 * node_of l) % 2) 0 then 2 * node_of l + 1 else 2 * node_of l - 1) ≡ 2 * node_of l + 1 = cond-true (nat_eq ((2 * node_of l) % 2) 0) (2 * node_of l + 1) (2 * node_of l - 1) (eq-eqb ((2 * node_of l) % 2) 0 (omega arith)) in
      let number : 2 * node_of l + 1 ≡ l.0 = omega (arith, odd) in
      ap (λ (y : Lit). Some y) (cond-false (nat_eq (l.0 % 2) 0) (record { 0 = 2 * node_of l }) (next (2 * node_of l)) f ∙ ap (λ (k : ℕ). let m : Lit = record { 0 = k } in m) (up ∙ number))
]
  where
    next : ℕ → Lit
    next k = record { 0 = if nat_eq (k % 2) 0 then k + 1 else k - 1 }

pub made_again : (count : ℕ) (rows : List Row) (lits : List Lit) (literals : List (Option Lit)) (new : List Row) (found : List Lit) → CanCompact count rows lits → IsHashed count new → IsVisit count rows literals new → VisitsReached count rows lits literals
    → map (λ l. Some l) found ≡ map (literal_of literals) lits → IsMadeAgain count rows lits new found
made_again count rows lits literals new found can hashed visit reaches e = record {
  hashed = hashed;
  same_count = sym (length-map found (λ l. Some l)) ∙ ap length e ∙ length-map lits (literal_of literals);
  within = found_there count rows literals new visit found lits e;
  fewer = omega (arith, visit.few);
  ands = λ k counted.
      let (test, is, number) = counted in
      let less : ands_in (λ m. is_some (visited literals m)) rows ≤ ands_in test rows =
      ands_fewer 0 (λ m. is_some (visited literals m)) test rows (λ m i at row v. let same : m ≡ i = omega arith in subst (λ (j : ℕ). test j ≡ true) (sym same) (was_reached i test is row (subst (λ (j : ℕ). is_some (visited literals j) ≡ true) same v))) in
      omega (arith, less, number, visit.fewer);
  same_values = λ bits v fits has. sym (found_values count rows literals new visit (given_by bits) v fits has found lits e);
  levels = λ level h i lt. (stands_for count rows literals new visit (lit_at lits i) (lit_at found i) (sym (found_at literals found lits e i lt))).level level h;
  sources_stay = λ i l lt low at.
      let own : visited literals (node_of l) ≡ Some (record { 0 = 2 * node_of l }) = visit.front (node_of l) low in
      some_same (lit_at found i) l (found_at literals found lits e i lt ∙ ap (literal_of literals) at ∙ ap (with_sign l) own ∙ own_literal l);
}
  where
    some_same : (p q : Lit) → Some p ≡ Some q → p ≡ q
    some_same p q h = cc

    was_reached : (n : ℕ) (test : ℕ → Bool) → IsReachedSet rows lits test → is_and (row_at rows n) ≡ true → is_some (visited literals n) ≡ true → test n ≡ true
    was_reached n test is row v = elim (cases_lt count n) [
      | inl above ↦ reaches n above v test is.closed is.observes
      | inr low ↦ absurd (both_ways (is_and (row_at rows n)) (ap is_and (can.front n (omega arith))) row)
    ]
