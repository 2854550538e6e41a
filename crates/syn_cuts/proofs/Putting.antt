-- Cuts put in their places, and the first of them.
use Rattle.std.proofs.Common.{◌≡◌, ℕ, zero, suc, ◌+◌, ◌-◌, ◌<◌, ◌≤◌, ◌==◌, Bool, true, false, if◌then◌else◌, List, [], ◌∷◌, ◌++◌, length, take, drop, get_or, bytes_eq, refl, sym, ap, ◌∙◌, arith, append_assoc}
use Rattle.std.specs.List.{insert}
use Rattle.std.proofs.lemmas.Bool.{cond-true, cond-false}
use Rattle.std.proofs.lemmas.Bool.Decides.{nat_tests}
use Rattle.arrayvec.specs.ArrayVec.{ArrayVec}
use Rattle.syn_cuts.specs.Cuts.{union, is_small, put, arranged, leaves_before, comes_before, unions_with, unions}
use Rattle.syn_cuts.specs.Leaves.{leaves, leaves_of}
use Rattle.syn_cuts.specs.Lists.{but_last}

-- where a cut belongs

pub put_before : (c d : List ℕ) (ds : List (List ℕ)) → comes_before c d ≡ true → put c (d ∷ ds) ≡ c ∷ d ∷ ds
put_before c d ds e = cond-true (comes_before c d) (c ∷ d ∷ ds) (if bytes_eq c d then d ∷ ds else d ∷ put c ds) e

pub put_same : (c d : List ℕ) (ds : List (List ℕ)) → comes_before c d ≡ false → bytes_eq c d ≡ true → put c (d ∷ ds) ≡ d ∷ ds
put_same c d ds e f = cond-false (comes_before c d) (c ∷ d ∷ ds) (if bytes_eq c d then d ∷ ds else d ∷ put c ds) e ∙ cond-true (bytes_eq c d) (d ∷ ds) (d ∷ put c ds) f

pub put_behind : (c d : List ℕ) (ds : List (List ℕ)) → comes_before c d ≡ false → bytes_eq c d ≡ false → put c (d ∷ ds) ≡ d ∷ put c ds
put_behind c d ds e f = cond-false (comes_before c d) (c ∷ d ∷ ds) (if bytes_eq c d then d ∷ ds else d ∷ put c ds) e ∙ cond-false (bytes_eq c d) (d ∷ ds) (d ∷ put c ds) f

take_front : {X : Type 0} (xs : List X) (i : ℕ) → take i xs ++ drop i xs ≡ xs
take_front xs zero = refl
take_front [] (suc i) = refl
take_front {X} (x ∷ xs) (suc i) = ap (λ (l : List X). x ∷ l) (take_front xs i)

take_one : {X : Type 0} (xs : List X) (i : ℕ) (x : X) (rest : List X) → drop i xs ≡ x ∷ rest → take (suc i) xs ≡ take i xs ++ x ∷ []
take_one [] zero x rest e = absurd (cc)
take_one {X} (y ∷ ys) zero x rest e = let h : y ≡ x = cc in ap (λ (z : X). z ∷ []) h
take_one [] (suc i) x rest e = absurd (cc)
take_one {X} (y ∷ ys) (suc i) x rest e = ap (λ (l : List X). y ∷ l) (take_one ys i x rest e)

-- as far as place i the cut comes behind
abbrev pub IsBehind : List ℕ → List (List ℕ) → ℕ → Type 0
IsBehind c ds i = put c ds ≡ take i ds ++ put c (drop i ds)

pub behind_here : (c : List ℕ) (ds : List (List ℕ)) (i : ℕ) (d : List ℕ) (rest : List (List ℕ)) → IsBehind c ds i → drop i ds ≡ d ∷ rest → comes_before c d ≡ true → put c ds ≡ insert ds i c
behind_here c ds i d rest b e f = b ∙ ap (λ l. take i ds ++ l) (ap (put c) e ∙ put_before c d rest f ∙ ap (λ (l : List (List ℕ)). c ∷ l) (sym e))

pub behind_there : (c : List ℕ) (ds : List (List ℕ)) (i : ℕ) (d : List ℕ) (rest : List (List ℕ)) → IsBehind c ds i → drop i ds ≡ d ∷ rest → comes_before c d ≡ false → bytes_eq c d ≡ true → put c ds ≡ ds
behind_there c ds i d rest b e f g = b ∙ ap (λ l. take i ds ++ l) (ap (put c) e ∙ put_same c d rest f g ∙ sym e) ∙ take_front ds i

pub behind_more : (c : List ℕ) (ds : List (List ℕ)) (i j : ℕ) (d : List ℕ) → j ≡ suc i → IsBehind c ds i → drop i ds ≡ d ∷ drop j ds → comes_before c d ≡ false → bytes_eq c d ≡ false → IsBehind c ds j
behind_more c ds i j d at b e f g =
    let rest : List (List ℕ) = drop j ds in
    b ∙ ap (λ l. take i ds ++ l) (ap (put c) e ∙ put_behind c d rest f g)
    ∙ sym (append_assoc (take i ds) (d ∷ []) (put c rest))
    ∙ ap (λ x. x ++ put c rest) (sym (ap (λ k. take k ds) at ∙ take_one ds i d rest e))

-- the first ones

pub take_short : {X : Type 0} (xs : List X) (n : ℕ) → length xs ≤ n → take n xs ≡ xs
take_short [] zero le = refl
take_short [] (suc n) le = refl
take_short (x ∷ xs) zero le = absurd (omega arith)
take_short {X} (x ∷ xs) (suc n) le = ap (λ (l : List X). x ∷ l) (take_short xs n (omega arith))

pub take_twice : {X : Type 0} (xs : List X) (n : ℕ) → take n (take n xs) ≡ take n xs
take_twice xs zero = refl
take_twice [] (suc n) = refl
take_twice {X} (x ∷ xs) (suc n) = ap (λ (l : List X). x ∷ l) (take_twice xs n)

take_less : {X : Type 0} (xs : List X) (n : ℕ) → take n (take (suc n) xs) ≡ take n xs
take_less xs zero = refl
take_less [] (suc n) = refl
take_less {X} (x ∷ xs) (suc n) = ap (λ (l : List X). x ∷ l) (take_less xs n)

-- the first cuts, after one was put among all, are those after it was put among the first
pub take_put : (n : ℕ) (c : List ℕ) (ds : List (List ℕ)) → take n (put c (take n ds)) ≡ take n (put c ds)
take_put zero c ds = refl
take_put (suc n) c [] = refl
take_put (suc n) c (d ∷ ds) = go (comes_before c d) (bytes_eq c d) n (take_put n c ds)
  where
    front : (n : ℕ) → take n (d ∷ take n ds) ≡ take n (d ∷ ds)
    front zero = refl
    front (suc m) = ap (λ (l : List (List ℕ)). d ∷ l) (take_less ds m)

    go : (b e : Bool) (n : ℕ) → take n (put c (take n ds)) ≡ take n (put c ds)
        → take (suc n) (if b then c ∷ d ∷ take n ds else if e then d ∷ take n ds else d ∷ put c (take n ds)) ≡ take (suc n) (if b then c ∷ d ∷ ds else if e then d ∷ ds else d ∷ put c ds)
    go true e n h = ap (λ (l : List (List ℕ)). c ∷ l) (front n)
    go false true n h = ap (λ (l : List (List ℕ)). d ∷ l) (take_twice ds n)
    go false false n h = ap (λ (l : List (List ℕ)). d ∷ l) h

pub take_arranged : (n : ℕ) (ds cs : List (List ℕ)) → take n (arranged (take n ds) cs) ≡ take n (arranged ds cs)
take_arranged n ds [] = take_twice ds n
take_arranged n ds (c ∷ cs) =
    sym (take_arranged n (put c (take n ds)) cs)
    ∙ ap (λ l. take n (arranged l cs)) (take_put n c ds)
    ∙ take_arranged n (put c ds) cs

pub arranged-append : (ds cs es : List (List ℕ)) → arranged ds (cs ++ es) ≡ arranged (arranged ds cs) es
arranged-append ds [] es = refl
arranged-append ds (c ∷ cs) es = arranged-append (put c ds) cs es

-- a cut put in its place where one has to go
pub take_insert : {X : Type 0} (n : ℕ) (xs : List X) (i : ℕ) (x : X) → i ≤ n → take (suc n) (insert xs i x) ≡ insert (take n xs) i x
take_insert n xs zero x le = refl
take_insert zero xs (suc i) x le = absurd (omega arith)
take_insert (suc n) [] (suc i) x le = refl
take_insert {X} (suc n) (y ∷ ys) (suc i) x le = ap (λ (l : List X). y ∷ l) (take_insert n ys i x (omega arith))

pub take_insert_past : {X : Type 0} (n : ℕ) (xs : List X) (i : ℕ) (x : X) → n ≤ i → i ≤ length xs → take n (insert xs i x) ≡ take n xs
take_insert_past zero xs i x le in_list = refl
take_insert_past (suc n) xs zero x le in_list = absurd (omega arith)
take_insert_past (suc n) [] (suc i) x le in_list = absurd (omega arith)
take_insert_past {X} (suc n) (y ∷ ys) (suc i) x le in_list = ap (λ (l : List X). y ∷ l) (take_insert_past n ys i x (omega arith) (omega arith))

pub insert_leaves : (cuts : List (ArrayVec ℕ)) (i : ℕ) (c : ArrayVec ℕ) → leaves_of (insert cuts i c) ≡ insert (leaves_of cuts) i (leaves c)
insert_leaves cuts zero c = refl
insert_leaves [] (suc i) c = refl
insert_leaves (d ∷ ds) (suc i) c = ap (λ (l : List (List ℕ)). leaves d ∷ l) (insert_leaves ds i c)

pub take_leaves : (cuts : List (ArrayVec ℕ)) (n : ℕ) → leaves_of (take n cuts) ≡ take n (leaves_of cuts)
take_leaves cuts zero = refl
take_leaves [] (suc n) = refl
take_leaves (d ∷ ds) (suc n) = ap (λ (l : List (List ℕ)). leaves d ∷ l) (take_leaves ds n)

-- the rest of a list of cuts
pub drop_leaves : (cuts : List (ArrayVec ℕ)) (i : ℕ) (c : ArrayVec ℕ) → i < length cuts → c ≡ get_or cuts i c → drop i (leaves_of cuts) ≡ leaves c ∷ drop (i + 1) (leaves_of cuts)
drop_leaves [] i c lt e = absurd (omega arith)
drop_leaves (d ∷ ds) zero c lt e = ap (λ (x : ArrayVec ℕ). leaves x ∷ leaves_of ds) (sym e)
drop_leaves (d ∷ ds) (suc i) c lt e =
    let next : suc (i + 1) ≡ suc i + 1 = omega arith in
    drop_leaves ds i c (omega arith) e ∙ ap (λ k. leaves c ∷ drop k (leaves_of (d ∷ ds))) next

-- the unions of a cut with the rest
pub unions_small : (k : ℕ) (c d : List ℕ) (ds : List (List ℕ)) → length (union c d) ≤ k → unions_with k c (d ∷ ds) ≡ union c d ∷ unions_with k c ds
unions_small k c d ds le = cond-true (is_small k (union c d)) (union c d ∷ unions_with k c ds) (unions_with k c ds) (grind (arith, nat_tests))

pub unions_large : (k : ℕ) (c d : List ℕ) (ds : List (List ℕ)) → k < length (union c d) → unions_with k c (d ∷ ds) ≡ unions_with k c ds
unions_large k c d ds lt = cond-false (is_small k (union c d)) (union c d ∷ unions_with k c ds) (unions_with k c ds) (grind (arith, nat_tests))

unions-append : (k : ℕ) (c d : List ℕ) (ds : List (List ℕ)) → unions_with k c (d ∷ ds) ≡ unions_with k c (d ∷ []) ++ unions_with k c ds
unions-append k c d ds = go (is_small k (union c d))
  where
    go : (b : Bool) → (if b then union c d ∷ unions_with k c ds else unions_with k c ds) ≡ (if b then union c d ∷ [] else []) ++ unions_with k c ds
    go true = refl
    go false = refl

-- one step: the first of what was arranged so far, and the rest
step : (n : ℕ) (old new cs es : List (List ℕ)) → new ≡ take n (arranged old cs) → take n (arranged new es) ≡ take n (arranged old (cs ++ es))
step n old new cs es e = ap (λ l. take n (arranged l es)) e ∙ take_arranged n (arranged old cs) es ∙ sym (ap (take n) (arranged-append old cs es))

pub step_union : (k : ℕ) (c d : List ℕ) (ds : List (List ℕ)) (old new all : List (List ℕ)) (other : List (List ℕ)) → other ≡ d ∷ ds → take 31 (arranged old (unions_with k c other)) ≡ all
    → new ≡ take 31 (arranged old (unions_with k c (d ∷ []))) → take 31 (arranged new (unions_with k c ds)) ≡ all
step_union k c d ds old new all other o h e =
    step 31 old new (unions_with k c (d ∷ [])) (unions_with k c ds) e
    ∙ ap (λ l. take 31 (arranged old l)) (sym (ap (unions_with k c) o ∙ unions-append k c d ds))
    ∙ h

pub step_unions : (k : ℕ) (c : List ℕ) (cs ds : List (List ℕ)) (old new all left : List (List ℕ)) → left ≡ c ∷ cs → take 31 (arranged old (unions k left ds)) ≡ all
    → new ≡ take 31 (arranged old (unions_with k c ds)) → take 31 (arranged new (unions k cs ds)) ≡ all
step_unions k c cs ds old new all left o h e =
    step 31 old new (unions_with k c ds) (unions k cs ds) e
    ∙ ap (λ l. take 31 (arranged old l)) (sym (ap (λ l. unions k l ds) o))
    ∙ h

pub leaves_length : (cuts : List (ArrayVec ℕ)) → length (leaves_of cuts) ≡ length cuts
leaves_length [] = refl
leaves_length (c ∷ cs) = ap suc (leaves_length cs)

pub kept_short : (cuts : List (ArrayVec ℕ)) → length cuts ≤ 31 → take 31 (leaves_of cuts) ≡ leaves_of cuts
kept_short cuts le = take_short (leaves_of cuts) 31 (let e = leaves_length cuts in omega (arith, e))

-- a cut put among the first where it belongs behind them
pub put_past : (cuts : List (ArrayVec ℕ)) (i : ℕ) (c : List ℕ) → length cuts ≤ 31 → 31 ≤ i → i ≤ length cuts → put c (leaves_of cuts) ≡ insert (leaves_of cuts) i c → leaves_of cuts ≡ take 31 (put c (leaves_of cuts))
put_past cuts i c few past le e =
    let same = leaves_length cuts in
    sym (kept_short cuts few) ∙ sym (take_insert_past 31 (leaves_of cuts) i c past (omega (arith, same))) ∙ ap (take 31) (sym e)

-- a cut put in its place among the first, after the last went where there was no room
pub put_within : (cuts new room : List (ArrayVec ℕ)) (i : ℕ) (c : ArrayVec ℕ) → i ≤ 30 → put (leaves c) (leaves_of cuts) ≡ insert (leaves_of cuts) i (leaves c)
    → leaves_of room ≡ take 30 (leaves_of cuts) → new ≡ insert room i c → leaves_of new ≡ take 31 (put (leaves c) (leaves_of cuts))
put_within cuts new room i c le e r n =
    ap leaves_of n ∙ insert_leaves room i c ∙ ap (λ l. insert l i (leaves c)) r ∙ sym (take_insert 30 (leaves_of cuts) i (leaves c) le) ∙ ap (take 31) (sym e)

-- a cut that is there
pub put_there : (cuts : List (ArrayVec ℕ)) (c : List ℕ) → length cuts ≤ 31 → put c (leaves_of cuts) ≡ leaves_of cuts → leaves_of cuts ≡ take 31 (put c (leaves_of cuts))
put_there cuts c few e = sym (kept_short cuts few) ∙ ap (take 31) (sym e)

pub drop_all_leaves : (cuts : List (ArrayVec ℕ)) (i : ℕ) → length cuts ≤ i → drop i (leaves_of cuts) ≡ []
drop_all_leaves [] zero le = refl
drop_all_leaves [] (suc i) le = refl
drop_all_leaves (c ∷ cs) zero le = absurd (omega arith)
drop_all_leaves (c ∷ cs) (suc i) le = drop_all_leaves cs i (omega arith)

pub not_full : (n : ℕ) (b : Bool) → b ≡ (n == 31) → b ≡ false → n ≤ 31 → n ≤ 30
not_full n b e f le = grind (arith, nat_tests)

-- no leaves come before none
pub not_before_none : (xs ys : List ℕ) (i : ℕ) → length ys ≤ i → leaves_before (drop i xs) (drop i ys) ≡ false
not_before_none xs ys i le = ap (leaves_before (drop i xs)) (none ys i le) ∙ never (drop i xs)
  where
    none : (zs : List ℕ) (i : ℕ) → length zs ≤ i → drop i zs ≡ []
    none [] zero le = refl
    none [] (suc i) le = refl
    none (z ∷ zs) zero le = absurd (omega arith)
    none (z ∷ zs) (suc i) le = none zs i (omega arith)

    never : (zs : List ℕ) → leaves_before zs [] ≡ false
    never [] = refl
    never (z ∷ zs) = refl

-- the cuts but the last
pub front_leaves : (cuts : List (ArrayVec ℕ)) (list : List (List ℕ)) → leaves_of cuts ≡ list → leaves_of (take (length cuts - 1) cuts) ≡ but_last list
front_leaves cuts list e =
    take_leaves cuts (length cuts - 1) ∙ ap (λ n. take (n - 1) (leaves_of cuts)) (sym (leaves_length cuts)) ∙ ap but_last e
