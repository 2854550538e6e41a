-- Tables with distinct outputs have no circle, or the answered one; and there is only one that is answered.
use Rattle.std.proofs.Common.{◌≡◌, ℕ, zero, suc, ◌+◌, ◌≤◌, ◌||◌, not, Bool, true, false, if◌then◌else◌, List, [], ◌∷◌, ◌++◌, length, map, find, bytes_eq, refl, sym, ap, ap₂, ◌∙◌, subst, inl, inr, ◌⊎◌, Some, arith, length-append, append_assoc, append-nil}
use Rattle.std.specs.List.{list_all}
use Rattle.std.proofs.lemmas.Bool.{both_ways, false_from_ne_true, and_parts, and_from, or_left, or_right, not-true}
use Rattle.syn_netlist.specs.Words.{has_word, distinct}
use Rattle.syn_netlist.specs.Lists.{Table, output_of}
use Rattle.syn_netlist.specs.Faults.{EachReadsAnother, ReachesCircle, IsCyclicSet, next_in, GoesOn, IsAnsweredCircle}
use Rattle.syn_netlist.proofs.Sets.{same_word, word_same, distinct_push}
use Rattle.syn_netlist.proofs.CyclicSets.{to_in, in_has, next_is, cyclic_or_none}
use Rattle.syn_models.proofs.WordSets.{all_snoc, pigeons, split_at_word, find_has, find_any}

-- each name of a cyclic set has a next one
next_some : (ts : List Table) (set : List ℕ → Bool) → distinct (map output_of ts) ≡ true → EachReadsAnother ts set → (name : List ℕ) → set name ≡ true → (next : List ℕ) × (next_in ts set name ≡ Some next) × (set next ≡ true)
next_some ts set d reading name s =
    let r = reading name s in
    let f = find_any set r.0.inputs r.3 in
    (f.0, subst (λ w. next_in ts set w ≡ Some f.0) r.2 (next_is ts set r.0 d (to_in ts r.0 r.1.0 r.1.1 r.1.2) ∙ f.1), f.2)

goes_more : (ts : List Table) (set : List ℕ → Bool) (name : List ℕ) (names : List (List ℕ)) (back next : List ℕ) → GoesOn ts set name names back → next_in ts set back ≡ Some next → GoesOn ts set name (names ++ back ∷ []) next
goes_more ts set name [] back next g e = (g, e)
goes_more ts set name (n ∷ ns) back next g e = (g.0, goes_more ts set n ns back next g.1 e)

-- the walk meets a name again
walk : (k : ℕ) (ts : List Table) (set : List ℕ → Bool) → distinct (map output_of ts) ≡ true → EachReadsAnother ts set
    → (first : List ℕ) (rest : List (List ℕ)) (back : List ℕ) → GoesOn ts set first rest back → distinct (first ∷ rest) ≡ true → list_all (has_word (map output_of ts)) (first ∷ rest) ≡ true → set back ≡ true
    → length (map output_of ts) ≤ k + length rest
    → (rest' : List (List ℕ)) × (back' : List ℕ) × GoesOn ts set first rest' back' × (distinct (first ∷ rest') ≡ true) × (has_word (first ∷ rest') back' ≡ true)
walk zero ts set d reading first rest back g u a s l = absurd (let p : suc (length rest) ≤ length (map output_of ts) = pigeons (first ∷ rest) (map output_of ts) u a in omega arith)
walk (suc k) ts set d reading first rest back g u a s l =
    let next = next_some ts set d reading back s in
    let r = reading back s in
    let known : has_word (map output_of ts) back ≡ true = subst (λ w. has_word (map output_of ts) w ≡ true) r.2 (in_has ts r.0 (to_in ts r.0 r.1.0 r.1.1 r.1.2)) in
    let size : length (rest ++ back ∷ []) ≡ length rest + 1 = length-append rest (back ∷ []) in
    go (has_word (first ∷ rest) back) refl
    (λ h. walk k ts set d reading first (rest ++ back ∷ []) next.0 (goes_more ts set first rest back next.0 g next.1) (distinct_push (first ∷ rest) back u h) (all_snoc (has_word (map output_of ts)) (first ∷ rest) back a known) next.2 (omega (arith, size)))
  where
    go : (b : Bool) → has_word (first ∷ rest) back ≡ b
        → (has_word (first ∷ rest) back ≡ false → (rest' : List (List ℕ)) × (back' : List ℕ) × GoesOn ts set first rest' back' × (distinct (first ∷ rest') ≡ true) × (has_word (first ∷ rest') back' ≡ true))
        → (rest' : List (List ℕ)) × (back' : List ℕ) × GoesOn ts set first rest' back' × (distinct (first ∷ rest') ≡ true) × (has_word (first ∷ rest') back' ≡ true)
    go true h more = (rest, back, g, u, h)
    go false h more = more h

pub circle_or_none : (tables : List Table) → distinct (map output_of tables) ≡ true
    → ((w : List ℕ) → ReachesCircle tables w → ⊥) ⊎ ((names : List (List ℕ)) × (first : List ℕ) × (before : List (List ℕ)) × (set : List ℕ → Bool) × IsAnsweredCircle tables first before names set)
circle_or_none tables d = elim (cyclic_or_none (length tables) tables tables (omega arith) d (λ u h. h) (λ other reading w o. let r = reading w o in subst (λ v. has_word (map output_of tables) v ≡ true) r.2 (in_has tables r.0 (to_in tables r.0 r.1.0 r.1.1 r.1.2)))) [
  | inl none ↦ inl none
  | inr c ↦ inr (answer c.0 c.1 c.2.0 c.2.1 c.2.2)
]
  where
    answer : (set : List ℕ → Bool) → IsCyclicSet tables set → (w : List ℕ) → set w ≡ true → has_word (map output_of tables) w ≡ true
        → (names : List (List ℕ)) × (first : List ℕ) × (before : List (List ℕ)) × (set : List ℕ → Bool) × IsAnsweredCircle tables first before names set
    answer set cyclic w s h =
        let f = find_has set (map output_of tables) w h s in
        let next = next_some tables set d cyclic.reading f.0 f.2 in
        let r = cyclic.reading f.0 f.2 in
        let known : has_word (map output_of tables) f.0 ≡ true = subst (λ v. has_word (map output_of tables) v ≡ true) r.2 (in_has tables r.0 (to_in tables r.0 r.1.0 r.1.1 r.1.2)) in
        let p = walk (length (map output_of tables)) tables set d cyclic.reading f.0 [] next.0 next.1 refl (and_from (has_word (map output_of tables) f.0) true known refl) next.2 (omega arith) in
        let q = split_at_word (f.0 ∷ p.0) p.1 p.4 in (
          p.1 ∷ q.1,
          f.0,
          q.0,
          set,
          record {
            cyclic = cyclic;
            begins = f.1;
            path = (p.0, sym q.2, (p.1, q.1, refl, p.2));
            once = subst (λ l. distinct l ≡ true) q.2 p.3;
          },
        )

-- one answered circle

same_bool : (a b : Bool) → (a ≡ true → b ≡ true) → (b ≡ true → a ≡ true) → a ≡ b
same_bool true b f g = sym (f refl)
same_bool false true f g = g refl
same_bool false false f g = refl

pub find_same : (s t : List ℕ → Bool) → ((w : List ℕ) → s w ≡ t w) → (xs : List (List ℕ)) → find s xs ≡ find t xs
find_same s t e [] = refl
find_same s t e (x ∷ xs) = ap₂ (λ b o. if b then Some x else o) (e x) (find_same s t e xs)

next_same : (ts : List Table) (s t : List ℕ → Bool) → ((w : List ℕ) → s w ≡ t w) → (name : List ℕ) → next_in ts s name ≡ next_in ts t name
next_same [] s t e name = refl
next_same (u ∷ ts) s t e name = ap₂ (λ a b. if bytes_eq u.output name then a else b) (find_same s t e u.inputs) (next_same ts s t e name)

goes_same : (ts : List Table) (s t : List ℕ → Bool) → ((w : List ℕ) → s w ≡ t w) → (name : List ℕ) (names : List (List ℕ)) (back : List ℕ) → GoesOn ts s name names back → GoesOn ts t name names back
goes_same ts s t e name [] back g = sym (next_same ts s t e name) ∙ g
goes_same ts s t e name (n ∷ ns) back g = (sym (next_same ts s t e name) ∙ g.0, goes_same ts s t e n ns back g.1)

has_middle : (xs : List (List ℕ)) (w : List ℕ) (ys : List (List ℕ)) → has_word (xs ++ w ∷ ys) w ≡ true
has_middle [] w ys = or_left (bytes_eq w w) (has_word ys w) (word_same w)
has_middle (x ∷ xs) w ys = or_right (bytes_eq x w) (has_word (xs ++ w ∷ ys) w) (has_middle xs w ys)

new_word : (xs : List (List ℕ)) (w : List ℕ) (ys : List (List ℕ)) → distinct (xs ++ w ∷ ys) ≡ true → has_word xs w ≡ false
new_word [] w ys d = refl
new_word (x ∷ xs) w ys d =
    let p = and_parts (not (has_word (xs ++ w ∷ ys) x)) (distinct (xs ++ w ∷ ys)) d in
    let apart : bytes_eq x w ≡ false = false_from_ne_true (bytes_eq x w) (λ e. both_ways (has_word (xs ++ w ∷ ys) x) (not-true _ p.0) (subst (λ v. has_word (xs ++ w ∷ ys) v ≡ true) (sym (same_word x w e)) (has_middle xs w ys))) in
    ap₂ (λ a b. a || b) apart (new_word xs w ys p.1)

some_word : (x y : List ℕ) → Some x ≡ Some y → x ≡ y
some_word x y e = cc

head_is : (x y : List ℕ) (xs ys : List (List ℕ)) → x ∷ xs ≡ y ∷ ys → (x ≡ y) × (xs ≡ ys)
head_is x y xs ys e = ((let a : x ≡ y = cc in a), (let b : xs ≡ ys = cc in b))

-- two walks from one name, each up to a name met before
same_walk : (ts : List Table) (set : List ℕ → Bool) (seen : List (List ℕ)) (name : List ℕ) (xs ys : List (List ℕ)) (back other : List ℕ)
    → GoesOn ts set name xs back → GoesOn ts set name ys other → distinct (seen ++ xs) ≡ true → distinct (seen ++ ys) ≡ true → has_word (seen ++ xs) back ≡ true → has_word (seen ++ ys) other ≡ true
    → (xs ≡ ys) × (back ≡ other)
same_walk ts set seen name [] [] back other g h dx dy bx by = (refl, some_word back other (sym g ∙ h))
same_walk ts set seen name [] (y ∷ ys) back other g h dx dy bx by =
    let e : back ≡ y = some_word back y (sym g ∙ h.0) in
    absurd (both_ways (has_word seen y) (new_word seen y ys dy) (subst (λ l. has_word l y ≡ true) (append-nil seen) (subst (λ v. has_word (seen ++ []) v ≡ true) e bx)))
same_walk ts set seen name (x ∷ xs) [] back other g h dx dy bx by =
    let e : other ≡ x = some_word other x (sym h ∙ g.0) in
    absurd (both_ways (has_word seen x) (new_word seen x xs dx) (subst (λ l. has_word l x ≡ true) (append-nil seen) (subst (λ v. has_word (seen ++ []) v ≡ true) e by)))
same_walk ts set seen name (x ∷ xs) (y ∷ ys) back other g h dx dy bx by =
    let e : y ≡ x = some_word y x (sym h.0 ∙ g.0) in
    let shift : (l : List (List ℕ)) → seen ++ x ∷ l ≡ (seen ++ x ∷ []) ++ l = λ l. sym (append_assoc seen (x ∷ []) l) in
    let whole : seen ++ y ∷ ys ≡ (seen ++ x ∷ []) ++ ys = ap (λ v. seen ++ v ∷ ys) e ∙ shift ys in
    let r = same_walk ts set (seen ++ x ∷ []) x xs ys back other g.1 (subst (λ v. GoesOn ts set v ys other) e h.1)
    (subst (λ l. distinct l ≡ true) (shift xs) dx) (subst (λ l. distinct l ≡ true) whole dy)
    (subst (λ l. has_word l back ≡ true) (shift xs) bx) (subst (λ l. has_word l other ≡ true) whole by) in
    (ap₂ (λ (v : List ℕ) (l : List (List ℕ)). v ∷ l) (sym e) r.0, r.1)

same_split : (xs ys : List (List ℕ)) (b : List ℕ) (cs bs : List (List ℕ)) → xs ++ b ∷ cs ≡ ys ++ b ∷ bs → distinct (xs ++ b ∷ cs) ≡ true → cs ≡ bs
same_split [] [] b cs bs e d = (head_is b b cs bs e).1
same_split [] (y ∷ ys) b cs bs e d =
    let p = head_is b y cs (ys ++ b ∷ bs) e in
    let q = and_parts (not (has_word cs b)) (distinct cs) d in
    absurd (both_ways (has_word cs b) (not-true _ q.0) (subst (λ l. has_word l b ≡ true) (sym p.1) (has_middle ys b bs)))
same_split (x ∷ xs) [] b cs bs e d =
    let p = head_is x b (xs ++ b ∷ cs) bs e in
    let q = and_parts (not (has_word (xs ++ b ∷ cs) x)) (distinct (xs ++ b ∷ cs)) d in
    absurd (both_ways (has_word (xs ++ b ∷ cs) x) (not-true _ q.0) (subst (λ v. has_word (xs ++ b ∷ cs) v ≡ true) (sym p.0) (has_middle xs b cs)))
same_split (x ∷ xs) (y ∷ ys) b cs bs e d =
    same_split xs ys b cs bs (head_is x y (xs ++ b ∷ cs) (ys ++ b ∷ bs) e).1 (and_parts (not (has_word (xs ++ b ∷ cs) x)) (distinct (xs ++ b ∷ cs)) d).1

-- a word of what is walked
met : (first : List ℕ) (rest before circle : List (List ℕ)) (back : List ℕ) (more : List (List ℕ)) → before ++ circle ≡ first ∷ rest → circle ≡ back ∷ more → has_word (first ∷ rest) back ≡ true
met first rest before circle back more e c = subst (λ l. has_word l back ≡ true) (sym (ap (λ l. before ++ l) c) ∙ e) (has_middle before back more)

pub one_circle : (ts : List Table) (f g : List ℕ) (b d c e : List (List ℕ)) (s t : List ℕ → Bool) → IsAnsweredCircle ts f b c s → IsAnsweredCircle ts g d e t → c ≡ e
one_circle ts f g b d c e s t x y =
    let agree : (w : List ℕ) → s w ≡ t w = λ w. same_bool (s w) (t w) (y.cyclic.greatest s x.cyclic.reading w) (x.cyclic.greatest t y.cyclic.reading w) in
    let begin : f ≡ g = some_word f g (sym x.begins ∙ (find_same s t agree (map output_of ts) ∙ y.begins)) in
    let p = x.path in
    let q = y.path in
    let goes : GoesOn ts t g p.0 p.2.0 = subst (λ v. GoesOn ts t v p.0 p.2.0) begin (goes_same ts s t agree f p.0 p.2.0 p.2.3) in
    let onto : b ++ c ≡ g ∷ p.0 = p.1 ∙ ap (λ (v : List ℕ). v ∷ p.0) begin in
    let r = same_walk ts t (g ∷ []) g p.0 q.0 p.2.0 q.2.0 goes q.2.3
    (subst (λ l. distinct l ≡ true) onto x.once) (subst (λ l. distinct l ≡ true) q.1 y.once)
    (met g p.0 b c p.2.0 p.2.1 onto p.2.2) (met g q.0 d e q.2.0 q.2.1 q.1 q.2.2) in
    let left : b ++ p.2.0 ∷ p.2.1 ≡ g ∷ p.0 = sym (ap (λ l. b ++ l) p.2.2) ∙ onto in
    let right : d ++ p.2.0 ∷ q.2.1 ≡ g ∷ q.0 = ap (λ (v : List ℕ). d ++ v ∷ q.2.1) r.1 ∙ (sym (ap (λ l. d ++ l) q.2.2) ∙ q.1) in
    let rest : p.2.1 ≡ q.2.1 = same_split b d p.2.0 p.2.1 q.2.1 (left ∙ (ap (λ (l : List (List ℕ)). g ∷ l) r.0 ∙ sym right)) (subst (λ l. distinct (b ++ l) ≡ true) p.2.2 x.once) in
    p.2.2 ∙ (ap₂ (λ (v : List ℕ) (l : List (List ℕ)). v ∷ l) r.1 rest ∙ sym q.2.2)
