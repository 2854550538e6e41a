-- The steps of the walk: what the masks exchange, and how the minterm that is read changes.
use Rattle.std.proofs.Common.{ℕ, zero, suc, ◌+◌, ◌*◌, ◌-◌, ◌&&◌, inl, inr, ◌%◌, ◌/◌, ◌^◌, ◌<◌, ◌≡◌, Bool, true, false, nat_lt, refl, sym, ap, ◌∙◌, arith, get_or, List}
use Rattle.std.specs.Prelude.{◌==◌, ◌⊎◌, not, if◌then◌else◌}
use Rattle.std.proofs.lemmas.Bool.{and_parts, eqb-true, ltb-true}
use Rattle.std.proofs.lemmas.Bool.Decides.{nat_tests}
use Rattle.std.proofs.lemmas.Nat.Bits.{bit_at-lt, bit_at_not}
use Rattle.std.specs.Int.{bit_at, w16}
use Rattle.syn_npn.specs.declared.walk.TheConstants.{EQUAL, LOWER, PLAIN}
use Rattle.syn_npn.specs.Images.{differ, value_at, read_at}
use Rattle.syn_npn.specs.Permutations.{IsKey, image_at, key_at, permutation_at}
use Rattle.syn_npn.specs.Values.{image_by}
use Rattle.syn_npn.specs.Walk.{exchange, exchange_at, toggle, walk_at}
use Rattle.syn_npn.proofs.Imaging.{image_by-lt, value_at-image_by}
use Rattle.syn_npn.proofs.Numbers.{number_of-lt, same_from_values}
use Rattle.syn_npn.proofs.Moving.{moved_value, moved_value-each}
use Rattle.syn_npn.proofs.Computed.{every, every_at}

pub exchange-by_masks : (i m : ℕ) → i < 3 → m < 16 → (table : ℕ) → moved_value table (get_or EQUAL i 0) (get_or LOWER i 0) (2 ^ i) m ≡ value_at table (exchange i m)
unfolding exchange
exchange-by_masks = moved_value-each 3 (λ i. get_or EQUAL i 0) (λ i. get_or LOWER i 0) exchange refl

pub toggle-by_masks : (i m : ℕ) → i < 4 → m < 16 → (table : ℕ) → moved_value table 0 (get_or PLAIN i 0) (2 ^ i) m ≡ value_at table (toggle i m)
unfolding toggle
toggle-by_masks = moved_value-each 4 (λ _. 0) (λ i. get_or PLAIN i 0) toggle refl

exchange-lt : (i m : ℕ) → exchange i m < 16
unfolding exchange
exchange-lt i m = number_of-lt 4 (λ j. value_at m (if j == i then i + 1 else (if j == i + 1 then i else j)))

-- the flips of the variables below i
pub read_at-none : (m : ℕ) → m < 16 → read_at (permutation_at 0) 0 m ≡ m
unfolding read_at permutation_at
read_at-none m h = eqb-true _ m (every_at 16 (λ m. read_at (permutation_at 0) 0 m == m) refl m h)

abbrev reads_flip : ℕ → ℕ → ℕ → Bool
reads_flip i flips m = read_at (permutation_at 0) (flips % 2 ^ (i + 1)) m == read_at (permutation_at 0) (flips % 2 ^ i) (if value_at flips i then toggle i m else m)

pub read_at-flip : (i flips m : ℕ) → i < 4 → flips < 16 → m < 16 → read_at (permutation_at 0) (flips % 2 ^ (i + 1)) m ≡ read_at (permutation_at 0) (flips % 2 ^ i) (if value_at flips i then toggle i m else m)
unfolding read_at permutation_at toggle
read_at-flip i flips m h k l =
    eqb-true _ _ (every_at 16 (λ e. reads_flip i flips e) (every_at 16 (λ b. every 16 (λ e. reads_flip i b e)) (every_at 4 (λ a. every 16 (λ b. every 16 (λ e. reads_flip a b e))) refl i h) flips k) m l)

-- the permutation at a turn, where the last is followed by the first
abbrev pub perm_of_turn : ℕ → List ℕ
perm_of_turn turn = permutation_at (walk_at (turn % 24))

abbrev reads_turn : ℕ → ℕ → ℕ → Bool
reads_turn turn flips m = read_at (perm_of_turn (turn + 1)) flips m == read_at (perm_of_turn turn) flips (exchange (exchange_at turn) m)

pub read_at-turn : (turn flips m : ℕ) → turn < 24 → flips < 16 → m < 16 → read_at (perm_of_turn (turn + 1)) flips m ≡ read_at (perm_of_turn turn) flips (exchange (exchange_at turn) m)
unfolding read_at permutation_at exchange walk_at exchange_at
read_at-turn turn flips m h k l =
    eqb-true _ _ (every_at 16 (λ e. reads_turn turn flips e) (every_at 16 (λ b. every 16 (λ e. reads_turn turn b e)) (every_at 24 (λ a. every 16 (λ b. every 16 (λ e. reads_turn a b e))) refl turn h) flips k) m l)

-- the image at the next turn
pub image_by-turn : (f turn flips image next : ℕ) → turn < 24 → flips < 16 → next < 2 ^ 16 → image ≡ image_by (perm_of_turn turn) flips false f → ((m : ℕ) → m < 16 → value_at next m ≡ value_at image (exchange (exchange_at turn) m)) → next ≡ image_by (perm_of_turn (turn + 1)) flips false f
image_by-turn f turn flips image next h k l is steps =
    same_from_values next (image_by (perm_of_turn (turn + 1)) flips false f) l (image_by-lt (perm_of_turn (turn + 1)) flips false f)
    (λ m e.
    let from = exchange (exchange_at turn) m in
    steps m e
    ∙ ap (λ g. value_at g from) is
    ∙ value_at-image_by (perm_of_turn turn) flips false f from (exchange-lt (exchange_at turn) m)
    ∙ ap (value_at f) (sym (read_at-turn turn flips m h k e))
    ∙ sym (value_at-image_by (perm_of_turn (turn + 1)) flips false f m e))

-- a turn has each permutation
turn_of : ℕ → ℕ → ℕ
turn_of zero perm = 0
turn_of (suc n) perm = if walk_at n == perm then n else turn_of n perm

pub turn_of_permutation : (perm : ℕ) → perm < 24 → (turn : ℕ) × (turn < 24) × (walk_at turn ≡ perm)
unfolding turn_of walk_at
turn_of_permutation perm h =
    let both = and_parts (nat_lt (turn_of 24 perm) 24) (walk_at (turn_of 24 perm) == perm) (every_at 24 (λ p. nat_lt (turn_of 24 p) 24 && walk_at (turn_of 24 p) == p) refl perm h) in
    (turn_of 24 perm, ltb-true (turn_of 24 perm) 24 both.0, eqb-true (walk_at (turn_of 24 perm)) perm both.1)

opposite : (b : ℕ) → b < 2 → (1 - b == 1) ≡ not (b == 1)
opposite b h = grind (arith, nat_tests)

-- the negated image is the complement
pub image_by-negated : (perm : List ℕ) (flips f : ℕ) → 2 ^ 16 - 1 - image_by perm flips false f ≡ image_by perm flips true f
image_by-negated perm flips f =
    let g = image_by perm flips false f in
    let small = image_by-lt perm flips false f in
    same_from_values (2 ^ 16 - 1 - g) (image_by perm flips true f) (omega arith) (image_by-lt perm flips true f)
    (λ m h.
    ap (λ x. x == 1) (bit_at_not w16 g m small h)
    ∙ opposite (bit_at g m) (bit_at-lt g m)
    ∙ ap not (value_at-image_by perm flips false f m h)
    ∙ sym (value_at-image_by perm flips true f m h))

pub key_at-plain : (f perm flips : ℕ) → perm < 24 → flips < 16 → image_by (permutation_at perm) flips false f * 1024 + (perm * 16 + flips) ≡ key_at f (perm * 16 + flips)
unfolding key_at
key_at-plain f perm flips h k =
    let place = perm * 16 + flips in
    let row : place / 16 % 24 ≡ perm = omega arith in
    let column : place % 16 ≡ flips = omega arith in
    let top : place / 384 ≡ 0 = omega arith in
    let sign : (place / 384 == 1) ≡ false = ap (λ x. x == 1) top in
    let same : image_by (permutation_at perm) flips false f ≡ image_at f place = cc in
    ap (λ x. x * 1024 + place) same

pub key_at-negated : (f perm flips : ℕ) → perm < 24 → flips < 16 → image_by (permutation_at perm) flips true f * 1024 + (perm * 16 + flips + 384) ≡ key_at f (perm * 16 + flips + 384)
unfolding key_at
key_at-negated f perm flips h k =
    let place = perm * 16 + flips + 384 in
    let row : place / 16 % 24 ≡ perm = omega arith in
    let column : place % 16 ≡ flips = omega arith in
    let top : place / 384 ≡ 1 = omega arith in
    let sign : (place / 384 == 1) ≡ true = ap (λ x. x == 1) top in
    let same : image_by (permutation_at perm) flips true f ≡ image_at f place = cc in
    ap (λ x. x * 1024 + place) same

pub IsKey-either : (f a b key place : ℕ) → IsKey f a → place < 768 → key ≡ key_at f place → (b ≡ a) ⊎ (b ≡ key) → IsKey f b
IsKey-either f a b key place (p, h, e) l is (inl q) = (p, h, q ∙ e)
IsKey-either f a b key place _ l is (inr q) = (place, l, q ∙ is)

toggle-lt : (i m : ℕ) → toggle i m < 16
unfolding toggle
toggle-lt i m = number_of-lt 4 (λ j. differ (j == i) (value_at m j))

pub flipped-lt : (b : Bool) (i m : ℕ) → m < 16 → (if b then toggle i m else m) < 16
flipped-lt true i m h = toggle-lt i m
flipped-lt false i m h = h

pub perm_of_turn-is : (turn : ℕ) → turn < 24 → perm_of_turn turn ≡ permutation_at (walk_at turn)
perm_of_turn-is turn h =
    let same : turn % 24 ≡ turn = omega arith in
    ap (λ t. permutation_at (walk_at t)) same

-- the keys of the image at a turn and of its complement
pub key_at-turn : (f turn flips image at : ℕ) → turn < 24 → at < 24 → flips < 16 → at ≡ walk_at turn → image ≡ image_by (perm_of_turn turn) flips false f → image * 1024 + (at * 16 + flips) ≡ key_at f (at * 16 + flips)
key_at-turn f turn flips image at h k l e is =
    let same = is ∙ ap (λ p. image_by p flips false f) (perm_of_turn-is turn h ∙ ap permutation_at (sym e)) in
    ap (λ g. g * 1024 + (at * 16 + flips)) same ∙ key_at-plain f at flips k l

pub key_at-turn_negated : (f turn flips image at : ℕ) → turn < 24 → at < 24 → flips < 16 → at ≡ walk_at turn → image ≡ image_by (perm_of_turn turn) flips false f → (2 ^ 16 - 1 - image) * 1024 + (at * 16 + flips + 384) ≡ key_at f (at * 16 + flips + 384)
key_at-turn_negated f turn flips image at h k l e is =
    let same = is ∙ ap (λ p. image_by p flips false f) (perm_of_turn-is turn h ∙ ap permutation_at (sym e)) in
    let negated = ap (λ g. 2 ^ 16 - 1 - g) same ∙ image_by-negated (permutation_at at) flips f in
    ap (λ g. g * 1024 + (at * 16 + flips + 384)) negated ∙ key_at-negated f at flips k l

pub walk_at-start : walk_at 0 ≡ 0
unfolding walk_at
walk_at-start = refl
