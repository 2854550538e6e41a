-- Numbers that are read from words.
use Rattle.std.specs.List.{list_all}
use Rattle.std.proofs.Common.{◌≡◌, ℕ, zero, suc, ◌+◌, ◌*◌, ◌-◌, ◌<◌, ◌≤◌, ◌^◌, ◌&&◌, nat_le, Bool, List, [], ◌∷◌, length, drop, get_or, option_map, Option, Some, None, refl, sym, ap, ◌∙◌, subst, arith}
use Rattle.std.proofs.Math.Nat.{pow-le-pow_right}
use Rattle.std.proofs.lemmas.Bool.{and_right, cond-false, lt-leb}
use Rattle.std.proofs.lemmas.List.{drop_more}
use Rattle.syn_aiger_files.specs.Headers.{further_left}
use Rattle.syn_aiger_files.specs.Shown.{digits_in}
use Rattle.syn_aiger_files.specs.Spelling.{header_by}
use Rattle.syn_aiger_files.specs.Texts.{and_number, is_digit, most_literal, number_of, or_none, value_from}

pub empty_number : (w : List ℕ) → length w ≡ 0 → number_of w ≡ None
empty_number [] e = refl
empty_number (b ∷ bs) e = absurd (omega arith)

pub number_is : (w : List ℕ) → 0 < length w → digits_in w ≡ number_of w
number_is [] l = absurd (omega arith)
number_is (b ∷ bs) l = refl

-- digits behind a number only raise it
value_grows : (n : ℕ) (w : List ℕ) → n ≤ value_from n w
value_grows n [] = omega arith
value_grows n (b ∷ bs) = let le = value_grows (10 * n + (b - 48)) bs in omega arith

-- a number that is too great with its next digit
pub too_great : (w : List ℕ) (i n : ℕ) → value_from n (drop i w) ≡ value_from 0 w → i < length w → most_literal < 10 * n + (get_or w i 0 - 48) → Path (Option ℕ) None (digits_in w)
too_great w i n e inside l =
    let m : ℕ = 10 * n + (get_or w i 0 - 48) in
    let on : value_from m (drop (i + 1) w) ≡ value_from 0 w = ap (value_from n) (sym (drop_more w i 0 inside)) ∙ e in
    let grows = value_grows m (drop (i + 1) w) in
    let few = lt-leb (value_from 0 w) most_literal (omega (arith, on)) in
    sym (cond-false (list_all is_digit w && nat_le (value_from 0 w) most_literal) (Some (value_from 0 w)) None (and_right (list_all is_digit w) (nat_le (value_from 0 w) most_literal) few))

-- first lines that lack numbers, by how many stand in front

abbrev pub Empty : Option (List ℕ) → Type 0
Empty o = or_none o ≡ []

pub lacks0 : (a : Bool) (o : Option (List ℕ)) → Empty o → header_by (Some a) (or_none o) ≡ None
lacks0 a o e = ap (header_by (Some a)) e

pub lacks1 : (a : Bool) (m : ℕ) (o : Option (List ℕ)) → Empty o → header_by (Some a) (or_none (and_number (Some m) o)) ≡ None
lacks1 a m None e = refl
lacks1 a m (Some []) e = refl
lacks1 a m (Some (n ∷ ns)) e = absurd (cc)

pub lacks2 : (a : Bool) (m i : ℕ) (o : Option (List ℕ)) → Empty o → header_by (Some a) (or_none (and_number (Some m) (and_number (Some i) o))) ≡ None
lacks2 a m i None e = refl
lacks2 a m i (Some []) e = refl
lacks2 a m i (Some (n ∷ ns)) e = absurd (cc)

pub lacks3 : (a : Bool) (m i l : ℕ) (o : Option (List ℕ)) → Empty o → header_by (Some a) (or_none (and_number (Some m) (and_number (Some i) (and_number (Some l) o)))) ≡ None
lacks3 a m i l None e = refl
lacks3 a m i l (Some []) e = refl
lacks3 a m i l (Some (n ∷ ns)) e = absurd (cc)

pub lacks4 : (a : Bool) (m i l p : ℕ) (o : Option (List ℕ)) → Empty o → header_by (Some a) (or_none (and_number (Some m) (and_number (Some i) (and_number (Some l) (and_number (Some p) o))))) ≡ None
lacks4 a m i l p None e = refl
lacks4 a m i l p (Some []) e = refl
lacks4 a m i l p (Some (n ∷ ns)) e = absurd (cc)

-- the numbers of a whole first line
abbrev pub five : ℕ → ℕ → ℕ → ℕ → ℕ → Option (List ℕ) → Option (List ℕ)
five m i l p n o = and_number (Some m) (and_number (Some i) (and_number (Some l) (and_number (Some p) (and_number (Some n) o))))

pub whole_line : (a : Bool) (m i l p n : ℕ) (o : Option (List ℕ)) → header_by (Some a) (or_none (five m i l p n o)) ≡ option_map (λ further. record { ascii = a; variables = m; inputs = i; latches = l; outputs = p; ands = n; further = further }) (further_left o)
whole_line a m i l p n None = refl
whole_line a m i l p n (Some ns) = refl

-- numbers in groups of seven bits, by how many groups

pub group_alone : (groups n : ℕ) → 0 < groups → n < 128 → n < 128 ^ groups
group_alone groups n some l = let e : 128 ^ 1 ≤ 128 ^ groups = pow-le-pow_right (let z : 0 < 128 = omega arith in z) some in omega arith

pub groups_few : (groups n : ℕ) → n < 128 ^ groups → groups ≤ 5 → n < 2 ^ 35
groups_few groups n h l = let e : 128 ^ groups ≤ 128 ^ 5 = pow-le-pow_right (let z : 0 < 128 = omega arith in z) l in omega arith

more_by : (groups b n : ℕ) → b < 256 → n < 128 ^ groups → b - 128 + 128 * n < 128 ^ suc groups
more_by groups b n l h = omega arith

pub group_more : (groups b n : ℕ) → 0 < groups → b < 256 → n < 128 ^ (groups - 1) → b - 128 + 128 * n < 128 ^ groups
group_more zero b n some l h = absurd (omega arith)
group_more (suc k) b n some l h = more_by k b n l (subst (λ (m : ℕ). n < 128 ^ m) (let e : suc k - 1 ≡ k = omega arith in e) h)
