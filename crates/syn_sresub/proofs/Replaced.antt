-- ANDs in place of a literal that has their value.
use Rattle.std.proofs.Common.{◌≡◌, Option, Some, None, IfSome, IsSomeAnd, ℕ, ◌+◌, ◌-◌, ◌%◌, ◌<◌, nat_eq, not, if◌then◌else◌, Bool, true, false, List, length, refl, sym, ap, ◌∙◌, subst, arith}
use Rattle.std.proofs.lemmas.Option.{IfSome_then}
use Rattle.syn_rows.specs.declared.Lit.{Lit}
use Rattle.syn_rows.specs.declared.Row.{Row}
use Rattle.syn_rows.specs.Joining.{complement}
use Rattle.syn_rows.specs.Rows.{node_of}
use Rattle.syn_rows.specs.Values.{lit_value, value_in, values_of}
use Rattle.syn_rows.proofs.JoinLaws.{complement_node, same_lit}
use Rattle.syn_sat.proofs.Opposites.{not_value}
use Rattle.syn_hashed.specs.Hashed.{IsHashed}
use Rattle.syn_hashed.specs.Growing.{Extends, IsAnd}
use Rattle.syn_hashed.proofs.Rising.{extends_longer, literal_kept}
use Rattle.syn_sresub.specs.Replacing.{IsAndOf, Replaces}
use Rattle.syn_remaking.specs.Remaking.{Stands}
use Rattle.syn_fraig.proofs.Grown.{computed_fit}

pub and_replaces : (count : ℕ) (old new : List Row) (m x y l : Lit) → IsHashed count old → IsAndOf old m x y → node_of l < length new → IsAnd old x y new l → Replaces old m new l
and_replaces count old new m x y l h same there value = record {
  there = there;
  value = λ given zero. value given zero ∙ sym (same (value_in (values_of given old)) (computed_fit count old h given zero));
}

-- the same, where there was room for the AND
pub and_found : (count : ℕ) (old new : List Row) (m x y : Lit) (found : Option Lit) → IsHashed count old → IsAndOf old m x y → IfSome found (λ l. node_of l < length new) → IfSome found (IsAnd old x y new)
    → IfSome found (Replaces old m new)
and_found count old new m x y None h same there value = tt
and_found count old new m x y (Some l) h same there value = and_replaces count old new m x y l h same there value

-- a literal in place of another, of rows that grew before
pub kept_itself : (old new : List Row) (m : Lit) → Extends old new → node_of m < length old → Replaces old m new m
kept_itself old new m e lt = record { there = (let longer = extends_longer old new e in omega (arith, longer, lt)); value = λ given zero. literal_kept given old new e m lt }

pub replaces_later : (old mid new : List Row) (m l : Lit) → Extends old mid → node_of m < length old → Replaces mid m new l → Replaces old m new l
replaces_later old mid new m l e lt r = record { there = r.there; value = λ given zero. r.value given zero ∙ literal_kept given old mid e m lt }

not_not : (b : Bool) → not (not b) ≡ b
not_not true = refl
not_not false = refl

-- and of complements
pub replaces_turned : (old new : List Row) (m not_m l not_l : Lit) → not_m.0 ≡ (if nat_eq (m.0 % 2) 0 then m.0 + 1 else m.0 - 1) → not_l.0 ≡ (if nat_eq (l.0 % 2) 0 then l.0 + 1 else l.0 - 1) → Replaces old not_m new l → Replaces old m new not_l
replaces_turned old new m not_m l not_l dm dl r = record {
  there = subst (λ (x : Lit). node_of x < length new) (sym (same_lit not_l (complement l) dl)) (subst (λ (k : ℕ). k < length new) (sym (complement_node l)) r.there);
  value = λ given zero.
      not_value (value_in (values_of given new)) l not_l dl
      ∙ ap not (r.value given zero ∙ not_value (value_in (values_of given old)) m not_m dm)
      ∙ not_not (lit_value (value_in (values_of given old)) m);
}

-- what was found, after rows that grew before
pub found_later : (old mid new : List Row) (m : Lit) (found : Option Lit) → Extends old mid → node_of m < length old → IfSome found (Replaces mid m new) → IfSome found (Replaces old m new)
found_later old mid new m found e lt h = IfSome_then found h (λ l r. replaces_later old mid new m l e lt r)

-- and its complement in place of the complement
pub found_turned : (old mid new : List Row) (m not_m : Lit) (found turned : Option Lit) → Extends old mid → node_of m < length old → not_m.0 ≡ (if nat_eq (m.0 % 2) 0 then m.0 + 1 else m.0 - 1)
    → IfSome turned (λ n. IsSomeAnd found (λ l. n.0 ≡ (if nat_eq (l.0 % 2) 0 then l.0 + 1 else l.0 - 1))) → IfSome found (Replaces mid not_m new) → IfSome turned (Replaces old m new)
found_turned old mid new m not_m found None e lt d is h = tt
found_turned old mid new m not_m None (Some n) e lt d is h = absurd is
found_turned old mid new m not_m (Some l) (Some n) e lt d is h = replaces_later old mid new m n e lt (replaces_turned mid new m not_m l n d is h)

-- what stands for an old node, replaced, stands for it
pub stands_replaced : (rows mid new : List Row) (n : ℕ) (m l : Lit) → Stands rows mid n m → Replaces mid m new l → Stands rows new n l
stands_replaced rows mid new n m l s r = record { there = r.there; value = λ given zero. r.value given zero ∙ s.value given zero }
