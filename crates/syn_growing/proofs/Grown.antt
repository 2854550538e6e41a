-- Growing step by step.
use Rattle.std.proofs.Common.{◌≡◌, ℕ, zero, suc, List, Option, Some, None, refl, ap}
use Rattle.syn_rows.specs.declared.Row.{Row}
use Rattle.syn_growing.specs.Growing.{ConeNodes, grown, next_leaf, or_stay, replaced}

pub grown_on : (rows : List Row) (cone : ConeNodes) (more leaf : ℕ) → next_leaf rows cone ≡ Some leaf → grown (suc more) rows cone ≡ grown more rows (replaced rows cone leaf)
unfolding grown
grown_on rows cone more leaf next = ap (or_stay cone (λ l. grown more rows (replaced rows cone l))) next

pub grown_stays : (rows : List Row) (cone : ConeNodes) (steps : ℕ) → next_leaf rows cone ≡ None → grown steps rows cone ≡ cone
unfolding grown
grown_stays rows cone zero next = refl
grown_stays rows cone (suc more) next = ap (or_stay cone (λ l. grown more rows (replaced rows cone l))) next

-- what holds of a cone, and goes on to hold where a leaf is replaced, holds of what it grows to
pub grown_keeps : (P : ConeNodes → Type 0) (rows : List Row) → ((cone : ConeNodes) (leaf : ℕ) → P cone → next_leaf rows cone ≡ Some leaf → P (replaced rows cone leaf))
    → (steps : ℕ) (cone : ConeNodes) → P cone → P (grown steps rows cone)
unfolding grown
grown_keeps P rows goes_on zero cone h = h
grown_keeps P rows goes_on (suc more) cone h = by (grown_keeps P rows goes_on more) (next_leaf rows cone) refl
  where
    by : ((c : ConeNodes) → P c → P (grown more rows c)) → (next : Option ℕ) → next_leaf rows cone ≡ next → P (or_stay cone (λ l. grown more rows (replaced rows cone l)) next)
    by ih None e = h
    by ih (Some leaf) e = ih (replaced rows cone leaf) (goes_on cone leaf h e)
