-- Rows that grow keep literals and their values.
use Rattle.std.proofs.Common.{◌≡◌, ℕ, ◌<◌, Bool, All, List, [], ◌∷◌, ◌++◌, length, map, refl, sym, ap₂, subst, arith}
use Rattle.std.proofs.lemmas.List.Elements.{All-head, All-tail, All-push, All-weaker}
use Rattle.syn_rows.specs.declared.Lit.{Lit}
use Rattle.syn_rows.specs.declared.Row.{Row}
use Rattle.syn_rows.specs.Rows.{node_of}
use Rattle.syn_hashed.specs.Growing.{Extends, value_by}
use Rattle.syn_hashed.proofs.Rising.{extends_longer, literal_kept}

pub there_kept : (old new : List Row) (lits : List Lit) → Extends old new → All (λ l. node_of l < length old) lits → All (λ l. node_of l < length new) lits
there_kept old new lits e h = All-weaker (λ l. node_of l < length old) (λ l. node_of l < length new) (λ l lt. let longer = extends_longer old new e in omega arith) lits h

pub there_pushed : (old new : List Row) (lits after : List Lit) (l : Lit) → Extends old new → All (λ l. node_of l < length old) lits → node_of l < length new → after ≡ lits ++ l ∷ [] → All (λ l. node_of l < length new) after
there_pushed old new lits after l grown there here e =
    subst (λ (ls : List Lit). All (λ m. node_of m < length new) ls) (sym e) (All-push (λ m. node_of m < length new) lits l (there_kept old new lits grown there) here)

pub values_kept : (given : ℕ → Bool) (old new : List Row) → Extends old new → (lits : List Lit) → All (λ l. node_of l < length old) lits → map (value_by given new) lits ≡ map (value_by given old) lits
values_kept given old new e [] h = refl
values_kept given old new e (l ∷ ls) h =
    ap₂ (λ (b : Bool) (bs : List Bool). b ∷ bs) (literal_kept given old new e l (All-head (λ m. node_of m < length old) l ls h))
    (values_kept given old new e ls (All-tail (λ m. node_of m < length old) l ls h))
