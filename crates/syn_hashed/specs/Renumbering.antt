-- Hashed rows made again in another order: each visited node has a node of its own, so no pair is looked up.
use Rattle.std.specs.Prelude.{◌≡◌, ℕ, ◌*◌, ◌<◌, List, length, Option, Some}
use Rattle.syn_rows.specs.declared.Lit.{Lit}
use Rattle.syn_rows.specs.declared.Row.{Row}
use Rattle.syn_rows.specs.declared.Row.TheVariants.{And}
use Rattle.syn_rows.specs.Rows.{node_of, row_at}
use Rattle.syn_rows.specs.Joining.{lit_of, ordered_and}
use Rattle.syn_hashed.specs.Hashed.{IsHashed}
use Rattle.syn_hashed.specs.Visiting.{visited, literal_of, IsVisit}

-- the node is the AND of a and b, and the row of the literal that stands for it is that of the literals x and y that stand for these
pub record IsMoved (rows : List Row) (literals : List (Option Lit)) (new : List Row) (n : ℕ) (l : Lit) : Type 0 where
  pub a : Lit
  pub b : Lit
  pub x : Lit
  pub y : Lit
  pub is : row_at rows n ≡ And a b
  pub first : literal_of literals a ≡ Some x
  pub second : literal_of literals b ≡ Some y
  pub row : row_at new (node_of l) ≡ ordered_and x y

-- Nodes of hashed rows are visited and renumbered: a plain literal stands for each, no two have the same new node, the row of a visited AND moved, and each new row but the sources' is one that moved.
pub record IsRenumbering (count : ℕ) (rows : List Row) (literals : List (Option Lit)) (new : List Row) : Type 0 where
  pub old : IsHashed count rows
  pub hashed : IsHashed count new
  pub visit : IsVisit count rows literals new
  pub plain : (n : ℕ) (l : Lit) → visited literals n ≡ Some l → l.0 ≡ 2 * node_of l
  pub alone : (m n : ℕ) (k l : Lit) → visited literals m ≡ Some k → visited literals n ≡ Some l → node_of k ≡ node_of l → m ≡ n
  pub moved : (n : ℕ) (l : Lit) → count < n → visited literals n ≡ Some l → IsMoved rows literals new n l
  pub from : (k : ℕ) → count < k → k < length new → (n : ℕ) × (count < n) × (visited literals n ≡ Some (lit_of k))
