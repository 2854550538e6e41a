-- The rules by which two literals are joined to their AND: which pairs need no row, and the row of any other pair.
use Rattle.std.specs.Prelude.{◌≡◌, ◌↔◌, ℕ, ◌+◌, ◌-◌, ◌*◌, ◌%◌, ◌==◌, ◌&&◌, ◌||◌, nat_lt, if◌then◌else◌, IfSome, Bool, false, true, Option, Some, None}
use Rattle.syn_rows.specs.declared.Lit.{Lit}
use Rattle.syn_rows.specs.declared.Row.{Row}
use Rattle.syn_rows.specs.declared.Row.TheVariants.{Free, Source, And, Alias}
use Rattle.syn_rows.specs.Rows.{node_of}
use Rattle.syn_rows.specs.Values.{lit_value, RowFits}

-- the constant 0
abbrev pub constant : Lit
constant = record { 0 = 0 }

-- the plain literal of a node
abbrev pub lit_of : ℕ → Lit
lit_of node = record { 0 = 2 * node }

-- the literal of the same node with the other sign
abbrev pub complement : Lit → Lit
complement l = record { 0 = if l.0 % 2 == 0 then l.0 + 1 else l.0 - 1 }

-- The AND of two literals that needs no row: of equal literals that literal, of complements 0, with a 0 it is 0, with a 1 the other literal.
abbrev pub simple_and : Lit → Lit → Option Lit
simple_and x y =
    if x.0 == y.0 then Some x
    else if node_of x == node_of y then Some constant
    else if x.0 == 0 || y.0 == 0 then Some constant
    else if x.0 == 1 then Some y
    else if y.0 == 1 then Some x
    else None

-- x and y are a and b, in either order
abbrev pub same_pair : Lit → Lit → Lit → Lit → Bool
same_pair x y a b = (x.0 == a.0 && y.0 == b.0) || (x.0 == b.0 && y.0 == a.0)

-- the row is the AND of x and y, in either order
abbrev pub is_and_of : Lit → Lit → Row → Bool
is_and_of x y Free = false
is_and_of x y Source = false
is_and_of x y (And a b) = same_pair x y a b
is_and_of x y (Alias a) = false

-- the AND of two literals as a row, the smaller literal first
abbrev pub ordered_and : Lit → Lit → Row
ordered_and x y = if nat_lt x.0 y.0 then And x y else And y x

-- An AND that needs no row has the value of the two literals' AND, wherever node 0 is false.
abbrev pub SimpleAndIsAnd : Type 0
SimpleAndIsAnd = (v : ℕ → Bool) (x y : Lit) → v 0 ≡ false → IfSome (simple_and x y) (λ l. lit_value v l ≡ (lit_value v x && lit_value v y))

-- A row of two literals, in either order, fits where its node has the value of their AND, and nowhere else.
abbrev pub RowOfPairIsAnd : Type 0
RowOfPairIsAnd = (v : ℕ → Bool) (n : ℕ) (x y : Lit) (row : Row) → is_and_of x y row ≡ true → RowFits v n row ↔ (v n ≡ (lit_value v x && lit_value v y))

-- The row that is made of two literals is a row of these two.
abbrev pub OrderedAndIsRowOfPair : Type 0
OrderedAndIsRowOfPair = (x y : Lit) → is_and_of x y (ordered_and x y) ≡ true
