-- Literals of a LUT net's signals, by those of its rows.
use Rattle.std.specs.Prelude.{◌%◌, ◌==◌, if◌then◌else◌, List}
use Rattle.syn_rows.specs.declared.Lit.{Lit}
use Rattle.syn_rows.specs.Joining.{complement}
use Rattle.syn_rows.specs.Rows.{node_of}
use Rattle.syn_hashed.specs.Hashed.{lit_at}

-- the literal that a literal of a signal stands for, by those of the signals
abbrev pub signed_by : List Lit → Lit → Lit
signed_by signals l = if l.0 % 2 == 0 then lit_at signals (node_of l) else complement (lit_at signals (node_of l))
