-- Subcircuits as the reader meets them.
use Rattle.std.specs.Prelude.{ℕ, ◌&&◌, not, Bool, List, map, bytes_eq}
use Rattle.syn_models.specs.Models.{Bind, Subcircuit}
use Rattle.syn_netlist.specs.Words.{is_word}
use Rattle.syn_reader.specs.Shapes.{nil_control}
use Rattle.syn_reader.specs.declared.subcircuits.BindLine.{BindLine}
use Rattle.syn_reader.specs.declared.subcircuits.SubcktLine.{SubcktLine}

-- the bind of a line's word
abbrev pub bind_in_line : BindLine → Bind
bind_in_line bind = record { formal = bind.formal.now; actual = bind.actual.now }

-- the sides of a bind are words, and its actual isn't `NIL`
abbrev pub are_bind_words : BindLine → Bool
are_bind_words bind = is_word bind.formal.now && (is_word bind.actual.now && not (bytes_eq nil_control bind.actual.now))

-- the subcircuit of a line
abbrev pub subcircuit_in_line : SubcktLine → Subcircuit
subcircuit_in_line c = record { model = c.model.now; binds = map bind_in_line c.binds.items }

abbrev pub formal_in_line : BindLine → List ℕ
formal_in_line bind = bind.formal.now

abbrev pub actual_in_line : BindLine → List ℕ
actual_in_line bind = bind.actual.now
