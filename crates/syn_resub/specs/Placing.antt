-- What a form becomes in place of a node, told without its plan: whatever a divisor needs stands below the node.
use Rattle.std.specs.Prelude.{ℕ, if◌then◌else◌, Bool, List, [], length}
use Rattle.syn_rows.specs.declared.Lit.{Lit}
use Rattle.syn_rows.specs.declared.Row.{Row}
use Rattle.syn_rows.specs.Joining.{complement, constant}
use Rattle.syn_gain.specs.Placing.{root_row}
use Rattle.syn_gain.specs.Searching.{PlacedPair, placed_pair}
use Rattle.syn_resub.specs.declared.forms.Form.{Form}
use Rattle.syn_resub.specs.declared.forms.Form.TheVariants.{Constant, One, Both}

-- a literal under a sign: true complements it
abbrev pub signed_lit : Bool → Lit → Lit
signed_lit sign l = if sign then complement l else l

-- what a pair becomes, its literal under a sign
abbrev pub signed_pair : Bool → PlacedPair → PlacedPair
signed_pair sign p = record { literal = signed_lit sign p.literal; extra = p.extra }

-- The literal of a form's value, and the new rows: one for an AND of two that no row below the node is.
abbrev pub placed_form : List Row → ℕ → Form → PlacedPair
placed_form rows node (Constant x) = record { literal = signed_lit x constant; extra = [] }
placed_form rows node (One l) = record { literal = l; extra = [] }
placed_form rows node (Both l m sign) = signed_pair sign (placed_pair rows node [] l m)

-- the node's new row
abbrev pub placed_root : List Row → PlacedPair → Row
placed_root rows p = root_row (length rows) p.extra p.literal
