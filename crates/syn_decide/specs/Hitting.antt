-- Hits, as a commit finds them: gate by gate, in order.
use Rattle.std.specs.Prelude.{◌≡◌, ℕ, false, true, List, [], ◌∷◌, ◌++◌, None}
use Rattle.syn_rows.specs.declared.Lit.{Lit}
use Rattle.syn_plan.specs.declared.PLit.{PLit}
use Rattle.syn_decide.specs.declared.decisions.NodeRow.{NodeRow}
use Rattle.syn_rows.specs.Joining.{ordered_and, simple_and}
use Rattle.syn_gain.specs.Placing.{Placed, literal_for, literal_met, place_gates}
use Rattle.syn_decide.specs.Hints.{first_new, is_asked, is_new_gate, literal_hit}

-- the gates, one by one, with these hits
abbrev pub after_gates : List NodeRow → Placed → List (PLit × PLit) → Placed
after_gates hits s gates = place_gates (literal_hit hits) first_new s gates

-- A hit for a pair that no gate so far has leaves these gates as they are: so gates may be placed one by one, and hints tried for each in turn.
abbrev pub HitsLeaveEarlierGates : Type 0
HitsLeaveEarlierGates = (hits : List NodeRow) (s : Placed) (gates : List (PLit × PLit)) (x y : Lit) (n : ℕ)
    → literal_met (after_gates hits s gates).met x y ≡ None
    → after_gates (hits ++ record { node = n; row = ordered_and x y } ∷ []) s gates ≡ after_gates hits s gates

-- a hint may be tried for the pair of a gate: it isn't trivial and was not met, neither literal is a new gate's, and no hit has it yet
pub record IsOpen (hits : List NodeRow) (s : Placed) (x y : Lit) : Type 0 where
  pub not_simple : simple_and x y ≡ None
  pub not_met : literal_met s.met x y ≡ None
  pub first_old : is_new_gate x ≡ false
  pub second_old : is_new_gate y ≡ false
  pub no_hit : literal_hit hits x y ≡ None

-- For such a gate, whatever gates follow, the row of its pair is asked for: the key behind it fits.
abbrev pub OpenGatesAsk : Type 0
OpenGatesAsk = (hits : List NodeRow) (s : Placed) (gate : PLit × PLit) (gates : List (PLit × PLit))
    → IsOpen hits s (literal_for s.literals gate.0) (literal_for s.literals gate.1)
    → is_asked (after_gates hits s (gate ∷ gates)).extra (ordered_and (literal_for s.literals gate.0) (literal_for s.literals gate.1)) ≡ true
