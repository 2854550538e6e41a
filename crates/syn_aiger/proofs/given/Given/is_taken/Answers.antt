use Rattle.std.proofs.Common.{rules, ◌≡◌, ◌==◌, not, false, List, ℕ, Bool, slice_index, sym, ap, ◌∙◌}
use Rattle.syn_netlist.specs.Words.{has_word}
use Rattle.syn_aiger.specs.Keeping.{taken_by}
use Rattle.syn_aiger.proofs.Taking.{none_taken, other_taken}
use Rattle.syn_aiger.proofs.given.Given.is_taken.Goals as goal

pub returns-else-not-keeps-clause-taken : goal.returns-else-not-keeps-clause-taken
returns-else-not-keeps-clause-taken c given k =
    ap (λ (ls : List ℕ). not (slice_index ls c.in-Some.i == c.args.l)) c.as_slice.ensures.value
    ∙ sym (other_taken c.args.self.now given k c.args.l c.args.name.now c.in-Some.i c.in-Some.ensures.some.0 c.in-Some.ensures.some.1)
    ∙ ap (λ (b : Bool). taken_by b c.args.l given c.args.name.now) (sym c.if-not-keeps.false)

pub returns-in-None-clause-taken : goal.returns-in-None-clause-taken
returns-in-None-clause-taken c given k =
    let new : has_word c.args.self.now.names c.args.name.now ≡ false = search rules in
    sym (none_taken c.args.self.now given k c.args.l c.args.name.now c.args.keeps new)
