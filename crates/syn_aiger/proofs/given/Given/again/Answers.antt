use Rattle.std.proofs.Common.{List, ℕ, slice_index, refl, ap}
use Rattle.syn_aiger.proofs.Giving.{given_again}
use Rattle.syn_aiger.proofs.given.Given.again.Goals as goal

pub returns-clause-keeps : goal.returns-clause-keeps
returns-clause-keeps c given n k lt at =
    given_again c.args.self.now _ given n c.args.s _ k lt at c.requires (ap (λ (ns : List ℕ). slice_index ns c.args.s) c.as_slice.ensures.value) refl refl c.in_ok-push.ensures.items
