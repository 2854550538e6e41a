use Rattle.std.proofs.Common.{refl}
use Rattle.syn_network.proofs.Observing.{not_there}
use Rattle.syn_compare.proofs.places.Index.place.Goals as goal

pub returns-in-None : goal.returns-in-None
returns-in-None c =
    let own = c.args.self.now in
    record {
      there = λ p e. absurd (cc);
      none = λ e. not_there own.names.now own.numbers.now c.args.word.now own.below (c.in-None.ensures.none.0 refl);
    }
