use Rattle.std.proofs.Common.{arith}
use Rattle.std.proofs.lemmas.List.{length-map}
use Rattle.syn_netlist.specs.Numbers.{word_at, words_at}
use Rattle.syn_compare.proofs.Placed.{place_is}
use Rattle.syn_compare.proofs.places.Index.place_of.Goals as goal

pub returns-clause-place : goal.returns-clause-place
returns-clause-place c =
    let own = c.args.self.now in
    place_is (words_at own.names.now own.numbers.now) c.args.word.now c.place.result c.in-Some.place c.requires.once c.place.ensures c.in-Some.is

pub returns-clause-below : goal.returns-clause-below
returns-clause-below c =
    let own = c.args.self.now in
    let at = c.place.ensures.there c.in-Some.place c.in-Some.is in
    omega (arith, at.0, length-map own.numbers.now (word_at own.names.now))
