use Rattle.std.proofs.Common.{◌<◌, length, arith}
use Rattle.syn_aiger.proofs.Feeding.{places_more}
use Rattle.syn_aiger.proofs.names.name_places.Goals as goal

pub loop-i-preserved : goal.loop-i-preserved
loop-i-preserved c =
    let inside : c.loop-i.i < length c.args.literals.now = omega arith in
    record {
      few = omega (arith, c.in_ok-name.ensures.few, c.loop-i.invariant.few);
      keeps = λ known k.
          let m = c.loop-i.invariant.keeps known k in
          places_more _ c.args.keeps c.args.symbols.now c.args.place c.loop-i.i c.args.literals.now c.in_ok-first.first.items m.0 _ inside c.in_ok-first.ensures.name m.2 (c.in_ok-name.ensures.keeps m.0 m.1);
    }
