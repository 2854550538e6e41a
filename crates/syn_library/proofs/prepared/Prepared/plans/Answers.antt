use Rattle.std.proofs.Common.{◌≡◌, sym, subst, arith}
use Rattle.syn_npn.specs.Transforms.{IsCanon}
use Rattle.syn_library.proofs.Found.{class_at}
use Rattle.syn_library.proofs.prepared.Prepared.plans.Goals as goal

pub returns : goal.returns
returns c =
    let same : c.index-2.result.now.class ≡ c.canon-class.result.0 =
    class_at c.args.self.now.lists.items c.args.self.now.places.items c.args.function c.canon-class.result.0 c.index.result.now c.index-2.result.now
    (c.args.self.now.found c.args.function (omega arith)) c.canon-class.ensures.class (omega (arith, c.args.self.now.count)) c.index.ensures c.index-2.ensures in
    subst (λ k. IsCanon c.args.function k c.canon-class.result.1) (sym same) c.canon-class.ensures.canon
