use Rattle.std.proofs.Common.{◌≡◌, ◌++◌, ◌∷◌, [], rules}
use Rattle.syn_models.proofs.Slashes.{slashes_more}
use Rattle.syn_models.proofs.called_names.push_slashes.Goals as goal

pub loop-preserved : goal.loop-preserved
loop-preserved c =
    let e : c.push.new.self.items ≡ c.loop.name.items ++ 47 ∷ [] = search rules in
    slashes_more c.push.new.self.items c.loop.name.items c.args.name.now.items c.loop.counter e c.loop.invariant
