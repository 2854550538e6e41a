use Rattle.std.specs.Map.{lookup}
use Rattle.std.proofs.Common.{nat_eq, refl, ap}
use Rattle.syn_aiger.proofs.Placed.{first_places}
use Rattle.syn_aiger.proofs.places.Places.first.Goals as goal

pub returns : goal.returns
returns c = first_places _ c.args.count refl refl (λ v. ap (lookup (nat_eq v)) c.new.ensures.empty)
