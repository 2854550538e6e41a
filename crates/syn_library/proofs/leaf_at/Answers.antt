use Rattle.std.proofs.Common.{ap, arith, get_or}
use Rattle.syn_library.proofs.Leaves.{inverse-lt}
use Rattle.syn_library.proofs.leaf_at.Goals as goal

pub returns-clause-below : goal.returns-clause-below
returns-clause-below c = omega (arith, ap (λ xs. get_or xs c.args.leaf 0) c.places.ensures, inverse-lt c.args.transform.perm c.args.transform.permutes c.args.leaf c.requires)
