use Rattle.syn_npn.proofs.Listing.{each_permutation}
use Rattle.syn_npn.proofs.laws.each_permutation.Goals as goal

pub returns : goal.returns
returns c = each_permutation
