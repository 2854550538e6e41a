use Rattle.std.proofs.Common.{◌≡◌}
use Rattle.syn_npn.specs.Images.{number_of}
use Rattle.syn_npn.specs.Values.{image_value}
use Rattle.syn_npn.proofs.classes.image.Given as goal

abbrev pub invariant-loop-minterm : goal.invariant-loop-minterm
invariant-loop-minterm l = l.image ≡ number_of l.minterm (image_value l.transform.perm l.transform.flips l.transform.neg l.function)
