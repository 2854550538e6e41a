-- The command line is one whose meaning `clap` gives in full.
use Rattle.std.proofs.Common.{◌≡◌, true, refl}
use Rattle.clap.specs.Words.{is_simple, is_simple_and_free}
use Rattle.clap.proofs.OnLiterals.{clap_on_literals}
use Rattle.syn_usage.specs.CommandLine.{usage}

pub usage_is_simple : is_simple usage ≡ true
unfolding clap_on_literals
usage_is_simple = refl

pub usage_is_free : is_simple_and_free usage ≡ true
unfolding clap_on_literals
usage_is_free = refl
