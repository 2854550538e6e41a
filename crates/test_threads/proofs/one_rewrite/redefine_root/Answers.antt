use Rattle.std.proofs.Common.{ap, ◌∙◌, refl}
use Rattle.syn_core_laws.specs.Views.{pinned, key_loaded}
use Rattle.syn_table.specs.declared.Known.{Known}
use Rattle.test_threads.specs.Rewriting.{product_made}
use Rattle.test_threads.proofs.Stages.{root_may}
use Rattle.test_threads.proofs.one_rewrite.redefine_root.Goals as goal

pub redefine-requires-clause-may : goal.redefine-requires-clause-may
redefine-requires-clause-may c =
    let pinned_is = ap (λ (k : Known). k.core) c.pin.ensures.known ∙ ap (λ v. pinned v 8) c.requires.made in
    let keyed_is = ap (λ (k : Known). k.core) c.key_of.ensures.known ∙ ap (λ v. key_loaded v 6 c.key_of.result) pinned_is in
    root_may _ _ (keyed_is ∙ ap (key_loaded (pinned product_made 8) 6) c.if-key_of-ne8589934592.false) refl
