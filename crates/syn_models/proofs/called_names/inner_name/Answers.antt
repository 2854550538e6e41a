use Rattle.std.proofs.Common.{◌≡◌, ◌++◌, decimal, ap, ◌∙◌, rules, append_assoc, List, ℕ}
use Rattle.std.proofs.lemmas.Fmt.{decimal-digits_of}
use Rattle.syn_models.specs.Flattening.{slashes}
use Rattle.syn_models.proofs.called_names.inner_name.Goals as goal

pub returns : goal.returns
returns c =
    let written : c.extend_from_slice.new.self.items ≡ (decimal c.args.k ++ slashes c.args.count) ++ c.args.name.now = search rules in
    written ∙ append_assoc (decimal c.args.k) (slashes c.args.count) c.args.name.now
    ∙ ap (λ (l : List ℕ). l ++ (slashes c.args.count ++ c.args.name.now)) (decimal-digits_of c.args.k c.requires c.ranges.k.fits)
