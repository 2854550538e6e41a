use Rattle.std.proofs.Common.{◌≡◌, ◌∷◌, [], List, rules, refl, sym, subst}
use Rattle.syn_models.specs.declared.met.Instance.{Instance}
use Rattle.syn_models.specs.declared.met.Level.{Level}
use Rattle.syn_models.specs.declared.met.Part.{Part}
use Rattle.syn_models.specs.Files.{all_in}
use Rattle.syn_models.specs.Walking.{IsWalk}
use Rattle.syn_models.proofs.Turning.{walk_begins}
use Rattle.syn_models.proofs.instance_walk.walk.Goals as goal

pub loop-level-init : goal.loop-level-init
loop-level-init c =
    let l : Level = record { place = record { number = 0; home = c.args.main }; at = 0 } in
    let levels : c.push.new.self.items ≡ l ∷ [] = search rules in
    record {
      main = refl;
      walk = subst (IsWalk (all_in c.args.file.now) c.args.main.now c.new.result.items c.new-2.result.items) (sym levels)
          (subst (λ (ps : List Part). IsWalk (all_in c.args.file.now) c.args.main.now c.new.result.items ps (l ∷ [])) (sym c.new-2.ensures.items)
          (subst (λ (is : List Instance). IsWalk (all_in c.args.file.now) c.args.main.now is [] (l ∷ [])) (sym c.new.ensures.items)
          (walk_begins (all_in c.args.file.now) c.args.main.now l c.requires.opens.0 refl refl refl c.requires.opens.1)));
    }
