use Rattle.std.proofs.Common.{◌≡◌, suc, ◌+◌, ◌++◌, ◌∷◌, [], List, false, length, get_or, rules, length-append, refl, sym, ap, ◌∙◌, subst, arith}
use Rattle.syn_netlist.specs.Numbers.{all_below}
use Rattle.syn_models.specs.declared.hierarchy.Statement.{Statement}
use Rattle.syn_models.specs.declared.hierarchy.StatementKind.{StatementKind}
use Rattle.syn_models.specs.Opening.{is_subcircuit}
use Rattle.syn_models.specs.declared.met.Level.{Level}
use Rattle.syn_models.specs.Called.{actuals_below}
use Rattle.syn_models.specs.Files.{all_in}
use Rattle.syn_models.specs.Kept.{kind_in, numbers_in}
use Rattle.syn_models.specs.Models.{model_named}
use Rattle.syn_models.specs.Walking.{IsWalk}
use Rattle.syn_models.proofs.Stepping.{actuals_are_below}
use Rattle.syn_models.proofs.Turning.{turn_ends, turn_plain, turn_enters, other_kind, sub_there, statement_below}
use Rattle.syn_models.proofs.instance_walk.turn.Goals as goal

pub returns-then-level-statements-clause-walk : goal.returns-then-level-statements-clause-walk
returns-then-level-statements-clause-walk c =
    turn_ends (all_in c.args.file.now) c.args.walked.now.main.now c.args.walked.now.instances.items c.args.walked.now.parts.items c.args.levels.now.items c.args.level (omega (arith, ap length c.as_slice-statements.ensures)) c.requires.walk

pub inside_named-inside-requires-clause-there : goal.inside_named-inside-requires-clause-there
inside_named-inside-requires-clause-there c = λ none.
    sub_there (all_in c.args.file.now) c.args.walked.now.main.now c.args.walked.now.instances.items c.args.walked.now.parts.items c.args.levels.now.items c.args.level c.index-statements-level.result c.in-Subckt.c
    (omega (arith, ap length c.as_slice-statements.ensures)) (c.index-statements-level.is ∙ ap (λ (xs : List Statement). get_or xs c.args.level.at c.index-statements-level.result) c.as_slice-statements.ensures)
    (ap (λ (s : Statement). s.kind) c.index-statements-level.is ∙ c.in-Subckt.is) c.requires.walk (ap (model_named (all_in c.args.file.now)) (sym c.as_slice.ensures) ∙ none)

pub met_instance-instance-requires : goal.met_instance-instance-requires
met_instance-instance-requires c =
    let home = c.args.level.place.home.now in
    let below = statement_below (length home.names) home.statements c.args.level.at c.index-statements-level.result home.below (omega (arith, ap length c.as_slice-statements.ensures)) (c.index-statements-level.is ∙ ap (λ (xs : List Statement). get_or xs c.args.level.at c.index-statements-level.result) c.as_slice-statements.ensures) in
    ap (actuals_below (length home.names)) c.as_slice-in-Subckt.ensures ∙ sym (actuals_are_below (length home.names) c.in-Subckt.c.binds) ∙ sym (ap (λ (k : StatementKind). all_below (length home.names) (numbers_in k)) (ap (λ (s : Statement). s.kind) c.index-statements-level.is ∙ c.in-Subckt.is)) ∙ below

pub returns-in_ok-push-in-Subckt-2-clause-walk : goal.returns-in_ok-push-in-Subckt-2-clause-walk
returns-in_ok-push-in-Subckt-2-clause-walk c =
    let k : Level = record { place = c.args.level.place; at = c.args.level.at + 1 } in
    let n : Level = record { place = record { number = c.len-number.result; home = c.inside_named-inside.result }; at = 0 } in
    let s : Statement = c.index-statements-level.result in
    let levels : c.push-in-Subckt-2.new.self.items ≡ (c.args.levels.now.items ++ k ∷ []) ++ n ∷ [] = search rules in
    let met : c.push-in-Subckt.new.self.items ≡ c.args.walked.now.instances.items ++ c.met_instance-instance.result ∷ [] = search rules in
    let number : c.len-number.result ≡ suc (length c.args.walked.now.instances.items) = (let l : c.len-number.result ≡ length c.push-in-Subckt.new.self.items = search rules in omega (arith, l, ap length met, length-append c.args.walked.now.instances.items (c.met_instance-instance.result ∷ []))) in
    subst (IsWalk (all_in c.args.file.now) c.args.walked.now.main.now c.push-in-Subckt.new.self.items c.args.walked.now.parts.items) (sym levels)
    (turn_enters (all_in c.args.file.now) c.args.walked.now.main.now c.inside_named-inside.result.now c.args.walked.now.instances.items c.push-in-Subckt.new.self.items c.args.walked.now.parts.items c.args.levels.now.items c.args.level k n s c.in-Subckt.c c.met_instance-instance.result
    refl refl (omega (arith, ap length c.as_slice-statements.ensures)) (c.index-statements-level.is ∙ ap (λ (xs : List Statement). get_or xs c.args.level.at c.index-statements-level.result) c.as_slice-statements.ensures)
    (ap (λ (s : Statement). s.kind) c.index-statements-level.is ∙ c.in-Subckt.is)
    (ap (model_named (all_in c.args.file.now)) (sym c.as_slice.ensures) ∙ c.inside_named-inside.ensures) c.met_instance-instance.ensures.outer (c.met_instance-instance.ensures.binds ∙ c.as_slice-in-Subckt.ensures) c.met_instance-instance.ensures.inside
    number refl refl met c.requires.walk)

pub met_part-requires : goal.met_part-requires
met_part-requires c =
    let home = c.args.level.place.home.now in
    ap (λ (s : Statement). all_below (length home.names) (numbers_in s.kind)) (sym c.index-statements-level.is)
    ∙ statement_below (length home.names) home.statements c.args.level.at c.index-statements-level.result home.below (omega (arith, ap length c.as_slice-statements.ensures)) (c.index-statements-level.is ∙ ap (λ (xs : List Statement). get_or xs c.args.level.at c.index-statements-level.result) c.as_slice-statements.ensures)

pub returns-in_ok-push-in-Inputs-clause-walk : goal.returns-in_ok-push-in-Inputs-clause-walk
returns-in_ok-push-in-Inputs-clause-walk c =
    let k : Level = record { place = c.args.level.place; at = c.args.level.at + 1 } in
    let s : Statement = c.index-statements-level.result in
    let levels : c.push.new.self.items ≡ c.args.levels.now.items ++ k ∷ [] = search rules in
    let met : c.push-in-Inputs.new.self.items ≡ c.args.walked.now.parts.items ++ c.met_part.result ∷ [] = search rules in
    let kind : (get_or c.as_slice-statements.result.now c.args.level.at c.index-statements-level.result).kind ≡ s.kind = ap (λ (s : Statement). s.kind) (sym c.index-statements-level.is) in
    let plain : is_subcircuit (kind_in c.args.level.place.home.now.names s.kind) ≡ false =
    ap (λ (k : StatementKind). is_subcircuit (kind_in c.args.level.place.home.now.names k)) (sym kind) ∙ other_kind c.args.level.place.home.now.names (get_or c.as_slice-statements.result.now c.args.level.at c.index-statements-level.result).kind c.in-Inputs.is in
    subst (IsWalk (all_in c.args.file.now) c.args.walked.now.main.now c.args.walked.now.instances.items c.push-in-Inputs.new.self.items) (sym levels)
    (turn_plain (all_in c.args.file.now) c.args.walked.now.main.now c.args.walked.now.instances.items c.args.walked.now.parts.items c.push-in-Inputs.new.self.items c.args.levels.now.items c.args.level k s c.met_part.result
    refl refl (omega (arith, ap length c.as_slice-statements.ensures)) (c.index-statements-level.is ∙ ap (λ (xs : List Statement). get_or xs c.args.level.at c.index-statements-level.result) c.as_slice-statements.ensures)
    plain c.met_part.ensures.place (c.met_part.ensures.kind ∙ kind) met c.requires.walk)
