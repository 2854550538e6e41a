use Rattle.std.proofs.Common.{length, List, Some, map, sym, ap, ◌∙◌}
use Rattle.std.specs.List.{list_all}
use Rattle.syn_models.specs.Kept.{model_of, statement_in, statements_below}
use Rattle.syn_models.specs.Models as models
use Rattle.syn_reader.specs.Gathers.{may_stand}
use Rattle.syn_reader.proofs.Finishing.{alone_once, gathered_faultless, gathered_said, held_no_nil, held_once, held_spelled}
use Rattle.syn_reader.proofs.models.finish.Goals as goal

pub invariant_of-result : goal.invariant_of-result
invariant_of-result c =
    let g = c.args.gathering in
    let names = g.signals.names in
    let items = c.of-statements.result in
    let said = ap (map (statement_in names)) c.of-statements.ensures in
    let held = ap (list_all may_stand) said ∙ c.requires.sound.held in
    let out = map (statement_in names) items in
    let gathered = c.requires.gathered in
    record {
      name_is_word = c.requires.word;
      spelled = held_spelled out held;
      below = ap (statements_below (length names)) c.of-statements.ensures ∙ c.requires.sound.below;
      no_nil = held_no_nil out held;
      formals_once = held_once out held;
      once = alone_once gathered.0 gathered.1 (model_of names c.args.name items g.words) (gathered_faultless gathered.0 gathered.1 g gathered.2) (gathered_said gathered.0 gathered.1 g gathered.2 ∙ ap (λ (l : List models.Statement). Some l) (sym said));
      counted = gathered.2.few;
    }
