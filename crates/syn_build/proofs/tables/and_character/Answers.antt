use Rattle.std.proofs.Common.{arith, ◌&&◌, ap, ◌∙◌}
use Rattle.std.proofs.lemmas.Result.{IfOk-weaker}
use Rattle.syn_rows.specs.Values.{value_in, values_of}
use Rattle.syn_hashed.specs.Growing.{IsAnd, value_by}
use Rattle.syn_build.specs.Covering.{IsFit}
use Rattle.syn_hashed.proofs.Rising.{source_value}
use Rattle.syn_build.proofs.tables.and_character.Goals as goal

pub returns-clause-value : goal.returns-clause-value
returns-clause-value c =
    IfOk-weaker c.and.result (IsAnd c.args.hashed.now.rows.items c.args.all c.fitting.result c.and.new.self.rows.items) (IsFit c.args.hashed.now.rows.items c.args.all c.args.character c.args.input c.and.new.self.rows.items)
    (λ l h given at_0.
    h given at_0 ∙ ap (λ b. value_by given c.args.hashed.now.rows.items c.args.all && b)
    (c.fitting.ensures.value (value_in (values_of given c.args.hashed.now.rows.items)) (source_value c.args.hashed.now.source_count c.args.hashed.now.rows.items c.args.hashed.now.hashed given 0 (omega arith) ∙ at_0)))
    c.and.ensures.value
