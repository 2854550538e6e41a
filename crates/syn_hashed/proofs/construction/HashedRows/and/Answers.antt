use Rattle.std.proofs.Common.{◌≡◌, rules, arith, ◌∙◌, List, IfOk, OnOk, subst}
use Rattle.syn_rows.specs.declared.Lit.{Lit}
use Rattle.syn_rows.specs.declared.Row.{Row}
use Rattle.syn_rows.proofs.JoinLaws.{none_needs}
use Rattle.syn_hashed.proofs.Looking.{joined_turned}
use Rattle.syn_rows.specs.Values.{value_in, values_of}
use Rattle.syn_hashed.proofs.Rising.{source_value}
use Rattle.syn_hashed.proofs.construction.HashedRows.and.Goals as goal

pub returns-in-Some-clause-value : goal.returns-in-Some-clause-value
returns-in-Some-clause-value c = λ given at_0.
    c.in-Some.ensures.value (value_in (values_of given c.args.self.now.rows.items))
    (source_value c.args.self.now.source_count c.args.self.now.rows.items c.args.self.now.hashed given 0 (omega arith) ∙ at_0)

pub returns-in-None-2-clause-literal : goal.returns-in-None-2-clause-literal
returns-in-None-2-clause-literal c =
    subst (λ (t : Lit). IfOk c.gate-in-None-2.result (λ l. l ≡ t)) (joined_turned c.args.self.now.rows.items c.args.a c.args.b (none_needs c.args.a c.args.b (search rules))).0 c.gate-in-None-2.ensures.literal

pub returns-in-None-2-clause-rows : goal.returns-in-None-2-clause-rows
returns-in-None-2-clause-rows c =
    subst (λ (t : List Row). OnOk c.gate-in-None-2.result (c.gate-in-None-2.new.self.rows.items ≡ t)) (joined_turned c.args.self.now.rows.items c.args.a c.args.b (none_needs c.args.a c.args.b (search rules))).1 c.gate-in-None-2.ensures.rows
