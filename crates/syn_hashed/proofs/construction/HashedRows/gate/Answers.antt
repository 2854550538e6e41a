use Rattle.std.proofs.Common.{◌∷◌, [], length, ◌∙◌, arith, rules}
use Rattle.syn_rows.specs.declared.Row.TheVariants.{And}
use Rattle.syn_hashed.proofs.Rising.{literals_keep}
use Rattle.syn_hashed.proofs.Joining.{found_value, made_value}
use Rattle.syn_hashed.proofs.Looking.{joined_found, joined_made}
use Rattle.syn_hashed.proofs.construction.HashedRows.gate.Goals as goal

pub returns-in-Some-clause-value : goal.returns-in-Some-clause-value
returns-in-Some-clause-value c =
    found_value c.args.self.now.source_count c.args.self.now.rows.items c.args.self.now.hashed c.in-Some.node c.args.first c.args.second c.of.result
    (search rules) (search rules) (omega (arith, c.of.ensures))

pub returns-in_ok-push-in-None-clause-value : goal.returns-in_ok-push-in-None-clause-value
returns-in_ok-push-in-None-clause-value c =
    made_value c.args.self.now.source_count c.args.self.now.rows.items c.push.new.rows.items c.args.first c.args.second c.of-in-None.result
    (c.in_ok-push-in-None.ensures.hashed c.args.self.now.source_count c.args.self.now.hashed) c.requires.gate c.in_ok-push-in-None.ensures.ok (omega (arith, c.of-in-None.ensures))

pub returns-in_ok-push-in-None-clause-kept : goal.returns-in_ok-push-in-None-clause-kept
returns-in_ok-push-in-None-clause-kept c =
    literals_keep c.args.self.now.rows.items c.push.new.rows.items (record { more = And c.args.first c.args.second ∷ []; is = c.in_ok-push-in-None.ensures.ok })

pub returns-in-Some-clause-literal : goal.returns-in-Some-clause-literal
returns-in-Some-clause-literal c =
    (joined_found c.args.self.now.source_count c.args.self.now.rows.items c.args.self.now.hashed (length c.args.self.now.rows.items) c.args.first c.args.second c.requires.gate c.in-Some.node
    (search rules) (search rules) c.of.result (omega (arith, c.of.ensures))).0

pub returns-in-Some-clause-rows : goal.returns-in-Some-clause-rows
returns-in-Some-clause-rows c =
    (joined_found c.args.self.now.source_count c.args.self.now.rows.items c.args.self.now.hashed (length c.args.self.now.rows.items) c.args.first c.args.second c.requires.gate c.in-Some.node
    (search rules) (search rules) c.of.result (omega (arith, c.of.ensures))).1

pub returns-in_ok-push-in-None-clause-literal : goal.returns-in_ok-push-in-None-clause-literal
returns-in_ok-push-in-None-clause-literal c =
    (joined_made c.args.self.now.source_count c.args.self.now.rows.items c.args.self.now.hashed (length c.args.self.now.rows.items) c.args.first c.args.second c.requires.gate
    (search rules) c.of-in-None.result (omega (arith, c.of-in-None.ensures))).0

pub returns-in_ok-push-in-None-clause-rows : goal.returns-in_ok-push-in-None-clause-rows
returns-in_ok-push-in-None-clause-rows c =
    c.in_ok-push-in-None.ensures.ok
    ∙ (joined_made c.args.self.now.source_count c.args.self.now.rows.items c.args.self.now.hashed (length c.args.self.now.rows.items) c.args.first c.args.second c.requires.gate
    (search rules) c.of-in-None.result (omega (arith, c.of-in-None.ensures))).1
