use Rattle.std.proofs.Common.{◌<◌, length, sym, subst}
use Rattle.syn_rows.specs.declared.Lit.{Lit}
use Rattle.syn_rows.specs.Rows.{node_of}
use Rattle.syn_hashed.specs.Growing.{IsAnd}
use Rattle.syn_remaking.specs.Remaking.{moved}
use Rattle.syn_remaking.proofs.Results.{both_ok}
use Rattle.syn_remaking.proofs.Standing.{fan_ins_there, joined_stands}
use Rattle.syn_remaking.proofs.joined.Goals as goal

pub and-requires-clause-first : goal.and-requires-clause-first
and-requires-clause-first c =
    let old = c.args.hashed.now in
    subst (λ (l : Lit). node_of l < length old.rows.items) (sym c.moved-first.ensures)
    (fan_ins_there old.source_count c.args.rows.now old.rows.items c.args.literals.now c.args.node c.args.a c.args.b c.requires.hashed c.requires.row c.requires.node c.requires.standing).0

pub and-requires-clause-second : goal.and-requires-clause-second
and-requires-clause-second c =
    let old = c.args.hashed.now in
    subst (λ (l : Lit). node_of l < length old.rows.items) (sym c.moved-second.ensures)
    (fan_ins_there old.source_count c.args.rows.now old.rows.items c.args.literals.now c.args.node c.args.a c.args.b c.requires.hashed c.requires.row c.requires.node c.requires.standing).1

pub returns-then-len-lt-NODE_LIMIT-clause-stands : goal.returns-then-len-lt-NODE_LIMIT-clause-stands
returns-then-len-lt-NODE_LIMIT-clause-stands c =
    let old = c.args.hashed.now in
    let new = c.and.new.self in
    both_ok c.and.result
    (λ l there value.
    joined_stands old.source_count c.args.rows.now old.rows.items new.rows.items c.args.literals.now c.args.node c.args.a c.args.b l c.requires.hashed c.requires.row c.requires.node c.requires.standing there
    (subst (λ (x : Lit). IsAnd old.rows.items x (moved c.args.literals.now c.args.b) new.rows.items l) c.moved-first.ensures
    (subst (λ (y : Lit). IsAnd old.rows.items c.moved-first.result y new.rows.items l) c.moved-second.ensures value)))
    c.and.ensures.there c.and.ensures.value
