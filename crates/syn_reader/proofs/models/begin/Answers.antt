use Rattle.std.proofs.Common.{◌≡◌, false, List, map, rules, sym, subst}
use Rattle.syn_lex.specs.Words.{text_of}
use Rattle.syn_netlist.specs.Words.{has_word}
use Rattle.syn_reader.specs.Statements.{Statement}
use Rattle.syn_reader.specs.Owned.{HasGathered, first, own}
use Rattle.syn_reader.proofs.Beginning.{begun_model, begun_only}
use Rattle.syn_reader.proofs.models.begin.Goals as goal

pub returns-in_default-clause-gathered : goal.returns-in_default-clause-gathered
returns-in_default-clause-gathered c =
    let none = c.in_default.ensures.none in
    let new = c.new-gathering.ensures in
    begun_only c.args.names.now c.args.many c.args.statements.now c.take.new.self c.new-gathering.result c.requires.many none.0 none.1 new.names new.said new.words new.free

pub returns-clause-gathered : goal.returns-clause-gathered
returns-clause-gathered c =
    let new = c.new-gathering-2.ensures in
    let left = own c.args.many c.take.new.self in
    let absent : has_word c.args.names.now c.in_ok-name-2.name ≡ false = search rules in
    subst (λ (l : List Statement). HasGathered c.args.names.now (first c.args.many l) left c.new-gathering-2.result) (sym c.in-Some.ensures.some)
    (begun_model c.args.names.now c.in-Some.parts.line (map text_of c.in-Some.parts.words) c.in_ok-name-2.name left c.new-gathering-2.result c.in_ok-name-2.ensures.name absent new.names new.said new.words new.free)
