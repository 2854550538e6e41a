use Rattle.std.proofs.Common.{◌≡◌, ◌+◌, ◌<◌, List, [], ◌∷◌, ◌++◌, Option, Some, None, length, sym, ap, ap₂, ◌∙◌}
use Rattle.std.proofs.lemmas.List.Elements.{All-same}
use Rattle.syn_rows.specs.declared.Lit.{Lit}
use Rattle.syn_rows.specs.declared.Row.{Row}
use Rattle.syn_rows.specs.Rows.{node_of}
use Rattle.syn_rows.specs.Joining.{simple_and}
use Rattle.syn_gain.specs.Placing.{literal_below, literal_for}
use Rattle.syn_gain.specs.Searching.{placed_pair, search_gate, state}
use Rattle.syn_gain.proofs.NodesThere.{literals_push}
use Rattle.syn_gain.proofs.Fresh.{rows_give}
use Rattle.syn_weighing.specs.Weighing.{weight_of, where_needed}
use Rattle.syn_weighing.proofs.dry_runs.dry_run_gate.Goals as goal

pub returns-clause-told : goal.returns-clause-told
returns-clause-told c = λ _.
    let rows = c.args.below.now.rows.now in
    let root = c.args.below.now.root in
    let s = weight_of c.args.weighed.now in
    let gives = rows_give rows root c.requires.stands.order c.requires.stands.once in
    let x : c.pair.result.0 ≡ literal_for s.literals c.args.gate.0 = c.pair.ensures.first in
    let y : c.pair.result.1 ≡ literal_for s.literals c.args.gate.1 = c.pair.ensures.second in
    let none : simple_and (literal_for s.literals c.args.gate.0) (literal_for s.literals c.args.gate.1) ≡ None = ap₂ simple_and (sym x) (sym y) ∙ c.is_simple.ensures c.if-is_simple.false in
    let literal : (search_gate rows root s c.args.gate).literals ≡ c.push.new.self.items =
    ap (λ (l : Lit). s.literals ++ l ∷ []) (ap₂ (λ (a b : Lit). (placed_pair rows root s.extra a b).literal) (sym x) (sym y) ∙ sym (c.join-literal.ensures.literal (literal_below rows root) gives))
    ∙ ap (λ (ls : List Lit). ls ++ c.join-literal.result ∷ []) (sym c.join-literal.ensures.literals) ∙ sym c.push.ensures.items in
    let extra : (search_gate rows root s c.args.gate).extra ≡ c.join-literal.new.self.extra.items =
    ap₂ (λ (a b : Lit). (placed_pair rows root s.extra a b).extra) (sym x) (sym y) ∙ sym (c.join-literal.ensures.extra (literal_below rows root) gives) in
    ap (λ (o : Option Lit). where_needed o (search_gate rows root s c.args.gate)) none ∙ ap₂ (λ (ls : List Lit) (es : List Row). Some (state ls es)) literal extra

pub returns-clause-placed : goal.returns-clause-placed
returns-clause-placed c = λ _.
    let first = length c.args.below.now.rows.now in
    let p = c.requires.placed in
    let more = length c.join-literal.new.self.extra.items in
    record {
      some = p.some;
      few = p.few;
      literals_there = All-same (λ (l : Lit). node_of l < first + more) c.push.new.self.items (c.args.weighed.now.literals.items ++ c.join-literal.result ∷ [])
          (c.push.ensures.items ∙ ap (λ (ls : List Lit). ls ++ c.join-literal.result ∷ []) c.join-literal.ensures.literals)
          (literals_push first more c.args.weighed.now.literals.items c.args.weighed.now.extra.items c.join-literal.result p.literals_there c.join-literal.ensures.more c.join-literal.ensures.there);
      rows_new = c.join-literal.ensures.rows;
    }
