use Rattle.std.proofs.Common.{rules, ◌+◌, ◌<◌, List, [], ◌∷◌, ◌++◌, length, sym, ap, ◌∙◌, subst, arith}
use Rattle.std.proofs.lemmas.List.Elements.{All-same}
use Rattle.syn_rows.specs.declared.Lit.{Lit}
use Rattle.syn_rows.specs.Rows.{node_of}
use Rattle.syn_plan.specs.declared.PLit.{PLit}
use Rattle.syn_gain.specs.Placing.{literal_for}
use Rattle.syn_gain.proofs.NodesThere.{literal_under, literals_push}
use Rattle.syn_gain.proofs.placed.PlacedPlan.place_gate.Goals as goal

pub and-literal-requires : goal.and-literal-requires
and-literal-requires g c =
    let p = c.requires.placed in
    let extra = c.args.self.now.extra.items in
    let bound = g.L.Lookup.first c.args.look_up.now + length extra in
    let under : (l : PLit) → node_of (literal_for c.args.self.now.literals.items l) < bound = λ l. literal_under bound c.args.self.now.literals.items l (omega (arith, p.some)) p.literals_there in (
      search rules,
      (
        c.requires.stands,
        (
          c.requires.most,
          (
            c.requires.fewer,
            (
              subst (λ (l : Lit). node_of l < bound) (sym c.pair.ensures.first) (under c.args.gate.0),
              (subst (λ (l : Lit). node_of l < bound) (sym c.pair.ensures.second) (under c.args.gate.1), (p.some, (p.few, p.rows_new))),
            ),
          ),
        ),
      ),
    )

pub returns-clause-placed : goal.returns-clause-placed
returns-clause-placed g c =
    let first = g.L.Lookup.first c.args.look_up.now in
    let p = c.requires.placed in
    let more = length c.and-literal.new.self.extra.items in
    record {
      some = p.some;
      few = p.few;
      literals_there = All-same (λ (l : Lit). node_of l < first + more) c.push.new.self.items _ (c.push.ensures.items ∙ ap (λ (ls : List Lit). ls ++ c.and-literal.result ∷ []) c.and-literal.ensures.literals)
          (literals_push first more c.args.self.now.literals.items c.args.self.now.extra.items c.and-literal.result p.literals_there c.and-literal.ensures.more c.and-literal.ensures.there);
      rows_new = c.and-literal.ensures.rows;
    }
