use Rattle.std.proofs.Common.{◌≡◌, ℕ, List, [], ◌∷◌, ◌++◌, length, ◌-◌, Option, Err, IfSome, ap, sym, subst, ◌∙◌, arith, inr, rules}
use Rattle.syn_aiger_files.specs.declared.fault.AigFault.TheVariants as faults
use Rattle.syn_aiger_files.specs.Files.{Symbol}
use Rattle.syn_aiger_files.specs.Gathered.{behind_symbols}
use Rattle.syn_aiger_files.specs.Seen.{AreGiven}
use Rattle.syn_aiger_files.specs.Symbols.{symbols_of}
use Rattle.syn_aiger_files.specs.Texts.{lines_at}
use Rattle.syn_aiger_files.proofs.Parsed.{no_symbols, symbols_comments, symbols_end, symbols_on, symbols_stop}
use Rattle.syn_aiger_files.proofs.symbols.read_symbols.Goals as goal

pub loop-line-init : goal.loop-line-init
loop-line-init c = record {
  within = c.requires.within;
  left = ([], (c.new-given.ensures, no_symbols c.new-symbols.result.items (symbols_of c.args.h.now [] (lines_at (c.args.total - length c.args.bytes.now) c.args.bytes.now)) (search rules)));
}

pub loop-line-preserved : goal.loop-line-preserved
loop-line-preserved c =
    let inv = c.loop-line.invariant.left in
    let t = c.in_ok-symbol.ensures inv.0 inv.1.0 in
    let given = subst (λ (o : Option Symbol). IfSome o (λ (s : Symbol). AreGiven c.symbol_of.new.given (s ∷ inv.0))) c.in-Some-2.is t.1 in
    let push : c.push.new.self.items ≡ c.loop-line.symbols.items ++ c.in-Some-2.symbol ∷ [] = search rules in
    record {
      within = omega (arith, c.in-Some.ensures.shorter, c.loop-line.invariant.within);
      left = (
        c.in-Some-2.symbol ∷ inv.0,
        (
          given,
          ap (λ (l : List Symbol). behind_symbols l (symbols_of c.args.h.now (c.in-Some-2.symbol ∷ inv.0) (lines_at (c.args.total - length c.in-Some.behind.now) c.in-Some.behind.now))) push
              ∙ symbols_on c.args.h.now c.args.total inv.0 c.loop-line.rest.now c.loop-line.symbols.items (symbols_of c.args.h.now [] (lines_at (c.args.total - length c.args.bytes.now) c.args.bytes.now)) inv.1.1
              c.in-Some.line.now c.in-Some.behind.now c.in-Some-2.symbol c.in-Some.ensures.some c.loop-line.invariant.within c.in-Some.ensures.line c.in-Some.ensures.behind (sym c.begins_comments.ensures ∙ c.if-begins_comments.false) (sym c.in-Some-2.is ∙ t.0),
        ),
      );
    }

pub returns-in_default-2-clause-fault : goal.returns-in_default-2-clause-fault
returns-in_default-2-clause-fault c =
    let inv = c.loop-line.invariant.left in
    let t = c.in_ok-symbol.ensures inv.0 inv.1.0 in
    inr (symbols_stop c.args.h.now c.args.total inv.0 c.loop-line.rest.now c.loop-line.symbols.items (symbols_of c.args.h.now [] (lines_at (c.args.total - length c.args.bytes.now) c.args.bytes.now)) inv.1.1
    c.in-Some.line.now c.in-Some.ensures.some c.loop-line.invariant.within c.in-Some.ensures.line (sym c.begins_comments.ensures ∙ c.if-begins_comments.false) (sym c.in_default-2.is ∙ t.0)
    ∙ ap (λ (at : ℕ). Err (faults.Symbol at)) (sym c.place.ensures))

pub returns-then-begins_comments-clause-symbols : goal.returns-then-begins_comments-clause-symbols
returns-then-begins_comments-clause-symbols c =
    let inv = c.loop-line.invariant.left in
    symbols_comments c.args.h.now c.args.total inv.0 c.loop-line.rest.now c.loop-line.symbols.items (symbols_of c.args.h.now [] (lines_at (c.args.total - length c.args.bytes.now) c.args.bytes.now)) inv.1.1
    c.in-Some.line.now c.in-Some.ensures.some c.loop-line.invariant.within c.in-Some.ensures.line (sym c.begins_comments.ensures ∙ c.if-begins_comments.true)

pub returns-in_default-clause-symbols : goal.returns-in_default-clause-symbols
returns-in_default-clause-symbols c =
    let inv = c.loop-line.invariant.left in
    symbols_end c.args.h.now c.args.total inv.0 c.loop-line.rest.now c.loop-line.symbols.items (symbols_of c.args.h.now [] (lines_at (c.args.total - length c.args.bytes.now) c.args.bytes.now)) inv.1.1 c.in_default.ensures.none
