use Rattle.std.proofs.Common.{◌≡◌, ◌&&◌, ◌+◌, ◌++◌, ◌∷◌, [], length, map, List, ℕ, sym, ap, ap₂, ◌∙◌, arith, true, Some}
use Rattle.std.proofs.lemmas.Bool.{and_parts}
use Rattle.std.proofs.lemmas.Grind.{common_steps}
use Rattle.std.proofs.lemmas.Result.{err_from_is_err_and}
use Rattle.syn_lex.specs.Words.{text_of}
use Rattle.syn_netlist.specs.Numbers.{words_at}
use Rattle.syn_netlist.specs.Words.{is_word}
use Rattle.syn_netlist.proofs.Growing.{Grows-again, words_at-grows, all_below-more, length-grows}
use Rattle.syn_reader.specs.Definitions.{names_defined}
use Rattle.syn_reader.specs.declared.Kind.TheVariants as kinds
use Rattle.syn_reader.specs.Faults.{Fault, DefinedTwice}
use Rattle.syn_reader.specs.Heard.{all_words}
use Rattle.syn_reader.specs.Keywords.{line_fault}
use Rattle.syn_reader.specs.Marking.{forbidden, with_words}
use Rattle.syn_reader.proofs.NumberLaws.{numbers_more, below_more}
use Rattle.syn_reader.proofs.TableLines.{table_faultless, table_twice, adds_one, defines_last}
use Rattle.syn_reader.proofs.FaultLaws.{passes_fault}
use Rattle.syn_reader.proofs.signals.Signals.define_table.Goals as goal

pub loop-word-preserved : goal.loop-word-preserved
loop-word-preserved c =
    let left = c.in-Some-2.ensures.steps in
    let before = c.loop-word.invariant in
    let one = c.in_ok-add.ensures in
    let words : (is_word c.in-Some-2.word.now && all_words c.next-in-loop-word.new.self) ≡ true = ap all_words (sym left) ∙ before.words in
    let both = and_parts (is_word c.in-Some-2.word.now) (all_words c.next-in-loop-word.new.self) words in
    let size : length c.loop-word.word-iterator ≡ length c.next-in-loop-word.new.self + 1 = grind (arith, common_steps, left) in
    let old = c.loop-word.self.names in
    let new = c.add.new.self.names in
    record {
      numbers = numbers_more old new c.loop-word.last.now c.loop-word.inputs.items c.push.new.self.items c.in_ok-add.field-0 (c.in-Some-2.word.now ∷ map text_of c.next-in-loop-word.new.self) (map text_of c.args.words)
          (ap (λ l. words_at old c.loop-word.inputs.items ++ c.loop-word.last.now ∷ map text_of l) (sym left) ∙ before.numbers) before.below one.grows one.number.1 c.in_ok-push.ensures.items;
      below = below_more old new c.loop-word.inputs.items c.push.new.self.items c.in_ok-add.field-0 before.below one.grows one.number.0 c.in_ok-push.ensures.items;
      marked = one.marked;
      grows = Grows-again c.args.self.now.names old new before.grows one.grows;
      count = let a = one.count in let b = before.count in omega (arith, a, b, size);
      same = λ k w. one.same k w ∙ before.same k w;
      last = both.0;
      words = both.1;
      few = before.few;
      known = ap (λ n. with_words n (c.in-Some-2.word.now ∷ map text_of c.next-in-loop-word.new.self)) one.names ∙ (ap (λ l. with_words old (c.loop-word.last.now ∷ map text_of l)) (sym left) ∙ before.known);
      can = tt;
      ends = tt;
    }

pub returns-in_err-output-clause-fault : goal.returns-in_err-output-clause-fault
returns-in_err-output-clause-fault c =
    let p = err_from_is_err_and c.from_residual-in_err-output.result c.from_residual-in_err-output.ensures.1 in
    let before = c.loop-word.invariant in
    let words = sym before.numbers ∙ ap (λ l. words_at c.loop-word.self.names c.loop-word.inputs.items ++ c.loop-word.last.now ∷ map text_of l) c.in-None.ensures.steps.0 in
    passes_fault c.from_residual-in_err-output.result p.0 c.in_err-output.field-0.0 (λ f. (f ≡ DefinedTwice c.args.line c.loop-word.last.now) × (forbidden c.loop-word.self.names c.loop-word.self.marks.items kinds.Names c.loop-word.last.now ≡ true)) (λ f. line_fault (forbidden c.args.self.now.names c.args.self.now.marks.items) kinds.Names c.args.line (map text_of c.args.words) ≡ Some f) p.1 p.2
    (λ f h. table_twice (forbidden c.args.self.now.names c.args.self.now.marks.items) (forbidden c.loop-word.self.names c.loop-word.self.marks.items) c.args.line (map text_of c.args.words) (words_at c.loop-word.self.names c.loop-word.inputs.items) c.loop-word.last.now words before.same h.1
    ∙ ap (λ (x : Fault). Some x) (sym h.0)) c.in_err-output.ensures.fault

pub returns-clause-words : goal.returns-clause-words
returns-clause-words c =
    let before = c.loop-word.invariant in
    let one = c.in_ok-output.ensures in
    sym before.numbers
    ∙ (ap (λ l. words_at c.loop-word.self.names c.loop-word.inputs.items ++ c.loop-word.last.now ∷ map text_of l) c.in-None.ensures.steps.0
    ∙ ap₂ (λ (l : List (List ℕ)) (w : List ℕ). l ++ w ∷ []) (sym (words_at-grows c.loop-word.self.names c.define.new.self.names c.loop-word.inputs.items one.grows before.below)) (sym one.number.1))

pub returns-clause-inputs : goal.returns-clause-inputs
returns-clause-inputs c =
    all_below-more (length c.loop-word.self.names) (length c.define.new.self.names) c.loop-word.inputs.items (length-grows c.loop-word.self.names c.define.new.self.names c.in_ok-output.ensures.grows) c.loop-word.invariant.below

pub returns-clause-faultless : goal.returns-clause-faultless
returns-clause-faultless c =
    let before = c.loop-word.invariant in
    let words = sym before.numbers ∙ ap (λ l. words_at c.loop-word.self.names c.loop-word.inputs.items ++ c.loop-word.last.now ∷ map text_of l) c.in-None.ensures.steps.0 in
    table_faultless (forbidden c.args.self.now.names c.args.self.now.marks.items) (forbidden c.loop-word.self.names c.loop-word.self.marks.items) c.args.line (map text_of c.args.words) (words_at c.loop-word.self.names c.loop-word.inputs.items) c.loop-word.last.now words before.same c.in_ok-output.ensures.free

pub returns-clause-defined : goal.returns-clause-defined
returns-clause-defined c =
    let before = c.loop-word.invariant in
    let words = sym before.numbers ∙ ap (λ l. words_at c.loop-word.self.names c.loop-word.inputs.items ++ c.loop-word.last.now ∷ map text_of l) c.in-None.ensures.steps.0 in
    adds_one kinds.Names (names_defined kinds.Names (map text_of c.args.words)) c.loop-word.last.now (forbidden c.args.self.now.names c.args.self.now.marks.items) (forbidden c.loop-word.self.names c.loop-word.self.marks.items) (forbidden c.define.new.self.names c.define.new.self.marks.items)
    (ap (names_defined kinds.Names) words ∙ defines_last (words_at c.loop-word.self.names c.loop-word.inputs.items) c.loop-word.last.now) before.same c.in_ok-output.ensures.defined

pub returns-clause-names : goal.returns-clause-names
returns-clause-names c =
    c.in_ok-output.ensures.names ∙ (ap (λ l. with_words c.loop-word.self.names (c.loop-word.last.now ∷ map text_of l)) (sym c.in-None.ensures.steps.0) ∙ c.loop-word.invariant.known)
