use Rattle.std.proofs.Common.{◌≡◌, ◌&&◌, ◌||◌, ◌+◌, ◌++◌, length, map, sym, ap, ◌∙◌, arith, true}
use Rattle.std.proofs.lemmas.Bool.{and_parts}
use Rattle.std.proofs.lemmas.Grind.{common_steps}
use Rattle.syn_lex.specs.Words.{text_of}
use Rattle.syn_netlist.specs.Numbers.{words_at}
use Rattle.syn_netlist.specs.Words.{is_word}
use Rattle.syn_netlist.proofs.Growing.{Grows-again}
use Rattle.syn_reader.specs.Heard.{all_words}
use Rattle.syn_reader.specs.Marking.{by_kind, first_twice, forbidden, forbidden_by, with_words}
use Rattle.syn_reader.proofs.NumberLaws.{numbers_more, below_more, twice_step, adds_step}
use Rattle.syn_reader.proofs.signals.Signals.define_all.Goals as goal

pub loop-word-preserved : goal.loop-word-preserved
loop-word-preserved c =
    let left = c.in-Some.ensures.steps in
    let before = c.loop-word.invariant in
    let one = c.in_ok-define.ensures in
    let words : (is_word c.in-Some.word.now && all_words c.next.new.self) ≡ true = ap all_words (sym left) ∙ before.words in
    let size : length c.loop-word.word-iterator ≡ length c.next.new.self + 1 = grind (arith, common_steps, left) in
    let old = c.loop-word.self.names in
    let new = c.define.new.self.names in
    record {
      numbers = numbers_more old new c.in-Some.word.now c.loop-word.numbers.items c.push.new.self.items c.in_ok-define.field-0 (map text_of c.next.new.self) (map text_of c.args.words)
          (ap (λ l. words_at old c.loop-word.numbers.items ++ map text_of l) (sym left) ∙ before.numbers) before.below one.grows one.number.1 c.in_ok-push.ensures.items;
      below = below_more old new c.loop-word.numbers.items c.push.new.self.items c.in_ok-define.field-0 before.below one.grows one.number.0 c.in_ok-push.ensures.items;
      marked = one.marked;
      grows = Grows-again c.args.self.now.names old new before.grows one.grows;
      count = let a = one.count in let b = before.count in omega (arith, a, b, size);
      once = twice_step (forbidden old c.loop-word.self.marks.items) (forbidden new c.define.new.self.marks.items) (forbidden c.args.self.now.names c.args.self.now.marks.items) c.args.kind c.in-Some.word.now (map text_of c.next.new.self) (map text_of c.args.words)
          (ap (λ l. first_twice (forbidden old c.loop-word.self.marks.items) c.args.kind (map text_of l)) (sym left) ∙ before.once) one.free one.defined;
      adds = adds_step (forbidden old c.loop-word.self.marks.items) (forbidden new c.define.new.self.marks.items) (forbidden c.args.self.now.names c.args.self.now.marks.items) c.args.kind c.in-Some.word.now (map text_of c.next.new.self) (map text_of c.args.words)
          (λ k v. ap (λ l. forbidden_by (map (by_kind c.args.kind) (map text_of l)) k v || forbidden old c.loop-word.self.marks.items k v) (sym left) ∙ before.adds k v) one.defined;
      words = (and_parts (is_word c.in-Some.word.now) (all_words c.next.new.self) words).1;
      few = before.few;
      known = ap (λ n. with_words n (map text_of c.next.new.self)) one.names ∙ (ap (λ l. with_words old (map text_of l)) (sym left) ∙ before.known);
      can = tt;
      ends = tt;
    }
