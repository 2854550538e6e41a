use Rattle.std.proofs.Common.{sym, ◌∙◌, ap, nat_eq, length, List, ℕ, take}
use Rattle.std.specs.List.{list_all}
use Rattle.syn_lex.proofs.Splits.{next_none, next_some, run_passes}
use Rattle.syn_lex.proofs.words.cut_word.Goals as goal

pub returns-then-is_empty-clause-none : goal.returns-then-is_empty-clause-none
returns-then-is_empty-clause-none g c =
    next_none g.B.WordBytes.holds c.args.start c.blank_len-blanks.result c.args.text.now c.blank_len-blanks.ensures.value
    (ap (λ (l : List ℕ). nat_eq (length l) 0) (sym c.split_at.ensures.back) ∙ (sym c.is_empty.ensures ∙ c.if-is_empty.true))

pub returns-clause-some : goal.returns-clause-some
returns-clause-some g c =
    next_some g.B.WordBytes.holds c.args.start c.blank_len-blanks.result c.word_len-len.result c.args.text.now
    c.split_at.result.1.now c.split_at-2.result.0.now c.split_at-2.result.1.now c.of.result
    c.blank_len-blanks.ensures.value c.split_at.ensures.back (sym c.is_empty.ensures ∙ c.if-is_empty.false)
    c.word_len-len.ensures.value c.split_at-2.ensures.front c.split_at-2.ensures.back c.of.ensures

pub returns-clause-bytes : goal.returns-clause-bytes
returns-clause-bytes g c =
    ap (list_all g.B.WordBytes.holds) c.split_at-2.ensures.front
    ∙ (ap (λ n. list_all g.B.WordBytes.holds (take n c.split_at.result.1.now)) c.word_len-len.ensures.value ∙ run_passes g.B.WordBytes.holds c.split_at.result.1.now)
