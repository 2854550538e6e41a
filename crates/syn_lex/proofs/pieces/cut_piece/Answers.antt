use Rattle.std.proofs.Common.{sym, ◌∙◌}
use Rattle.syn_lex.proofs.Cutting.{is_cut_end, is_cut_here}
use Rattle.syn_lex.proofs.pieces.cut_piece.Goals as goal

pub returns-then-is_empty : goal.returns-then-is_empty
returns-then-is_empty c =
    is_cut_end c.args.end c.args.bytes.now _ _ c.bytes_before.result c.requires c.bytes_before.ensures.value c.split_at.ensures.front c.split_at.ensures.back
    (sym c.is_empty.ensures ∙ c.if-is_empty.true)

pub returns : goal.returns
returns c =
    is_cut_here c.args.end c.args.bytes.now _ c.split_at.result.1.now _ c.bytes_before.result c.bytes_before.ensures.value c.split_at.ensures.front c.split_at.ensures.back
    c.split_at.ensures.by_index.0 (sym c.is_empty.ensures ∙ c.if-is_empty.false) c.split_at-2.ensures.back
