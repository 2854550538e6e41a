use Rattle.std.proofs.Common.{drop, rules, ◌≡◌, ◌+◌, ap, ◌∙◌}
use Rattle.std.specs.List.{position_or_len}
use Rattle.syn_io.specs.Outside.{is_line_feed}
use Rattle.syn_io.specs.RealLines.{unread}
use Rattle.syn_io.proofs.LineParts.{unread_behind}
use Rattle.syn_io.proofs.real_lines.RealLines.take_part.Goals as goal

pub returns-clause-rest : goal.returns-clause-rest
returns-clause-rest g c =
    let place : c.line_len-length.result ≡ position_or_len is_line_feed (unread c.args.self.now) = search rules in
    unread_behind c.args.self.now.buffer.items c.args.self.now.at c.args.self.now.end c.line_len-length.result c.min-self.result c.args.self.now.within c.min-self.ensures
    ∙ ap (λ n. drop (n + 1) (unread c.args.self.now)) place
