use Rattle.std.proofs.Common.{List, length, nat_lt, ap, ◌∙◌}
use Rattle.syn_rows.specs.declared.Row.{Row}
use Rattle.syn_gain.specs.Proposals.{replacement_of}
use Rattle.syn_gain.specs.Searching.{new_rows_anywhere}
use Rattle.syn_gain.proofs.bound.large_adds_fewer.Goals as goal

pub returns : goal.returns
returns c = c.adds_fewer_anywhere.ensures ∙ ap (λ (rows : List Row). nat_lt (length (new_rows_anywhere rows (replacement_of c.args.candidate))) c.args.limit) c.as_slice.ensures
