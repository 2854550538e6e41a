use Rattle.std.proofs.Common.{ℕ, List, length, map, get_or, sym, ap, ◌∙◌, subst}
use Rattle.syn_rows.specs.Rows.{Rises}
use Rattle.syn_table.specs.Keys.{key_of_level}
use Rattle.syn_table.proofs.Spreading.{spread_length, source_keys, keys_rise}
use Rattle.syn_table.proofs.keys.spread.Goals as goal

pub returns-clause-keys : goal.returns-clause-keys
returns-clause-keys c = c.in_ok-keys.ensures ∙ ap (map key_of_level) (c.as_slice.ensures.value ∙ c.in_ok-levels.ensures)

pub returns-clause-count : goal.returns-clause-count
returns-clause-count c = ap (λ (l : List ℕ). length l) (returns-clause-keys c) ∙ spread_length c.args.graph.now.rows

pub returns-clause-sources : goal.returns-clause-sources
returns-clause-sources c n e = ap (λ (l : List ℕ). get_or l n 0) (returns-clause-keys c) ∙ source_keys _ c.args.graph.now.rows c.args.graph.now.graph.hashed n e

pub returns-clause-rises : goal.returns-clause-rises
returns-clause-rises c = subst (λ (l : List ℕ). Rises c.args.graph.now.rows (λ n. get_or l n 0)) (sym (returns-clause-keys c)) (keys_rise _ c.args.graph.now.rows c.args.graph.now.graph.hashed)
