use Rattle.std.proofs.Common.{ℕ, List, length, option_map, sym, subst, ap, ◌∙◌, ◌≤◌, Bor}
use Rattle.syn_aiger_files.proofs.Cutting.{behind_less, none_line, some_line}
use Rattle.syn_aiger_files.proofs.cuts.cut_line.Goals as goal

pub returns-in-Some-clause-line : goal.returns-in-Some-clause-line
returns-in-Some-clause-line c = c.without_cr.ensures ∙ (some_line c.args.bytes.now c.cut_at.result.0.now _ c.in-Some.behind.now c.cut_at.ensures.front c.cut_at.ensures.behind (ap (option_map (λ (t : Bor (List ℕ)). t.now)) c.in-Some.is)).0

pub returns-in-Some-clause-behind : goal.returns-in-Some-clause-behind
returns-in-Some-clause-behind c = (some_line c.args.bytes.now c.cut_at.result.0.now _ c.in-Some.behind.now c.cut_at.ensures.front c.cut_at.ensures.behind (ap (option_map (λ (t : Bor (List ℕ)). t.now)) c.in-Some.is)).1

pub returns-in-Some-clause-within : goal.returns-in-Some-clause-within
returns-in-Some-clause-within c =
    let e = (some_line c.args.bytes.now c.cut_at.result.0.now _ c.in-Some.behind.now c.cut_at.ensures.front c.cut_at.ensures.behind (ap (option_map (λ (t : Bor (List ℕ)). t.now)) c.in-Some.is)).1 in
    subst (λ (l : List ℕ). length l ≤ length c.args.bytes.now) (sym e) (behind_less 10 c.args.bytes.now)

pub returns-in-None-clause-line : goal.returns-in-None-clause-line
returns-in-None-clause-line c = (none_line c.args.bytes.now c.cut_at.result.0.now _ c.cut_at.ensures.front c.cut_at.ensures.behind (ap (option_map (λ (t : Bor (List ℕ)). t.now)) c.in-None.is)).0

pub returns-in-None-clause-behind : goal.returns-in-None-clause-behind
returns-in-None-clause-behind c = (none_line c.args.bytes.now c.cut_at.result.0.now _ c.cut_at.ensures.front c.cut_at.ensures.behind (ap (option_map (λ (t : Bor (List ℕ)). t.now)) c.in-None.is)).1
