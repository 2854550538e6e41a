use Rattle.std.proofs.Common.{◌≡◌, ◌+◌, ℕ, List, All, Bool, Option, IsSome, length, map, vec_len, sym, ap, ◌∙◌, subst, arith}
use Rattle.std.proofs.lemmas.List.{take_at}
use Rattle.syn_rows.specs.declared.Lit.{Lit}
use Rattle.syn_rows.specs.declared.Row.{Row}
use Rattle.syn_rows.specs.Levels.{levels_of}
use Rattle.syn_hashed.specs.Hashed.{IsHashed}
use Rattle.syn_hashed.specs.Visiting.{FirstsOf, IsRebuilt, literal_of}
use Rattle.syn_balance.specs.Roots.{HasRoots}
use Rattle.syn_balance.specs.Rule.{AreByRule}
use Rattle.syn_balance.specs.Balancing.{IsBalancing}
use Rattle.syn_balance.proofs.Ends.{begins, all_stand, made_again, made_by_rule}
use Rattle.syn_balance.proofs.balancer.made_again.Goals as goal

pub balance_nodes-requires-clause-hashed : goal.balance_nodes-requires-clause-hashed
balance_nodes-requires-clause-hashed c = subst (λ (k : ℕ). IsHashed k c.args.rows.now) (sym c.in_ok-hashed.ensures.sources) c.requires.hashed

pub balance_nodes-requires-clause-roots : goal.balance_nodes-requires-clause-roots
balance_nodes-requires-clause-roots c = (c.args.observed.now, subst (λ (m : List Bool). HasRoots c.args.rows.now c.args.observed.now m) (sym c.as_slice-2.ensures.value) c.in_ok-roots.ensures)

pub balance_nodes-requires-clause-levels : goal.balance_nodes-requires-clause-levels
balance_nodes-requires-clause-levels c = c.in_ok-levels.ensures ∙ ap levels_of c.as_slice.ensures.value

pub balance_nodes-requires-clause-begun : goal.balance_nodes-requires-clause-begun
balance_nodes-requires-clause-begun c =
    let rows : List Row = c.args.rows.now in
    let new : List Row = c.in_ok-hashed.hashed.rows.items in
    let sources = c.in_ok-hashed.ensures.sources in
    subst (λ (k : ℕ). IsBalancing k rows c.as_slice-2.result.now (k + 1) c.as_mut_slice.result.now c.as_mut_slice-2.result.now new) (sym sources)
    (begins c.args.source_count rows new c.as_slice-2.result.now c.as_mut_slice.result.now c.as_mut_slice-2.result.now c.requires.hashed
    (subst (λ (k : ℕ). IsHashed k new) sources c.in_ok-hashed.hashed.hashed) c.in_ok-hashed.ensures.rows
    (subst (λ (l : List (Option Lit)). FirstsOf c.args.source_count (length rows) l) (sym c.as_mut_slice.ensures.value) c.in_ok-literals.ensures)
    (c.as_mut_slice-2.ensures.value ∙ c.in_ok-waiting.ensures))

abbrev Stand : List (Option Lit) → List Lit → Type 0
Stand literals observed = All (λ l. IsSome (literal_of literals l)) observed

pub literals_of-requires : goal.literals_of-requires
literals_of-requires c =
    let rows : List Row = c.args.rows.now in
    let s = c.in_ok-balance_nodes.ensures.balanced in
    let size : length c.balance_nodes.new.literals ≡ vec_len c.in_ok-literals.literals = omega (arith, s.all, c.in_ok-literals.ensures.all, ap length c.as_mut_slice.ensures.value, c.as_mut_slice.ensures.len) in
    let same : c.as_slice-3.result.now ≡ c.balance_nodes.new.literals = c.as_slice-3.ensures.value ∙ take_at c.balance_nodes.new.literals _ (vec_len c.in_ok-literals.literals) size in
    let roots : HasRoots rows c.args.observed.now c.as_slice-2.result.now = subst (λ (m : List Bool). HasRoots rows c.args.observed.now m) (sym c.as_slice-2.ensures.value) c.in_ok-roots.ensures in
    subst (λ (l : List (Option Lit)). Stand l c.args.observed.now) (sym same)
    (all_stand c.in_ok-hashed.hashed.source_count rows c.args.observed.now c.as_slice-2.result.now c.balance_nodes.new.literals c.balance_nodes.new.waiting c.balance_nodes.new.hashed.rows.items s roots c.requires.within)

pub returns-clause-rebuilt : goal.returns-clause-rebuilt
returns-clause-rebuilt c =
    let rows : List Row = c.args.rows.now in
    let new : List Row = c.balance_nodes.new.hashed.rows.items in
    let s = c.in_ok-balance_nodes.ensures.balanced in
    let count : c.balance_nodes.new.hashed.source_count ≡ c.args.source_count = c.in_ok-balance_nodes.ensures.sources ∙ c.in_ok-hashed.ensures.sources in
    let size : length c.balance_nodes.new.literals ≡ vec_len c.in_ok-literals.literals = omega (arith, s.all, c.in_ok-literals.ensures.all, ap length c.as_mut_slice.ensures.value, c.as_mut_slice.ensures.len) in
    let same : c.as_slice-3.result.now ≡ c.balance_nodes.new.literals = c.as_slice-3.ensures.value ∙ take_at c.balance_nodes.new.literals _ (vec_len c.in_ok-literals.literals) size in
    subst (λ (r : List Row). IsRebuilt c.args.source_count rows c.args.observed.now r c.in_ok-observed.observed.items) (sym c.into_rows-rows.ensures)
    (made_again c.args.source_count rows c.args.observed.now c.as_slice-2.result.now c.balance_nodes.new.literals c.balance_nodes.new.waiting new c.in_ok-observed.observed.items
    (subst (λ (k : ℕ). IsHashed k new) count c.balance_nodes.new.hashed.hashed)
    (subst (λ (k : ℕ). IsBalancing k rows c.as_slice-2.result.now (length rows) c.balance_nodes.new.literals c.balance_nodes.new.waiting new) c.in_ok-hashed.ensures.sources s)
    (c.in_ok-observed.ensures ∙ ap (λ (l : List (Option Lit)). map (literal_of l) c.args.observed.now) same))

pub returns-clause-rule : goal.returns-clause-rule
returns-clause-rule c =
    let rows : List Row = c.args.rows.now in
    let new : List Row = c.balance_nodes.new.hashed.rows.items in
    let s = c.in_ok-balance_nodes.ensures.balanced in
    let size : length c.balance_nodes.new.literals ≡ vec_len c.in_ok-literals.literals = omega (arith, s.all, c.in_ok-literals.ensures.all, ap length c.as_mut_slice.ensures.value, c.as_mut_slice.ensures.len) in
    let same : c.as_slice-3.result.now ≡ c.balance_nodes.new.literals = c.as_slice-3.ensures.value ∙ take_at c.balance_nodes.new.literals _ (vec_len c.in_ok-literals.literals) size in
    let roots : HasRoots rows c.args.observed.now c.as_slice-2.result.now = subst (λ (m : List Bool). HasRoots rows c.args.observed.now m) (sym c.as_slice-2.ensures.value) c.in_ok-roots.ensures in
    subst (λ (r : List Row). AreByRule c.args.source_count rows c.args.observed.now r c.in_ok-observed.observed.items) (sym c.into_rows-rows.ensures)
    (made_by_rule c.args.source_count rows c.args.observed.now c.as_slice-2.result.now c.balance_nodes.new.literals c.balance_nodes.new.waiting new c.in_ok-observed.observed.items roots
    (subst (λ (k : ℕ). IsBalancing k rows c.as_slice-2.result.now (length rows) c.balance_nodes.new.literals c.balance_nodes.new.waiting new) c.in_ok-hashed.ensures.sources s)
    (c.in_ok-observed.ensures ∙ ap (λ (l : List (Option Lit)). map (literal_of l) c.args.observed.now) same))
