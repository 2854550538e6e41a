use Rattle.std.proofs.Common.{arith, vec_len, ◌≡◌, ◌+◌, ℕ, List, length, map, Option, Some, sym, ap, ◌∙◌, subst}
use Rattle.std.proofs.lemmas.List.{take_at, length-replicate}
use Rattle.syn_rows.specs.declared.Lit.{Lit}
use Rattle.syn_rows.specs.declared.Row.TheVariants.{Source}
use Rattle.syn_hashed.specs.Visiting.{FirstsOf, literal_of}
use Rattle.syn_hashed.specs.Renumbering.{IsRenumbering}
use Rattle.syn_hashed.proofs.Compacted.{hashed_can_compact}
use Rattle.syn_hashed.proofs.HashedAgain.{renumbered_again}
use Rattle.syn_hashed.proofs.Renumbered.{renumbered, renumbering_begins}
use Rattle.syn_hashed.proofs.Rising.{hashed_new}
use Rattle.syn_hashed.proofs.visit_order.renumbered.Goals as goal

pub visit_all-requires-clause-can : goal.visit_all-requires-clause-can
visit_all-requires-clause-can c = hashed_can_compact c.args.source_count c.args.rows.now c.args.observed.now c.requires.hashed c.requires.within

pub visit_all-requires-clause-stands : goal.visit_all-requires-clause-stands
visit_all-requires-clause-stands c =
    let count = c.args.source_count in
    let new = c.in_ok-source_rows.field-0.items in
    renumbering_begins count c.args.rows.now c.as_mut_slice.result.now new c.requires.hashed (hashed_new count new c.in_ok-source_rows.ensures)
    (ap length c.in_ok-source_rows.ensures ∙ length-replicate (count + 1) Source)
    (subst (FirstsOf count (length c.args.rows.now)) (sym c.as_mut_slice.ensures.value) c.in_ok-literals.ensures)

pub returns : goal.returns
returns c =
    let rows = c.args.rows.now in
    let lits = c.args.observed.now in
    let count = c.args.source_count in
    let new = c.visit_all.new.maker in
    let stands : IsRenumbering count rows c.visit_all.new.literals new.rows.items = subst (λ (k : ℕ). IsRenumbering k rows c.visit_all.new.literals new.rows.items) c.in_ok-visit_all.ensures.sources c.in_ok-visit_all.ensures.stands in
    let size : length c.visit_all.new.literals ≡ vec_len c.in_ok-literals.literals = omega (arith, stands.visit.all, c.in_ok-literals.ensures.all, ap length c.as_mut_slice.ensures.value, c.as_mut_slice.ensures.len) in
    let same : c.as_slice.result.now ≡ c.visit_all.new.literals = c.as_slice.ensures.value ∙ take_at c.visit_all.new.literals _ (vec_len c.in_ok-literals.literals) size in
    let named : map (λ l. Some l) c.in_ok-observed.observed.items ≡ map (literal_of c.visit_all.new.literals) lits = c.in_ok-observed.ensures ∙ ap (λ (l : List (Option Lit)). map (literal_of l) lits) same in
    record {
      compacted = renumbered count rows c.visit_all.new.literals new.rows.items stands lits c.in_ok-observed.observed.items (hashed_can_compact count rows lits c.requires.hashed c.requires.within) c.in_ok-visit_all.ensures.reached named;
      exact = renumbered_again count rows c.visit_all.new.literals new.rows.items lits c.in_ok-observed.observed.items stands named;
    }
