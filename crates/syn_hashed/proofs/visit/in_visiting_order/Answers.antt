use Rattle.std.proofs.Common.{arith, vec_len, ◌≡◌, ℕ, List, length, map, Option, Some, sym, ap, ◌∙◌, subst}
use Rattle.std.proofs.lemmas.List.{take_at}
use Rattle.syn_rows.specs.declared.Lit.{Lit}
use Rattle.syn_rows.specs.declared.Row.{Row}
use Rattle.syn_hashed.specs.Hashed.{IsHashed}
use Rattle.syn_hashed.specs.Visiting.{FirstsOf, IsMadeAgain, literal_of, visited}
use Rattle.syn_hashed.specs.HashedAgain.{IsHashedAgain, IsHashing}
use Rattle.syn_hashed.proofs.HashedAgain.{hashing_begins}
use Rattle.syn_hashed.specs.Walking.{VisitsReached}
use Rattle.syn_hashed.proofs.Visits.{first_known, made_again, visit_begins}
use Rattle.syn_hashed.proofs.Walked.{source_below}
use Rattle.syn_hashed.proofs.visit.in_visiting_order.Goals as goal

pub visit_all-requires-clause-stands : goal.visit_all-requires-clause-stands
visit_all-requires-clause-stands c =
    let hashed = c.in_ok-hashed.hashed in
    let rows = c.args.rows.now in
    let sources : hashed.source_count ≡ c.args.source_count = c.in_ok-hashed.ensures.sources in
    let firsts : FirstsOf hashed.source_count (length rows) c.as_mut_slice.result.now =
    subst (λ (k : ℕ). FirstsOf k (length rows) c.as_mut_slice.result.now) (sym sources) (subst (FirstsOf c.args.source_count (length rows)) (sym c.as_mut_slice.ensures.value) c.in_ok-literals.ensures) in
    let wide = source_below c.args.source_count rows c.args.observed.now c.requires.can in
    hashing_begins hashed.source_count rows c.as_mut_slice.result.now hashed.rows.items
    (visit_begins hashed.source_count rows c.as_mut_slice.result.now hashed.rows.items (omega (arith, sources, wide)) hashed.hashed (omega (arith, c.in_ok-hashed.ensures.rows, sources)) firsts)
    (λ n l e. (first_known hashed.source_count (length rows) c.as_mut_slice.result.now firsts n l e).0)

pub returns : goal.returns
returns c =
    let rows = c.args.rows.now in
    let lits = c.args.observed.now in
    let new = c.visit_all.new.maker in
    let start = c.in_ok-hashed.ensures.sources in
    let sources : new.source_count ≡ c.args.source_count = c.in_ok-visit_all.ensures.sources ∙ start in
    let hashing : IsHashing c.args.source_count rows c.visit_all.new.literals new.rows.items = subst (λ (k : ℕ). IsHashing k rows c.visit_all.new.literals new.rows.items) sources c.in_ok-visit_all.ensures.stands in
    let visit = hashing.visit in
    let reached : VisitsReached c.args.source_count rows lits c.visit_all.new.literals = subst (λ (k : ℕ). VisitsReached k rows lits c.visit_all.new.literals) start c.in_ok-visit_all.ensures.reached in
    let size : length c.visit_all.new.literals ≡ vec_len c.in_ok-literals.literals = omega (arith, visit.all, c.in_ok-literals.ensures.all, ap length c.as_mut_slice.ensures.value, c.as_mut_slice.ensures.len) in
    let same : c.as_slice.result.now ≡ c.visit_all.new.literals = c.as_slice.ensures.value ∙ take_at c.visit_all.new.literals _ (vec_len c.in_ok-literals.literals) size in
    let hashed = subst (λ (k : ℕ). IsHashed k new.rows.items) sources new.hashed in
    let named : map (λ l. Some l) c.in_ok-observed.observed.items ≡ map (literal_of c.visit_all.new.literals) lits = c.in_ok-observed.ensures ∙ ap (λ (l : List (Option Lit)). map (literal_of l) lits) same in
    record {
      made = subst (λ (rs : List Row). IsMadeAgain c.args.source_count rows lits rs c.in_ok-observed.observed.items) (sym c.into_rows.ensures)
          (made_again c.args.source_count rows lits c.visit_all.new.literals new.rows.items c.in_ok-observed.observed.items c.requires.can hashed visit reached named);
      exact = subst (λ (rs : List Row). IsHashedAgain c.args.source_count rows lits rs c.in_ok-observed.observed.items) (sym c.into_rows.ensures)
          (record { stands = visited c.visit_all.new.literals; hashed = hashed; front = visit.front; made = hashing.made; observed = named });
    }
