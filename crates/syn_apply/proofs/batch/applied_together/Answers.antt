use Rattle.std.proofs.Common.{◌≡◌, ℕ, ◌+◌, ◌<◌, All, List, length, map, refl, sym, ap, ◌∙◌, subst, subst₂, arith}
use Rattle.std.proofs.lemmas.List.{length-map}
use Rattle.syn_rows.specs.declared.Lit.{Lit}
use Rattle.syn_rows.specs.declared.Row.{Row}
use Rattle.syn_rows.specs.Rows.{node_of}
use Rattle.syn_hashed.specs.HashedAgain.{IsHashedAgain}
use Rattle.syn_hashed.specs.Compacting.{IsCompaction}
use Rattle.syn_gain.specs.Proposals.{replacement}
use Rattle.syn_apply.specs.Applied.{AreRemade, remade}
use Rattle.syn_apply.specs.Remaking.{AllStand, SourcesStay, moved}
use Rattle.syn_apply.specs.Sound.{IsSoundBy}
use Rattle.syn_apply.proofs.Standing.{IfOk-map, both_ok, moved_within, remade_same}
use Rattle.syn_apply.proofs.batch.applied_together.Goals as goal

-- the moved literals, as the code has them
lits_are : (literals items observed lits seen made : List Lit) → literals ≡ items → lits ≡ observed → seen ≡ made → made ≡ map (moved literals) lits → seen ≡ map (moved items) observed
lits_are literals items observed lits seen made same_literals same_lits same_seen is =
    same_seen ∙ is ∙ ap (λ ls. map (moved ls) lits) same_literals ∙ ap (map (moved items)) same_lits

pub remade-requires-clause-sound : goal.remade-requires-clause-sound
remade-requires-clause-sound c = subst (λ (rs : List Row). All (λ p. IsSoundBy rs (replacement p)) c.args.proposals.now) (sym c.as_slice-rows.ensures) c.requires.sound

pub finish-requires-clause-within : goal.finish-requires-clause-within
finish-requires-clause-within c =
    let g = c.args.graph.now in
    let new = c.remade.new.hashed.rows.items in
    let literals = c.in_ok-literals.literals.items in
    let is = lits_are c.as_slice.result.now literals g.observed c.as_slice-2.result.now c.as_slice-3.result.now c.in_ok-observed.observed.items c.as_slice.ensures.value c.as_slice-2.ensures c.as_slice-3.ensures.value c.in_ok-observed.ensures in
    let standing = subst (λ (rs : List Row). AllStand rs new literals) c.as_slice-rows.ensures c.in_ok-literals.ensures.standing in
    subst (All (λ l. node_of l < length new)) (sym is)
    (moved_within g.rows new literals g.observed standing (c.in_ok-literals.ensures.all ∙ ap length c.as_slice-rows.ensures) g.graph.within)

pub finish-requires-clause-lits : goal.finish-requires-clause-lits
finish-requires-clause-lits c =
    let g = c.args.graph.now in
    let literals = c.in_ok-literals.literals.items in
    let is = lits_are c.as_slice.result.now literals g.observed c.as_slice-2.result.now c.as_slice-3.result.now c.in_ok-observed.observed.items c.as_slice.ensures.value c.as_slice-2.ensures c.as_slice-3.ensures.value c.in_ok-observed.ensures in
    omega (arith, ap length is, length-map g.observed (moved literals), g.few_observed)

pub returns-clause-same : goal.returns-clause-same
returns-clause-same c =
    let g = c.args.graph.now in
    let new = c.remade.new.hashed.rows.items in
    let literals = c.in_ok-literals.literals.items in
    let is = lits_are c.as_slice.result.now literals g.observed c.as_slice-2.result.now c.as_slice-3.result.now c.in_ok-observed.observed.items c.as_slice.ensures.value c.as_slice-2.ensures c.as_slice-3.ensures.value c.in_ok-observed.ensures in
    let standing = subst (λ (rs : List Row). AllStand rs new literals) c.as_slice-rows.ensures c.in_ok-literals.ensures.standing in
    let stay = subst (λ (k : ℕ). SourcesStay k literals) c.in_ok-hashed.ensures.sources c.in_ok-literals.ensures.stay in
    let count = c.in_ok-literals.ensures.sources ∙ c.in_ok-hashed.ensures.sources in
    both_ok c.finish.result
    (λ made compact sources. remade_same g new literals standing stay (c.in_ok-literals.ensures.all ∙ ap length c.as_slice-rows.ensures) made (sources ∙ count)
    (subst₂ (λ (k : ℕ) (ls : List Lit). IsCompaction k new ls made.rows made.observed) count is compact))
    c.finish.ensures.compact c.finish.ensures.sources

pub remade-requires-clause-begins : goal.remade-requires-clause-begins
remade-requires-clause-begins c =
    let h = c.in_ok-hashed.hashed in
    record {
      few = c.in_ok-hashed.ensures.rows ∙ ap (λ (k : ℕ). k + 1) (sym c.in_ok-hashed.ensures.sources);
      sources = h.hashed.front;
      none = refl;
    }

pub returns-clause-applied : goal.returns-clause-applied
returns-clause-applied c =
    let g = c.args.graph.now in
    let new = c.remade.new.hashed.rows.items in
    let literals = c.in_ok-literals.literals.items in
    let is = lits_are c.as_slice.result.now literals g.observed c.as_slice-2.result.now c.as_slice-3.result.now c.in_ok-observed.observed.items c.as_slice.ensures.value c.as_slice-2.ensures c.as_slice-3.ensures.value c.in_ok-observed.ensures in
    let made : AreRemade g.source_count g.rows c.args.proposals.now c.args.taken.now (length g.rows) (remade new literals) =
    subst₂ (λ (k : ℕ) (rs : List Row). AreRemade k rs c.args.proposals.now c.args.taken.now (length rs) (remade new literals)) c.in_ok-hashed.ensures.sources c.as_slice-rows.ensures c.in_ok-literals.ensures.remade in
    IfOk-map c.finish.result
    (λ made_graph exact. record {
      s = remade new literals;
      made = made;
      compact = subst₂ (λ (k : ℕ) (ls : List Lit). IsHashedAgain k new ls made_graph.rows made_graph.observed) (c.in_ok-literals.ensures.sources ∙ c.in_ok-hashed.ensures.sources) is exact;
    }) c.finish.ensures.exact
