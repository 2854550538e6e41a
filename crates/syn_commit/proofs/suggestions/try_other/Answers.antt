use Rattle.std.proofs.Common.{◌≡◌, ◌++◌, ◌∷◌, [], false, true, sym, ap, subst, rules}
use Rattle.syn_core_laws.specs.declared.View.{View}
use Rattle.syn_core_laws.specs.Views.{claimed, missed}
use Rattle.syn_decide.specs.Tasks.{task_of}
use Rattle.syn_table.specs.declared.Known.{Known}
use Rattle.syn_table.specs.Seating.{nodes_of, view_of}
use Rattle.syn_commit.specs.Hinted.{IsHint, IsHinting}
use Rattle.syn_commit.specs.Keyed.{IsKeyedSoFar}
use Rattle.syn_commit.proofs.Keeping.{claim_misses, missed_hits, no_hit, other_hits_keyed, other_misses_keyed}
use Rattle.syn_commit.proofs.Meshing.{hit_may, other_hits, other_missed, other_misses}
use Rattle.syn_commit.proofs.suggestions.try_other.Goals as goal

pub pin-requires-clause-may : goal.pin-requires-clause-may
pin-requires-clause-may c =
    let is : c.load_hint.result ≡ true = search rules in
    hit_may (task_of c.args.trial.now.attempt) c.args.deciding.now c.args.node c.args.pair (view_of c.load_hint.new.seat) c.requires.open (c.load_hint.ensures.hint.own is)

pub returns-then-not-claim-clause-hints : goal.returns-then-not-claim-clause-hints
returns-then-not-claim-clause-hints c =
    let t = task_of c.args.trial.now.attempt in
    let miss : view_of c.claim.new.seat ≡ missed (view_of c.args.seat.now) c.args.node = search rules in
    let lost : IsHinting t (view_of c.args.trial.now.start.now.value) c.args.trial.now.pool.now c.args.pins.now.items (view_of c.claim.new.seat) c.read.new.self =
    subst (λ w. IsHinting t (view_of c.args.trial.now.start.now.value) c.args.trial.now.pool.now c.args.pins.now.items w c.read.new.self) (sym miss)
    (other_missed t (view_of c.args.trial.now.start.now.value) (view_of c.args.seat.now) c.args.trial.now.pool.now c.args.pins.now.items c.args.deciding.now c.requires.way.trying c.args.node c.args.pair c.requires.open c.requires.other
    c.read.new.self c.read.ensures) in
    let keyed : IsKeyedSoFar t c.args.pins.now.items (view_of c.claim.new.seat) c.read.new.self =
    subst (λ w. IsKeyedSoFar t c.args.pins.now.items w c.read.new.self) (sym miss)
    (claim_misses t c.args.pins.now.items (view_of c.args.seat.now) c.args.deciding.now c.requires.way.keyed c.requires.open.stage c.args.node c.requires.unpinned c.requires.other_root c.read.new.self c.read.ensures) in
    record { way = record { table = c.claim.ensures.table; trying = lost.trying; keyed = keyed }; stage = lost.stage }

pub returns-then-not-load_hint-clause-hints : goal.returns-then-not-load_hint-clause-hints
returns-then-not-load_hint-clause-hints c =
    let t = task_of c.args.trial.now.attempt in
    let is : c.load_hint.result ≡ false = search rules in
    let held : view_of c.claim.new.seat ≡ claimed (view_of c.args.seat.now) c.args.node = search rules in
    let hint = subst (λ (v : View). IsHint t c.args.node c.args.pair v c.args.deciding.now (view_of c.load_hint.new.seat) c.load_hint.new.deciding c.load_hint.result) held c.load_hint.ensures.hint in
    let let_go : IsHinting t (view_of c.args.trial.now.start.now.value) c.args.trial.now.pool.now c.args.pins.now.items (view_of c.release.new.seat) c.load_hint.new.deciding =
    subst (λ w. IsHinting t (view_of c.args.trial.now.start.now.value) c.args.trial.now.pool.now c.args.pins.now.items w c.load_hint.new.deciding) (sym (ap (λ (k : Known). k.core) c.release.ensures.known))
    (other_misses t (view_of c.args.trial.now.start.now.value) (view_of c.args.seat.now) c.args.trial.now.pool.now c.args.pins.now.items c.args.deciding.now c.requires.way.trying c.args.node c.args.pair c.requires.open c.requires.other
    (view_of c.load_hint.new.seat) c.load_hint.new.deciding c.load_hint.result is hint) in
    let keyed : IsKeyedSoFar t c.args.pins.now.items (view_of c.release.new.seat) c.load_hint.new.deciding =
    subst (λ w. IsKeyedSoFar t c.args.pins.now.items w c.load_hint.new.deciding) (sym (ap (λ (k : Known). k.core) c.release.ensures.known))
    (other_misses_keyed t c.args.pins.now.items (view_of c.args.seat.now) c.args.deciding.now c.requires.way.keyed c.requires.open.stage c.args.node c.requires.unpinned c.requires.other_root c.args.pair
    (view_of c.load_hint.new.seat) c.load_hint.new.deciding c.load_hint.result (nodes_of c.args.trial.now.shared.now) c.seats_reach_nodes.ensures.shown is hint) in
    record { way = record { table = c.release.ensures.table; trying = let_go.trying; keyed = keyed }; stage = let_go.stage }

pub returns-clause-hints : goal.returns-clause-hints
returns-clause-hints c =
    let t = task_of c.args.trial.now.attempt in
    let is : c.load_hint.result ≡ true = search rules in
    let held : view_of c.claim.new.seat ≡ claimed (view_of c.args.seat.now) c.args.node = search rules in
    let hint = subst (λ (v : View). IsHint t c.args.node c.args.pair v c.args.deciding.now (view_of c.load_hint.new.seat) c.load_hint.new.deciding c.load_hint.result) held c.load_hint.ensures.hint in
    let hit : IsHinting t (view_of c.args.trial.now.start.now.value) c.args.trial.now.pool.now c.push.new.self.items (view_of c.pin.new.seat) c.load_hint.new.deciding =
    subst (λ ps. IsHinting t (view_of c.args.trial.now.start.now.value) c.args.trial.now.pool.now ps (view_of c.pin.new.seat) c.load_hint.new.deciding) (sym c.push.ensures.items)
    (subst (λ w. IsHinting t (view_of c.args.trial.now.start.now.value) c.args.trial.now.pool.now (c.args.pins.now.items ++ c.args.node ∷ []) w c.load_hint.new.deciding) (sym (ap (λ (k : Known). k.core) c.pin.ensures.known))
    (other_hits t (view_of c.args.trial.now.start.now.value) (view_of c.args.seat.now) c.args.trial.now.pool.now c.args.pins.now.items c.args.deciding.now c.requires.way.trying c.args.node c.args.pair c.requires.open c.requires.other
    (view_of c.load_hint.new.seat) c.load_hint.new.deciding c.load_hint.result is c.requires.other_root hint)) in
    let keyed : IsKeyedSoFar t c.push.new.self.items (view_of c.pin.new.seat) c.load_hint.new.deciding =
    subst (λ ps. IsKeyedSoFar t ps (view_of c.pin.new.seat) c.load_hint.new.deciding) (sym c.push.ensures.items)
    (subst (λ w. IsKeyedSoFar t (c.args.pins.now.items ++ c.args.node ∷ []) w c.load_hint.new.deciding) (sym (ap (λ (k : Known). k.core) c.pin.ensures.known))
    (other_hits_keyed t c.args.pins.now.items (view_of c.args.seat.now) c.args.deciding.now c.requires.way.keyed c.requires.open.stage c.args.node c.requires.unpinned c.requires.other_root c.args.pair
    (view_of c.load_hint.new.seat) c.load_hint.new.deciding c.load_hint.result is hint)) in
    record { way = record { table = c.pin.ensures.table; trying = hit.trying; keyed = keyed }; stage = hit.stage }

pub returns-then-not-claim-clause-same : goal.returns-then-not-claim-clause-same
returns-then-not-claim-clause-same c = λ none.
    missed_hits (task_of c.args.trial.now.attempt) c.args.deciding.now c.read.new.self c.args.node c.requires.open.stage c.read.ensures

pub returns-then-not-load_hint-clause-same : goal.returns-then-not-load_hint-clause-same
returns-then-not-load_hint-clause-same c = λ none.
    let is : c.load_hint.result ≡ false = search rules in
    no_hit (task_of c.args.trial.now.attempt) c.args.node c.args.pair (view_of c.claim.new.seat) (view_of c.load_hint.new.seat) c.args.deciding.now c.load_hint.new.deciding c.load_hint.result is c.load_hint.ensures.hint
