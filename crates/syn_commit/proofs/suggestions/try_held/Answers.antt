use Rattle.std.proofs.Common.{◌≡◌, ◌++◌, ◌∷◌, [], false, true, sym, ap, subst, rules}
use Rattle.syn_decide.specs.Tasks.{task_of}
use Rattle.syn_table.specs.declared.Known.{Known}
use Rattle.syn_table.specs.Seating.{view_of}
use Rattle.syn_commit.specs.Hinted.{IsHinting}
use Rattle.syn_commit.specs.Keyed.{IsKeyedSoFar}
use Rattle.syn_commit.proofs.Keeping.{held_hits_keyed, held_misses_keyed, no_hit}
use Rattle.syn_commit.proofs.Meshing.{hit_may, held_hits, held_misses}
use Rattle.syn_commit.proofs.suggestions.try_held.Goals as goal

pub pin-requires-clause-may : goal.pin-requires-clause-may
pin-requires-clause-may c =
    let is : c.load_hint.result ≡ true = search rules in
    hit_may (task_of c.args.trial.now.attempt) c.args.deciding.now c.args.node c.args.pair (view_of c.load_hint.new.seat) c.requires.open (c.load_hint.ensures.hint.own is)

pub returns-then-not-load_hint-clause-hints : goal.returns-then-not-load_hint-clause-hints
returns-then-not-load_hint-clause-hints c =
    let is : c.load_hint.result ≡ false = search rules in
    let t = task_of c.args.trial.now.attempt in
    let missed = held_misses t (view_of c.args.trial.now.start.now.value) (view_of c.args.seat.now) c.args.trial.now.pool.now c.args.pins.now.items c.args.deciding.now c.requires.way.trying c.args.node c.args.pair c.requires.open
    (view_of c.load_hint.new.seat) c.load_hint.new.deciding c.load_hint.result is c.load_hint.ensures.hint in
    let keyed = held_misses_keyed t c.args.pins.now.items (view_of c.args.seat.now) c.args.deciding.now c.requires.way.keyed c.requires.open.stage c.args.node c.requires.unpinned c.requires.other_root c.args.pair
    (view_of c.load_hint.new.seat) c.load_hint.new.deciding c.load_hint.result is c.load_hint.ensures.hint in
    record { way = record { table = c.load_hint.ensures.table; trying = missed.trying; keyed = keyed }; stage = missed.stage }

pub returns-clause-hints : goal.returns-clause-hints
returns-clause-hints c =
    let is : c.load_hint.result ≡ true = search rules in
    let t = task_of c.args.trial.now.attempt in
    let hit : IsHinting t (view_of c.args.trial.now.start.now.value) c.args.trial.now.pool.now c.push.new.self.items (view_of c.pin.new.seat) c.load_hint.new.deciding =
    subst (λ ps. IsHinting t (view_of c.args.trial.now.start.now.value) c.args.trial.now.pool.now ps (view_of c.pin.new.seat) c.load_hint.new.deciding) (sym c.push.ensures.items)
    (subst (λ w. IsHinting t (view_of c.args.trial.now.start.now.value) c.args.trial.now.pool.now (c.args.pins.now.items ++ c.args.node ∷ []) w c.load_hint.new.deciding) (sym (ap (λ (k : Known). k.core) c.pin.ensures.known))
    (held_hits t (view_of c.args.trial.now.start.now.value) (view_of c.args.seat.now) c.args.trial.now.pool.now c.args.pins.now.items c.args.deciding.now c.requires.way.trying c.args.node c.args.pair c.requires.open
    (view_of c.load_hint.new.seat) c.load_hint.new.deciding c.load_hint.result is c.requires.other_root c.requires.inner c.load_hint.ensures.hint)) in
    let keyed : IsKeyedSoFar t c.push.new.self.items (view_of c.pin.new.seat) c.load_hint.new.deciding =
    subst (λ ps. IsKeyedSoFar t ps (view_of c.pin.new.seat) c.load_hint.new.deciding) (sym c.push.ensures.items)
    (subst (λ w. IsKeyedSoFar t (c.args.pins.now.items ++ c.args.node ∷ []) w c.load_hint.new.deciding) (sym (ap (λ (k : Known). k.core) c.pin.ensures.known))
    (held_hits_keyed t c.args.pins.now.items (view_of c.args.seat.now) c.args.deciding.now c.requires.way.keyed c.requires.open.stage c.args.node c.requires.unpinned c.requires.other_root c.args.pair
    (view_of c.load_hint.new.seat) c.load_hint.new.deciding c.load_hint.result is c.load_hint.ensures.hint)) in
    record { way = record { table = c.pin.ensures.table; trying = hit.trying; keyed = keyed }; stage = hit.stage }

pub returns-then-not-load_hint-clause-same : goal.returns-then-not-load_hint-clause-same
returns-then-not-load_hint-clause-same c = λ none.
    let is : c.load_hint.result ≡ false = search rules in
    no_hit (task_of c.args.trial.now.attempt) c.args.node c.args.pair (view_of c.args.seat.now) (view_of c.load_hint.new.seat) c.args.deciding.now c.load_hint.new.deciding c.load_hint.result is c.load_hint.ensures.hint
