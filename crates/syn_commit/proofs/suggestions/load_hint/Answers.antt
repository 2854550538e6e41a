use Rattle.std.proofs.Common.{◌≡◌, false, nat_lt, length, sym, ap, ◌∙◌, subst, rules}
use Rattle.syn_core_laws.specs.Views.{key_loaded, row_loaded}
use Rattle.syn_decide.specs.Tasks.{task_of}
use Rattle.syn_table.specs.declared.Known.{Known}
use Rattle.syn_table.specs.Seating.{known_of, view_of}
use Rattle.syn_commit.specs.Hinted.{IsHint}
use Rattle.syn_commit.proofs.Happening.{met_again}
use Rattle.syn_commit.proofs.Meeting.{other_row, pair_row}
use Rattle.syn_commit.proofs.suggestions.load_hint.Goals as goal

pub returns-clause-hint : goal.returns-clause-hint
returns-clause-hint c =
    let t = task_of c.args.attempt.now in
    let n = c.args.node in
    let row = c.row_of-row.result in
    let key = c.key_of-key.result in
    let hit = nat_lt (length c.hits-before.result.now) (length c.hits.result.now) in
    let same : row ≡ c.args.pair = search rules in
    let loaded : view_of c.key_of-key.new.seat ≡ key_loaded (row_loaded (view_of c.args.seat.now) n row) n key =
    ap (λ (k : Known). k.core) c.key_of-key.ensures.known ∙ ap (λ (k : Known). key_loaded k.core n key) c.row_of-row.ensures.known in
    let again = met_again (known_of c.args.seat.now) n row (view_of c.row_of-row.new.seat) c.row_of-row.ensures.event (ap (λ (k : Known). k.core) c.row_of-row.ensures.known) in
    let counted : hit ≡ nat_lt (length c.read.new.self.hits) (length c.read-2.new.self.hits) =
    ap (λ rows. nat_lt (length rows) (length c.hits.result.now)) c.hits-before.ensures.rows ∙ ap (λ rows. nat_lt (length c.read.new.self.hits) (length rows)) c.hits.ensures.rows in
    subst (λ w. IsHint t n c.args.pair (view_of c.args.seat.now) c.args.deciding.now w c.read-2.new.self hit) (sym loaded)
    (pair_row t n c.args.pair (view_of c.args.seat.now) c.args.deciding.now c.requires.open row again key c.read.new.self c.read-2.new.self hit same c.read.ensures c.read-2.ensures counted)

pub returns-then-not-is_row-clause-hint : goal.returns-then-not-is_row-clause-hint
returns-then-not-is_row-clause-hint c =
    let t = task_of c.args.attempt.now in
    let n = c.args.node in
    let row = c.row_of-row.result in
    let loaded : view_of c.row_of-row.new.seat ≡ row_loaded (view_of c.args.seat.now) n row = ap (λ (k : Known). k.core) c.row_of-row.ensures.known in
    let again = met_again (known_of c.args.seat.now) n row (view_of c.row_of-row.new.seat) c.row_of-row.ensures.event loaded in
    subst (λ w. IsHint t n c.args.pair (view_of c.args.seat.now) c.args.deciding.now w c.read.new.self false) (sym loaded)
    (other_row t n c.args.pair (view_of c.args.seat.now) c.args.deciding.now c.requires.open row again c.read.new.self c.read.ensures)
