use Rattle.std.proofs.Common.{◌≡◌, false, if◌then◌else◌, [], ◌∷◌, ◌++◌, List, ℕ, refl, sym, ap, ◌∙◌, subst, rules}
use Rattle.syn_core_laws.specs.declared.Seen.TheVariants as seen
use Rattle.syn_core_laws.specs.Views.{claimed, missed}
use Rattle.syn_table.specs.declared.Known.{Known}
use Rattle.syn_table.specs.Seating.{known_of, view_of}
use Rattle.syn_commit.specs.Pools.{AreTried}
use Rattle.syn_commit.proofs.Trying.{free_kept, let_go_kept, missed_tried, taken_view, used_rows}
use Rattle.syn_commit.proofs.spare.Spare.try_node.Goals as goal

pub returns-in-Free-clause-pool : goal.returns-in-Free-clause-pool
returns-in-Free-clause-pool c =
    let view = taken_view (known_of c.args.seat.now) (known_of c.claim.new.seat) (known_of c.row_of.new.seat) c.claim.result c.args.node c.row_of.result (search rules) c.claim.ensures.known c.row_of.ensures.known in
    (free_kept (view_of c.args.seat.now) c.args.node c.args.self.now _ _ c.row_of.result c.requires.none c.requires.pool c.in-Free.is view (c.push.ensures.items ∙ ap (λ (ns : List ℕ). ns ++ c.args.node ∷ []) c.self.view_is)).0

pub returns-in-Free-clause-tried : goal.returns-in-Free-clause-tried
returns-in-Free-clause-tried c =
    let view = taken_view (known_of c.args.seat.now) (known_of c.claim.new.seat) (known_of c.row_of.new.seat) c.claim.result c.args.node c.row_of.result (search rules) c.claim.ensures.known c.row_of.ensures.known in
    (free_kept (view_of c.args.seat.now) c.args.node c.args.self.now _ _ c.row_of.result c.requires.none c.requires.pool c.in-Free.is view (c.push.ensures.items ∙ ap (λ (ns : List ℕ). ns ++ c.args.node ∷ []) c.self.view_is)).1

pub returns-in-Source-clause-pool : goal.returns-in-Source-clause-pool
returns-in-Source-clause-pool c =
    let view = taken_view (known_of c.args.seat.now) (known_of c.claim.new.seat) (known_of c.row_of.new.seat) c.claim.result c.args.node c.row_of.result (search rules) c.claim.ensures.known c.row_of.ensures.known in
    (let_go_kept (view_of c.args.seat.now) c.args.node c.args.self.now _ _ c.row_of.result c.requires.none c.requires.pool (used_rows c.row_of.result c.in-Source.is) view (ap (λ (k : Known). k.core) c.release.ensures.known)).0

pub returns-in-Source-clause-tried : goal.returns-in-Source-clause-tried
returns-in-Source-clause-tried c =
    let view = taken_view (known_of c.args.seat.now) (known_of c.claim.new.seat) (known_of c.row_of.new.seat) c.claim.result c.args.node c.row_of.result (search rules) c.claim.ensures.known c.row_of.ensures.known in
    (let_go_kept (view_of c.args.seat.now) c.args.node c.args.self.now _ _ c.row_of.result c.requires.none c.requires.pool (used_rows c.row_of.result c.in-Source.is) view (ap (λ (k : Known). k.core) c.release.ensures.known)).1

pub returns-then-not-claim-clause-tried : goal.returns-then-not-claim-clause-tried
returns-then-not-claim-clause-tried c =
    let v = view_of c.args.seat.now in
    let n = c.args.node in
    let lost : c.claim.result ≡ false = search rules in
    let view : view_of c.claim.new.seat ≡ missed v n = ap (λ (k : Known). k.core) c.claim.ensures.known ∙ ap (λ b. if b then claimed v n else missed v n) lost in (
      seen.Miss n ∷ [],
      subst (λ w. AreTried n v c.args.self.now (seen.Miss n ∷ []) w c.args.self.now) (sym view) (missed_tried v n c.args.self.now c.requires.none c.requires.pool),
      refl,
    )
