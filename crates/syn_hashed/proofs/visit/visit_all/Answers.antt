use Rattle.std.proofs.Common.{◌≡◌, ◌∙◌, ◌++◌, ◌∷◌, [], ◌*◌, Bool, List, length, vec_len, refl, sym, ap, subst, subst₂, arith}
use Rattle.std.proofs.lemmas.List.{take_at}
use Rattle.syn_hashed.specs.declared.visit.Step.TheVariants.{Enter, Leave}
use Rattle.syn_hashed.specs.Visiting.{visited}
use Rattle.syn_hashed.specs.Walking.{IsVisitingWalk}
use Rattle.syn_hashed.proofs.Visits.{first_front, some_is, some_of}
use Rattle.syn_hashed.proofs.Walked.{next_there, source_below, walk_begins, walk_entered, walk_leave, walk_next}
use Rattle.syn_hashed.proofs.visit.visit_all.Goals as goal

pub loop-step-init : goal.loop-step-init
loop-step-init g c =
    let count = g.M.Maker.sources c.args.maker.now in
    let rows = c.args.rows.now in
    let lits = c.args.observed.now in
    let literals = c.args.literals.now in
    record {
      sources = refl;
      stands = c.requires.stands;
      front = λ m lt. some_of (visited literals m) (record { 0 = 2 * m }) (first_front count (length rows) literals c.requires.firsts (source_below count rows lits c.requires.can) m lt);
      walk = subst₂ (IsVisitingWalk count rows lits literals) (sym c.in_ok-marks.ensures) (sym c.in_ok-stack.ensures) (walk_begins count rows lits literals c.requires.can c.requires.firsts);
    }

pub enter-requires-clause-there : goal.enter-requires-clause-there
enter-requires-clause-there g c =
    let count = g.M.Maker.sources c.args.maker.now in
    let rows = c.args.rows.now in
    let lits = c.args.observed.now in
    let below = c.pop.new.self.items in
    next_there count rows lits c.loop-step.literals c.loop-step.marks.items below (Enter c.in-Enter.node) c.requires.can
    (walk_next count rows lits c.loop-step.literals c.loop-step.marks.items c.loop-step.stack.items below c.in-Some.step (Enter c.in-Enter.node) c.loop-step.invariant.walk c.in-Some.ensures.items c.in-Enter.is)

pub loop-step-preserved-in-Continue-branch-3 : goal.loop-step-preserved-in-Continue-branch-3
loop-step-preserved-in-Continue-branch-3 g c =
    let count = g.M.Maker.sources c.args.maker.now in
    let rows = c.args.rows.now in
    let lits = c.args.observed.now in
    let literals = c.loop-step.literals in
    let below = c.pop.new.self.items in
    let old = c.as_mut_slice.result.now in
    let new = c.enter.new.marks in
    let after = c.enter.new.stack.items in
    let node = c.in-Enter.node in
    let before : IsVisitingWalk count rows lits literals c.loop-step.marks.items (below ++ Enter node ∷ []) =
    walk_next count rows lits literals c.loop-step.marks.items c.loop-step.stack.items below c.in-Some.step (Enter node) c.loop-step.invariant.walk c.in-Some.ensures.items c.in-Enter.is in
    let walk : IsVisitingWalk count rows lits literals new after =
    walk_entered count rows lits literals old new below after node c.requires.can c.loop-step.invariant.front
    (subst (λ (marks : List Bool). IsVisitingWalk count rows lits literals marks (below ++ Enter node ∷ [])) (sym c.as_mut_slice.ensures.value) before) c.in_ok-enter-in-Enter.ensures.skipped c.in_ok-enter-in-Enter.ensures.entered in
    let size : length new ≡ vec_len c.loop-step.marks = omega (arith, walk.all, c.loop-step.invariant.walk.all, ap length c.as_mut_slice.ensures.value, c.as_mut_slice.ensures.len) in
    record {
      sources = c.loop-step.invariant.sources;
      stands = c.loop-step.invariant.stands;
      front = c.loop-step.invariant.front;
      walk = subst (λ (marks : List Bool). IsVisitingWalk count rows lits literals marks after) (sym (take_at new _ (vec_len c.loop-step.marks) size)) walk;
    }

pub make-requires-clause-there : goal.make-requires-clause-there
make-requires-clause-there g c =
    let count = g.M.Maker.sources c.args.maker.now in
    let rows = c.args.rows.now in
    let lits = c.args.observed.now in
    let below = c.pop.new.self.items in
    next_there count rows lits c.loop-step.literals c.loop-step.marks.items below (Leave c.in-Leave.node) c.requires.can
    (walk_next count rows lits c.loop-step.literals c.loop-step.marks.items c.loop-step.stack.items below c.in-Some.step (Leave c.in-Leave.node) c.loop-step.invariant.walk c.in-Some.ensures.items c.in-Leave.is)

pub loop-step-preserved : goal.loop-step-preserved
loop-step-preserved g c =
    let count = g.M.Maker.sources c.args.maker.now in
    let rows = c.args.rows.now in
    let lits = c.args.observed.now in
    let old = c.loop-step.literals in
    let new = c.make.new.literals in
    let marks = c.loop-step.marks.items in
    let below = c.pop.new.self.items in
    let node = c.in-Leave.node in
    let made = c.in_ok-make-in-Leave.ensures in
    let before : IsVisitingWalk count rows lits old marks (below ++ Leave node ∷ []) =
    walk_next count rows lits old marks c.loop-step.stack.items below c.in-Some.step (Leave node) c.loop-step.invariant.walk c.in-Some.ensures.items c.in-Leave.is in
    record {
      sources = made.sources ∙ c.loop-step.invariant.sources;
      stands = made.stands;
      front = λ m lt. (let (l, e) = some_is (visited old m) (c.loop-step.invariant.front m lt) in some_of (visited new m) l (made.stays m l e));
      walk = walk_leave count rows lits old new marks below node c.requires.can c.loop-step.invariant.front made.stays made.others made.made before;
    }
