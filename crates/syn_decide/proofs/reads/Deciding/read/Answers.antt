use Rattle.std.proofs.Common.{◌≡◌, ◌≤◌, ◌+◌, length, sym, ap, ap₂, ◌∙◌, subst, arith}
use Rattle.syn_decide.specs.declared.decisions.Phase.{Phase}
use Rattle.syn_decide.specs.declared.reads.Deciding.TheInside.{Inside}
use Rattle.syn_decide.specs.Tasks.{task_of}
use Rattle.syn_decide.specs.Fold.{State, Stage, read_at, read_counting, read_hinting, read_one}
use Rattle.syn_decide.specs.Phases.{most_at, stage_of, state_at}
use Rattle.syn_decide.proofs.reads.Deciding.read.Goals as goal
use Rattle.syn_decide.proofs.reads.Deciding.read.Goals.{in-Walking, in-Keying, in-Hinting, in-Counting, in-Ended, in-Failed}

-- the definition's state, by the parts
abbrev viewed : Phase → Inside → State
viewed phase inside = state_at (stage_of phase inside.waiting) inside.inner.items inside.found

abbrev Kept : Phase → Inside → Type 0
Kept phase inside = (length inside.waiting ≤ 9 + length inside.inner.items) × (length inside.inner.items ≤ most_at phase)

moved : (p q : Phase) (i j : Inside) → p ≡ q → i ≡ j → Kept q j → Kept p i
moved p q i j e f h = subst (λ x. Kept x i) (sym e) (subst (λ x. Kept q x) (sym f) h)

pub invariant_of-self : goal.invariant_of-self
invariant_of-self c =
    elim c.match-self.branch [
      | in-Walking w ↦ moved _ _ _ _ w.self-is w.self-inside-is (w.read_walking-self-inside.ensures.few, w.read_walking-self-inside.ensures.room)
      | in-Keying w ↦ moved _ _ _ _ w.self-is w.self-inside-is (omega (arith, c.self.invariant.0, w.read_keying-self-inside.ensures.few), omega (arith, c.self.invariant.1, ap most_at w.in-Keying.is, w.read_keying-self-inside.ensures.room))
      | in-Hinting w ↦ moved _ _ _ _ w.self-is w.self-inside-is (c.self.invariant.0, omega (arith, c.self.invariant.1, ap most_at w.in-Hinting.is, w.read_hinting-self-inside.ensures.room))
      | in-Counting w ↦ moved _ _ _ _ w.self-is w.self-inside-is (c.self.invariant.0, omega (arith, c.self.invariant.1, ap most_at w.in-Counting.is, w.read_counting-self-inside.ensures.room))
      | in-Ended w ↦ moved _ _ _ _ w.self-is w.self-inside-is (c.self.invariant.0, omega (arith, c.self.invariant.1, ap most_at w.in-Ended.is))
      | in-Failed w ↦ moved _ _ _ _ w.self-is w.self-inside-is (c.self.invariant.0, omega (arith, c.self.invariant.1, ap most_at w.in-Failed.is))
    ]

pub returns : goal.returns
returns c =
    let t = task_of c.args.attempt.now in
    let i : Inside = c.self.inside in
    let stage : Stage = stage_of i.phase i.waiting in
    elim c.match-self.branch [
      | in-Walking w ↦ ap₂ viewed w.self-is w.self-inside-is
          ∙ w.read_walking-self-inside.ensures.state stage i.found
          ∙ sym (ap (λ p. read_at t (viewed i.phase i) (stage_of p i.waiting) c.args.read) w.in-Walking.is)
          ∙ ap (λ s. read_one t s c.args.read) c.self.view_is
      | in-Keying w ↦ ap₂ viewed w.self-is w.self-inside-is
          ∙ w.read_keying-self-inside.ensures.state stage i.inner.items
          ∙ sym (ap (λ p. read_at t (viewed i.phase i) (stage_of p i.waiting) c.args.read) w.in-Keying.is)
          ∙ ap (λ s. read_one t s c.args.read) c.self.view_is
      | in-Hinting w ↦ ap₂ viewed w.self-is w.self-inside-is
          ∙ subst
          (λ inner. state_at (stage_of w.read_hinting-self-inside.result i.waiting) inner w.read_hinting-self-inside.new.found
          ≡ read_hinting t (state_at stage inner i.found) w.in-Hinting.last c.args.read)
          w.as_slice.ensures.value (w.read_hinting-self-inside.ensures.state stage i.waiting)
          ∙ sym (ap (λ p. read_at t (viewed i.phase i) (stage_of p i.waiting) c.args.read) w.in-Hinting.is)
          ∙ ap (λ s. read_one t s c.args.read) c.self.view_is
      | in-Counting w ↦ ap₂ viewed w.self-is w.self-inside-is
          ∙ subst
          (λ inner. state_at (stage_of w.read_counting-self-inside.result i.waiting) inner w.read_counting-self-inside.new.found
          ≡ read_counting t (state_at stage inner i.found) c.args.read)
          w.as_slice-in-Counting.ensures.value (w.read_counting-self-inside.ensures.state stage i.waiting)
          ∙ sym (ap (λ p. read_at t (viewed i.phase i) (stage_of p i.waiting) c.args.read) w.in-Counting.is)
          ∙ ap (λ s. read_one t s c.args.read) c.self.view_is
      | in-Ended w ↦ ap₂ viewed w.self-is w.self-inside-is
          ∙ sym (ap (λ p. read_at t (viewed i.phase i) (stage_of p i.waiting) c.args.read) w.in-Ended.is)
          ∙ ap (λ s. read_one t s c.args.read) c.self.view_is
      | in-Failed w ↦ ap₂ viewed w.self-is w.self-inside-is
          ∙ sym (ap (λ p. read_at t (viewed i.phase i) (stage_of p i.waiting) c.args.read) w.in-Failed.is)
          ∙ ap (λ s. read_one t s c.args.read) c.self.view_is
    ]
