-- Lists of events, event by event.
use Rattle.std.proofs.Common.{◌≡◌, ℕ, zero, suc, ◌+◌, drop, ◌<◌, List, [], ◌∷◌, length, get_or, sym, ap, ◌∙◌, subst, arith}
use Rattle.syn_core.specs.declared.ReplayFault.{ReplayFault}
use Rattle.syn_core.specs.declared.ReplayFault.TheVariants as Replay
use Rattle.syn_core.specs.Refusals.{Refuses, RefusesHere}
use Rattle.syn_core_laws.specs.declared.Event.{Event}
use Rattle.syn_core_laws.specs.Cores.{Core}
use Rattle.syn_core_laws.specs.Events.{Allowed}
use Rattle.syn_core_laws.specs.Runs.{Steps, Runs, FirstForbidden}

pub runs_more : (c next d : Core) (es rest : List Event) (e : Event) → es ≡ e ∷ rest → Steps c e next → Runs next rest d → Runs c es d
runs_more c next d es rest e is step run = subst (λ l. Runs c l d) (sym is) (next, step, run)

pub first_more : (c next : Core) (es rest : List Event) (e : Event) (i : ℕ) → es ≡ e ∷ rest → Steps c e next → FirstForbidden next rest i → FirstForbidden c es (suc i)
first_more c next es rest e i is step first = subst (λ l. FirstForbidden c l (suc i)) (sym is) (next, step, first)

pub first_here : (c : Core) (es rest : List Event) (e : Event) → es ≡ e ∷ rest → (Allowed c e.seat e.kind → ⊥) → FirstForbidden c es zero
first_here c es rest e is forbidden = subst (λ l. FirstForbidden c l zero) (sym is) forbidden

-- the list from an index on
pub from_index : (l : List Event) (i : ℕ) (e : Event) → i < length l → e ≡ get_or l i e → drop i l ≡ e ∷ drop (i + 1) l
from_index [] i e lt is = absurd (omega arith)
from_index (x ∷ xs) zero e lt is = ap (λ y. y ∷ xs) (sym is)
from_index (x ∷ xs) (suc i) e lt is =
    let more : suc i + 1 ≡ suc (i + 1) = omega arith in
    from_index xs i e (omega arith) is ∙ ap (λ k. e ∷ drop k (x ∷ xs)) (sym more)

-- one event more of a replay
module _ (state start : Core) (events : List Event) (index : ℕ) (e : Event) (inside : index < length events) (is : e ≡ get_or events index e)
    (first : (i : ℕ) → FirstForbidden state (drop index events) i → FirstForbidden start events (index + i)) where
  pub replay_refuses : (fault : ReplayFault) → RefusesHere state e index fault → Refuses start events fault
  replay_refuses (Replay.NotAllowed i) h =
      let here : index + 0 ≡ i = let at : i ≡ index = h.0 in omega arith in
      subst (FirstForbidden start events) here (first 0 (first_here state (drop index events) (drop (index + 1) events) e (from_index events index e inside is) h.1))
  replay_refuses Replay.NoMemory h = tt

  pub replay_first : (next : Core) → Steps state e next → (i : ℕ) → FirstForbidden next (drop (index + 1) events) i → FirstForbidden start events (index + 1 + i)
  replay_first next step i h =
      let more : index + suc i ≡ index + 1 + i = omega arith in
      subst (FirstForbidden start events) more (first (suc i) (first_more state next (drop index events) (drop (index + 1) events) e i (from_index events index e inside is) step h))
