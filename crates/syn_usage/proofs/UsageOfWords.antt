-- What is run by words of which one knows what the command says of them.
use Rattle.std.proofs.Common.{◌≡◌, ◌∙◌, ℕ, List, [], ◌∷◌, Option, Some, None, ap, ap₂, refl, sym}
use Rattle.syn_usage.specs.Usage.{Faulty, Usage, run_by, usage_by}

-- Words that the command refuses are faulty.
pub refused_is_faulty : {K : Type 0} (causes : List K) (workers : Option ℕ) (wanted : Usage) → (causes ≡ [] → ⊥) → usage_by causes workers wanted ≡ Faulty
refused_is_faulty [] workers wanted some = absurd (some refl)
refused_is_faulty (cause ∷ causes) workers wanted some = refl

-- Words without a number of workers are faulty.
pub without_workers_is_faulty : {K : Type 0} (causes : List K) (workers : Option ℕ) (wanted : Usage) → workers ≡ None → usage_by causes workers wanted ≡ Faulty
without_workers_is_faulty [] workers wanted none = rw none refl
without_workers_is_faulty (cause ∷ causes) workers wanted none = refl

-- Words whose script and file can't be run are faulty.
pub without_work_is_faulty : {K : Type 0} (causes : List K) (workers : Option ℕ) (wanted : Usage) → wanted ≡ Faulty → usage_by causes workers wanted ≡ Faulty
without_work_is_faulty [] None wanted faulty = refl
without_work_is_faulty [] (Some workers) wanted faulty = faulty
without_work_is_faulty (cause ∷ causes) workers wanted faulty = refl

-- Words that the command takes, with a number of workers, run what their script and file say.
pub taken_is_run : {K : Type 0} (causes : List K) (given : Option ℕ) (workers : ℕ) (wanted : Usage) → causes ≡ [] → given ≡ Some workers → usage_by causes given wanted ≡ wanted
taken_is_run causes given workers wanted taken some = rw (taken, some) refl
