use Rattle.std.proofs.Common.{◌≡◌, ◌∙◌, List, ℕ, Some, None, map, string_bytes, ap, ap₂, sym}
use Rattle.syn_usage.specs.CommandLine.{file_in, refusals, script_in, workers_in, workers_of}
use Rattle.syn_usage.specs.Usage.{run_by}
use Rattle.syn_usage.proofs.UsageOfWords.{taken_is_run, without_work_is_faulty, without_workers_is_faulty}
use Rattle.syn_usage.proofs.arguments.arguments_in.Goals as goal

pub returns-in_default : goal.returns-in_default
returns-in_default c =
    let words : List (List ℕ) = map string_bytes c.args.words.now in
    record {
      run = tt;
      workers = tt;
      refused = without_work_is_faulty (refusals words) (workers_in words) (run_by (script_in words) (file_in words))
          (ap₂ run_by (sym c.in_ok-texts.ensures.script) (sym c.in_ok-texts.ensures.file) ∙ c.in_default.ensures.both);
    }

pub returns-in_default-workers_of : goal.returns-in_default-workers_of
returns-in_default-workers_of c =
    let words : List (List ℕ) = map string_bytes c.args.words.now in
    let none : workers_in words ≡ None = ap workers_of (sym c.in_ok-texts.ensures.workers) ∙ sym c.in_default-workers_of.ensures in
    record {
      run = tt;
      workers = tt;
      refused = without_workers_is_faulty (refusals words) (workers_in words) (run_by (script_in words) (file_in words)) none;
    }

pub returns : goal.returns
returns c =
    let words : List (List ℕ) = map string_bytes c.args.words.now in
    let given : workers_in words ≡ Some c.in-Some-workers_of.workers = ap workers_of (sym c.in_ok-texts.ensures.workers) ∙ sym c.in-Some-workers_of.ensures in
    record {
      run = taken_is_run (refusals words) (workers_in words) c.in-Some-workers_of.workers (run_by (script_in words) (file_in words)) c.in_ok-texts.ensures.accepted given
          ∙ (ap₂ run_by (sym c.in_ok-texts.ensures.script) (sym c.in_ok-texts.ensures.file) ∙ c.in-Some.ensures.run);
      workers = given;
      refused = tt;
    }
