use Rattle.std.proofs.Common.{◌≡◌, ℕ, List, [], map, string_bytes, codes, sym, ap, ◌∙◌, subst, inl, inr}
use Rattle.clap.specs.Words.{App, Kinds, HasKind, fault_of, first_of, found_of, is_simple, is_simple_and_free, matches_of, rows_of}
use Rattle.clap.proofs.WalkLemmas.{first_value-rows}
use Rattle.syn_usage.specs.CommandLine.{file_in, script_in, workers_in, usage}
use Rattle.syn_usage.specs.Usage.{run_by}
use Rattle.syn_usage.proofs.UsageOfWords.{refused_is_faulty}
use Rattle.syn_usage.proofs.SimpleUsage.{usage_is_simple, usage_is_free}
use Rattle.syn_usage.proofs.arguments.texts_of.Goals as goal

pub returns-in-Ok-clause-accepted : goal.returns-in-Ok-clause-accepted
returns-in-Ok-clause-accepted c =
    let words : List (List ℕ) = map string_bytes c.args.words.now in
    ap (λ (a : App). fault_of a words) (sym c.in_ok-command.ensures) ∙ c.in-Ok.ensures.kinds (ap is_simple_and_free c.in_ok-command.ensures ∙ usage_is_free)

pub returns-in-Ok-clause-script : goal.returns-in-Ok-clause-script
returns-in-Ok-clause-script c =
    let words : List (List ℕ) = map string_bytes c.args.words.now in
    let rows : rows_of (found_of c.in-Ok.matches) ≡ matches_of usage words = (c.in-Ok.ensures.matches (ap is_simple c.in_ok-command.ensures ∙ usage_is_simple)).0 ∙ ap (λ (a : App). matches_of a words) c.in_ok-command.ensures in
    c.get_str.ensures ∙ first_value-rows (found_of c.in-Ok.matches) (codes "script") ∙ ap (first_of (codes "script")) rows

pub returns-in-Ok-clause-file : goal.returns-in-Ok-clause-file
returns-in-Ok-clause-file c =
    let words : List (List ℕ) = map string_bytes c.args.words.now in
    let rows : rows_of (found_of c.in-Ok.matches) ≡ matches_of usage words = (c.in-Ok.ensures.matches (ap is_simple c.in_ok-command.ensures ∙ usage_is_simple)).0 ∙ ap (λ (a : App). matches_of a words) c.in_ok-command.ensures in
    c.get_str-in-Ok.ensures ∙ first_value-rows (found_of c.in-Ok.matches) (codes "file") ∙ ap (first_of (codes "file")) rows

pub returns-in-Ok-clause-workers : goal.returns-in-Ok-clause-workers
returns-in-Ok-clause-workers c =
    let words : List (List ℕ) = map string_bytes c.args.words.now in
    let rows : rows_of (found_of c.in-Ok.matches) ≡ matches_of usage words = (c.in-Ok.ensures.matches (ap is_simple c.in_ok-command.ensures ∙ usage_is_simple)).0 ∙ ap (λ (a : App). matches_of a words) c.in_ok-command.ensures in
    c.get_str-in-Ok-2.ensures ∙ first_value-rows (found_of c.in-Ok.matches) (codes "workers") ∙ ap (first_of (codes "workers")) rows

pub returns : goal.returns
returns c =
    let words : List (List ℕ) = map string_bytes c.args.words.now in
    record {
      accepted = tt;
      script = tt;
      file = tt;
      workers = tt;
      refused = refused_is_faulty (fault_of usage words) (workers_in words) (run_by (script_in words) (file_in words)) (λ none.
          let kinds : HasKind [] c.in-Err.error = subst (λ (ks : Kinds). HasKind ks c.in-Err.error) (ap (λ (a : App). fault_of a words) c.in_ok-command.ensures ∙ none)
          (c.in-Err.ensures.kinds (ap is_simple_and_free c.in_ok-command.ensures ∙ usage_is_free)) in
          elim kinds [ inl memory ↦ c.in_default.not-OutOfMemory (c.kind.ensures ∙ memory) | inr other ↦ other ]);
    }
