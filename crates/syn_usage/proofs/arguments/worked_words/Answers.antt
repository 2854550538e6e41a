use Rattle.std.proofs.Common.{refl}
use Rattle.clap.proofs.OnLiterals.{clap_on_literals}
use Rattle.syn_usage.proofs.arguments.worked_words.Goals as goal

pub returns : goal.returns
unfolding clap_on_literals
returns c = record {
  nothing_at_all = (refl, refl);
  none = (refl, refl);
  script = (refl, refl);
  empty_script = (refl, refl);
  attached = (refl, refl);
  file = (refl, refl);
  silent = (refl, refl);
  silent_script = (refl, refl);
  silent_file = (refl, refl);
  silent_behind = (refl, refl);
  in_one_word = (refl, refl);
  workers = (refl, refl);
  workers_script = (refl, refl);
  file_workers = (refl, refl);
  no_script = refl;
  no_file = refl;
  two_scripts = refl;
  two_files = refl;
  script_and_file = refl;
  silent_twice = refl;
  silent_value = refl;
  help = refl;
  long_help = refl;
  version = refl;
  stray_word = refl;
  unknown_option = refl;
  word_behind = refl;
  no_worker = refl;
  too_many_workers = refl;
  signed_workers = refl;
  no_number = refl;
}
