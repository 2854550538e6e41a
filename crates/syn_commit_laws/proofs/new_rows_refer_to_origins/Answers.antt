use Rattle.syn_commit_laws.proofs.Origins.{new_rows_refer_to_origins}
use Rattle.syn_commit_laws.proofs.new_rows_refer_to_origins.Goals as goal

pub returns : goal.returns
returns c = new_rows_refer_to_origins
