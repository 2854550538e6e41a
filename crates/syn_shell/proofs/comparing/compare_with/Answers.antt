use Rattle.std.proofs.Common.{◌≡◌, refl, ◌∙◌}
use Rattle.syn_network.specs.Written as graphs
use Rattle.syn_shell.proofs.Matched.{part_compared, put_compared, unmatched_refused}
use Rattle.syn_shell.proofs.comparing.compare_with.Goals as goal

pub returns-in-Err-clause-refused : goal.returns-in-Err-clause-refused
returns-in-Err-clause-refused g c = λ one network disk first same.
    unmatched_refused one c.args.second.now network disk (g.F.Files.disk c.args.files.now) (g.F.Files.disk c.read_file.new.files) (g.O.Sink.screen c.args.out.now) (g.O.Sink.screen c.args.out.now)
    (graphs.network_of c.args.first.now) (graphs.network_of c.in_ok-other.other) c.in-Err.cause first same c.in_ok-other.ensures.read c.in-Err.ensures.refused refl

pub returns-clause-put : goal.returns-clause-put
returns-clause-put g c = λ one network disk first same.
    put_compared c.put_text.result one c.args.second.now network disk (g.F.Files.disk c.args.files.now) (g.O.Sink.screen c.args.out.now) (g.O.Sink.screen c.put_text.new.out)
    (graphs.network_of c.args.first.now) (graphs.network_of c.in_ok-other.other) c.in-Ok.comparison c.as_slice.result.now
    first same c.in_ok-other.ensures.read c.in-Ok.ensures.compared (c.as_slice.ensures.value ∙ c.in_ok-text.ensures) c.put_text.ensures.took

pub returns-clause-refused : goal.returns-clause-refused
returns-clause-refused g c = λ one network disk first same.
    part_compared c.put_text.result one c.args.second.now network disk (g.F.Files.disk c.args.files.now) (g.F.Files.disk c.read_file.new.files) (g.O.Sink.screen c.args.out.now) (g.O.Sink.screen c.put_text.new.out)
    (graphs.network_of c.args.first.now) (graphs.network_of c.in_ok-other.other) c.in-Ok.comparison c.as_slice.result.now
    first same c.in_ok-other.ensures.read c.in-Ok.ensures.compared (c.as_slice.ensures.value ∙ c.in_ok-text.ensures) c.put_text.ensures.refused
