use Rattle.syn_seq.proofs.checks.is_right.Goals as goal

pub loads_alike-requires-clause-earlier : goal.loads_alike-requires-clause-earlier
loads_alike-requires-clause-earlier c = (c.requires.targets c.args.number c.in-Merged.earlier c.in-Merged.is).0
