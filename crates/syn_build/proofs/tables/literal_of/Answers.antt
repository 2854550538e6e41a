use Rattle.std.proofs.Common.{◌∙◌, ap, map}
use Rattle.std.proofs.Common.{◌<◌, length}
use Rattle.std.proofs.lemmas.List.Elements.{All-same}
use Rattle.syn_rows.specs.Rows.{node_of}
use Rattle.syn_hashed.specs.Hashed.{lit_at}
use Rattle.syn_build.proofs.Known.{literals_there}
use Rattle.syn_build.proofs.tables.literal_of.Goals as goal

pub table_literal-requires-clause-inputs : goal.table_literal-requires-clause-inputs
table_literal-requires-clause-inputs c =
    All-same (λ l. node_of l < length c.args.hashed.now.rows.items) c.as_slice-2.result.now (map (lit_at c.args.literals.now) c.args.table.now.inputs)
    (c.as_slice-2.ensures.value ∙ c.in_ok-inputs.ensures ∙ ap (map (lit_at c.args.literals.now)) c.as_slice.ensures)
    (literals_there c.args.hashed.now.rows.items c.args.literals.now c.args.table.now.inputs c.requires.there c.requires.inputs)
