use Rattle.std.proofs.Common.{[], arith, refl}
use Rattle.csv.specs.Records.{fields_of}
use Rattle.lq_load.proofs.HeaderLemmas.{header-keeps_rules, header_of_columns}
use Rattle.lq_load.proofs.table_file.table_under.Goals as goal

pub new-requires-clause-rules : goal.new-requires-clause-rules
new-requires-clause-rules c =
    let h = header_of_columns (fields_of c.args.header.now) [] c.in_ok-columns.columns c.in_ok-columns.ensures (record { distinct = refl; fair = refl }) in
    let size = h.1 in
    header-keeps_rules c.args.name c.in_ok-columns.columns h.0 (omega arith) (omega arith)
