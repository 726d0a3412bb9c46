use Rattle.std.proofs.Common.{◌≡◌, arith}
use Rattle.csv.specs.Reading.{default_config, records, strip_bom}
use Rattle.lq_load.specs.CsvRecords.{records_left}
use Rattle.lq_grammar.specs.Script.{without_marks}
use Rattle.lq_load.proofs.TableFileLemmas.{records-few, table_of-large, table_of-small}
use Rattle.lq_load.proofs.table_file.table_from_csv.Goals as goal

pub returns-then-bytes-gt-MOST_BYTES : goal.returns-then-bytes-gt-MOST_BYTES
returns-then-bytes-gt-MOST_BYTES c = table_of-large c.args.name c.args.bytes.now c.if-bytes-gt-MOST_BYTES.true

pub table_of_records-requires-clause-room : goal.table_of_records-requires-clause-room
table_of_records-requires-clause-room c =
    let left : records_left c.reader_of-reader.result ≡ records default_config (strip_bom (without_marks c.args.bytes.now)) = rw c.without_marks.ensures.marks at c.reader_of-reader.ensures.records in
    let few = records-few c.args.bytes.now in
    rw left (omega arith)

pub returns : goal.returns
returns c =
    let left : records_left c.reader_of-reader.result ≡ records default_config (strip_bom (without_marks c.args.bytes.now)) = rw c.without_marks.ensures.marks at c.reader_of-reader.ensures.records in
    rw (table_of-small c.args.name c.args.bytes.now c.if-bytes-gt-MOST_BYTES.false, ← left) c.table_of_records.ensures
