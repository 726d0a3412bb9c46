use Rattle.std.proofs.Common.{◌≡◌, ◌≤◌, ◌+◌, length}
use Rattle.lq_load.specs.TableFile.{with_records}
use Rattle.lq_load.specs.CsvRecords.{IsReading, records_left}
use Rattle.lq_load.proofs.table_file.push_records.Given as goal

-- the table has the rows of the records so far
abbrev pub invariant-loop-table : goal.invariant-loop-table
invariant-loop-table l = record {
  reading : IsReading l.reader;
  place : l.place ≡ l.table.next + 1;
  room : l.table.next + length (records_left l.reader) ≤ 1 + length (records_left l.fn.reader);
  same : with_records (records_left l.reader) l.table ≡ with_records (records_left l.fn.reader) l.fn.table;
}

abbrev pub decreases-loop-table : goal.decreases-loop-table
decreases-loop-table l = length (records_left l.reader)
