use Rattle.std.proofs.Common.{◌≡◌}
use Rattle.std.specs.Prelude.{alloc_error}
use Rattle.std.specs.Option.{ok_or}
use Rattle.std.specs.Result.{result_ok}
use Rattle.csv.specs.Records.{fields_of}
use Rattle.lq_load.proofs.CsvReading.{reads_outcome}
use Rattle.lq_load.proofs.reading.read_record.Goals as goal

pub returns : goal.returns
returns c =
    let e : c.ok_or.result ≡ ok_or (result_ok c.read_byte_record.result) alloc_error = rw c.ok.ensures.value at c.ok_or.ensures.value in
    reads_outcome c.args.reader.now c.read_byte_record.new.self (fields_of c.read_byte_record.new.row) c.read_byte_record.result c.ok_or.result c.requires
    c.read_byte_record.ensures.reads (c.read_byte_record.ensures.ready c.requires.trim) e
