use Rattle.csv.specs.Reading.{strip_bom}
use Rattle.lq_load.proofs.CsvReading.{left-start}
use Rattle.lq_load.proofs.reading.reader_of.Goals as goal

pub returns-clause-records : goal.returns-clause-records
returns-clause-records c = left-start c.from_reader.result (strip_bom c.args.text.now) c.from_reader.ensures.state c.from_reader.ensures.source
