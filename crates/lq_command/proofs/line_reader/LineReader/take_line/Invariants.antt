use Rattle.std.proofs.Common.{◌≡◌}
use Rattle.lq_command.specs.Readers.{input_count, is_ended, is_marked, reader_of}
use Rattle.lq_command.proofs.Gathering.{Gathering}
use Rattle.lq_command.proofs.line_reader.LineReader.take_line.Given as goal

abbrev pub invariant-loop : goal.invariant-loop
invariant-loop g l = record {
  gathering : Gathering (g.R.Read.remaining (reader_of l.fn.self)) (g.R.Read.remaining (reader_of l.self))
      (is_ended l.fn.self) (is_ended l.self) l.draft;
  mark : is_marked l.self ≡ is_marked l.fn.self;
  count : input_count l.self ≡ input_count l.fn.self;
}
