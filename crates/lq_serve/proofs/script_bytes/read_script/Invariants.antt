use Rattle.std.proofs.Common.{◌≡◌, ◌≤◌, ◌<◌, ◌+◌, ◌-◌, false, vec_len}
use Rattle.std.specs.Io.KnownBytes.{Consumes}
use Rattle.lq_serve.specs.Devices.{inner_of, read_count, late_count_next, is_failed, is_ended}
use Rattle.lq_serve.proofs.script_bytes.read_script.Given as goal

abbrev pub invariant-loop-chunk : goal.invariant-loop-chunk
invariant-loop-chunk g l = record {
  unmarked : is_failed l.reader ≡ false;
  going_on : 0 < vec_len l.bytes → is_ended l.reader ≡ false;
  in_time : late_count_next l.reader ≤ late_count_next l.fn.reader;
  room : vec_len l.bytes ≤ l.limit + 1;
  reads : read_count l.reader ≤ read_count l.fn.reader + vec_len l.bytes;
  given : Consumes (g.R.Read.remaining (inner_of l.fn.reader)) (g.R.Read.remaining (inner_of l.reader)) l.bytes.items;
}

abbrev pub decreases-loop-chunk : goal.decreases-loop-chunk
decreases-loop-chunk g l = l.limit + 1 - vec_len l.bytes
