use Rattle.std.proofs.Common.{◌≡◌, ◌≤◌, ◌+◌, length}
use Rattle.lq_serve.specs.Devices.{inner_of, is_ended, is_failed, late_count, read_count, write_count}
use Rattle.lq_serve.proofs.DeviceLemmas.{Ahead}
use Rattle.lq_serve.proofs.device.Device.write_all.Given as goal

abbrev pub invariant-loop-rest : goal.invariant-loop-rest
invariant-loop-rest g l = record {
  ahead : Ahead (g.W.Write.contents (inner_of l.fn.self)) (g.W.Write.contents (inner_of l.self)) l.bytes l.rest;
  few : write_count l.self + length l.rest ≤ write_count l.fn.self + length l.bytes;
  marked : is_failed l.self ≡ is_failed l.fn.self;
  reads : read_count l.self ≡ read_count l.fn.self;
  late : late_count l.self ≡ late_count l.fn.self;
  ended : is_ended l.self ≡ is_ended l.fn.self;
}

abbrev pub decreases-loop-rest : goal.decreases-loop-rest
decreases-loop-rest g l = length l.rest
