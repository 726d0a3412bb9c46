use Rattle.std.proofs.Common.{◌≤◌, arith, subst}
use Rattle.std.proofs.lemmas.List.{length-take}
use Rattle.lq_serve.specs.Devices.{late_count_next}
use Rattle.lq_serve.proofs.DeviceLemmas.{TakesAtMost-more, not_late}
use Rattle.lq_serve.proofs.script_bytes.read_script.Goals as goal

pub returns-in_err-extend_from_slice-clause-taken : goal.returns-in_err-extend_from_slice-clause-taken
returns-in_err-extend_from_slice-clause-taken g c =
    TakesAtMost-more _ _ _ _ _ _ c.loop-chunk.invariant.given c.in_ok-count.ensures.bytes.0
    (omega (
      arith,
      c.in_ok-count.ensures.bound.0,
      c.in_ok-count.ensures.bound.1,
      c.read.auto.buffer,
      length-take c.min-room.result c.loop-chunk.chunk,
      c.min-room.ensures,
      c.len-in-loop-chunk.ensures,
      c.loop-chunk.invariant.room,
    ))

pub returns-clause-in_time : goal.returns-clause-in_time
returns-clause-in_time g c =
    let some = c.loop-chunk.invariant.going_on (omega (arith, c.loop-chunk-test.false, c.len.ensures)) in
    subst (λ n. n ≤ late_count_next c.args.reader.now) (not_late c.loop-chunk.reader some) c.loop-chunk.invariant.in_time
