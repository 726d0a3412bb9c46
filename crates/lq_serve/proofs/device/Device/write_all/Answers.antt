use Rattle.std.proofs.Common.{◌<◌, ◌∙◌, arith, length, rules}
use Rattle.lq_serve.proofs.DeviceLemmas.{Ahead-more, same_mark}
use Rattle.lq_serve.proofs.device.Device.write_all.Goals as goal

pub loop-rest-preserved : goal.loop-rest-preserved
loop-rest-preserved g c =
    let wrote = c.in_ok-count.ensures in
    let some : 0 < length c.loop-rest.rest.now = search rules in
    record {
      ahead = rw c.split_at.ensures.back (Ahead-more _ _ _ _ _ _ c.loop-rest.invariant.ahead wrote.bytes);
      few = omega (arith, c.loop-rest.invariant.few, wrote.counted, wrote.some some, wrote.bound, c.split_at.ensures.back_len);
      marked = same_mark _ _ (λ was is. (wrote.marked was).1 is) wrote.stays ∙ c.loop-rest.invariant.marked;
      reads = wrote.reads ∙ c.loop-rest.invariant.reads;
      late = wrote.late ∙ c.loop-rest.invariant.late;
      ended = wrote.ended ∙ c.loop-rest.invariant.ended;
    }
